-- The panel file: what it holds, within which limits, and its bytes.
use Rattle.std.specs.Prelude.{◌≡◌, ℕ, ◌-◌, ◌*◌, ◌/◌, ◌%◌, ◌≤◌, ◌⊎◌, List, [], ◌∷◌, ◌++◌, length, ℤ, pos, negsuc, unsigned_abs}
use Rattle.std.specs.List.{flat_map, All}

-- The samples row by row, each the list of its parts, and a name.
pub record Contents : Type 0 where
  pub rows : ℕ
  pub columns : ℕ
  pub parts : ℕ
  pub samples : List (List ℤ)
  pub name : List ℕ

-- The limits.
pub record Valid (c : Contents) : Type 0 where
  pub rows_fit : (2 ≤ c.rows) × (c.rows ≤ 64)
  pub columns_fit : (2 ≤ c.columns) × (c.columns ≤ 64)
  pub parts_fit : (c.parts ≡ 1) ⊎ (c.parts ≡ 3)
  pub samples_fill : length c.samples ≡ c.rows * c.columns
  pub samples_have_parts : All (λ sample. length sample ≡ c.parts) c.samples
  pub samples_within : All (All (λ part. unsigned_abs part ≤ 100000)) c.samples
  pub name_short : length c.name ≤ 40
  pub name_printable : All (λ byte. (32 ≤ byte) × (byte ≤ 126)) c.name

-- A count: two bytes, the low one first.
abbrev pub count_bytes : ℕ → List ℕ
count_bytes n = n % 256 ∷ n / 256 ∷ []

-- A signed number as 32 bits.
abbrev pub unsigned : ℤ → ℕ
unsigned (pos n) = n
unsigned (negsuc n) = 4294967295 - n

-- A part: four bytes, the lowest first.
abbrev pub part_bytes : ℤ → List ℕ
part_bytes v = unsigned v % 256 ∷ unsigned v / 256 % 256 ∷ unsigned v / 65536 % 256 ∷ unsigned v / 16777216 % 256 ∷ []

-- Section 1: how many rows, columns and parts.
abbrev pub sizes_bytes : Contents → List ℕ
sizes_bytes c = count_bytes 3 ++ (c.rows ∷ c.columns ∷ c.parts ∷ [])

-- Section 2: the samples row by row, part by part.
abbrev pub samples_bytes : Contents → List ℕ
samples_bytes c = count_bytes (c.rows * c.columns) ++ flat_map (flat_map part_bytes) c.samples

-- Section 3: the name.
abbrev pub name_bytes : Contents → List ℕ
name_bytes c = count_bytes (length c.name) ++ c.name

-- The bytes of a panel file.
abbrev pub encode : Contents → List ℕ
encode c = sizes_bytes c ++ (samples_bytes c ++ name_bytes c)

-- The file is the encoding of these contents, which are within the limits.
abbrev pub Holds : List ℕ → Contents → Type 0
Holds file c = Valid c × (encode c ≡ file)
