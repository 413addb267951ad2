-- The encoding of contents within the limits is accepted, and just these contents are read from it.
use Rattle.std.proofs.Common.{◌≡◌, ℕ, ◌+◌, ◌*◌, ◌<◌, ◌≤◌, List, [], ◌∷◌, ◌++◌, length, get_or, take, drop, ℤ, pos, nat_abs, sym, refl, ap, ◌∙◌, ap₂, arith}
use Rattle.std.specs.List.{flat_map, All}
use Rattle.std.proofs.lemmas.Nat.{mul-add-lt}
use Rattle.std.proofs.lemmas.List.FromFn.{length-map-range_with_len, get_or-map-range_with_len}
use Rattle.std.proofs.lemmas.List.Elements.{All-nil, All-head, All-tail, All-append}
use Rattle.std.proofs.lemmas.List.{append-nil, drop-drop, drop_at, length-append, get_or-drop, get_or-take, ext_get_or}
use Rattle.panel_file.specs.Field.{byte_at, count_at, part_at, signed}
use Rattle.panel_file.specs.Format.{Contents, Valid, count_bytes, part_bytes, encode}
use Rattle.panel_file.specs.Fill.{parts_at, samples_of}
use Rattle.panel_file.proofs.Accepted.{Accepted}
use Rattle.panel_file.proofs.Blocks.{block_at, length_joined, joined_joined}
use Rattle.panel_file.proofs.Decoded.{decode}
use Rattle.panel_file.proofs.Numbers.{count_back, word, part_back}

all_joined : {X : Type 0} (P : X → Type 0) (xss : List (List X)) → All (All P) xss → All P (flat_map (λ xs. xs) xss)
all_joined P [] h = All-nil P
all_joined P (xs ∷ xss) h = All-append P xs (flat_map (λ xs. xs) xss) (All-head (All P) xs xss h) (all_joined P xss (All-tail (All P) xs xss h))

-- an element of a block that was cut out of a list
block_element : {A : Type 0} (xs ys : List A) (from w k : ℕ) (d : A) → take w (drop from xs) ≡ ys → k < w → get_or xs (from + k) d ≡ get_or ys k d
block_element xs ys from w k d cut low = sym (get_or-drop from xs k d) ∙ sym (get_or-take w (drop from xs) k d low) ∙ ap (λ l. get_or l k d) cut

module _ (c : Contents) (v : Valid c) where
  abbrev file : List ℕ
  file = encode c

  abbrev R : ℕ
  R = c.rows * c.columns

  abbrev P : ℕ
  P = c.parts

  abbrev N : List ℕ
  N = count_bytes (length c.name) ++ c.name

  -- all parts of all samples, one after the other
  abbrev flat : List ℤ
  flat = flat_map (λ sample. sample) c.samples

  flat_length : length flat ≡ R * P
  flat_length = length_joined (λ sample. sample) P c.samples v.samples_have_parts ∙ ap (λ n. n * P) v.samples_fill

  flat_within : All (λ part. nat_abs part ≤ 100000) flat
  flat_within = all_joined (λ part. nat_abs part ≤ 100000) c.samples v.samples_within

  flat_at : (i k : ℕ) → i < R → k < P → get_or flat (i * P + k) (pos 0) ≡ get_or (get_or c.samples i []) k (pos 0)
  flat_at i k row part =
      block_element flat (get_or c.samples i []) (i * P) P k (pos 0)
      (ap (λ l. take P (drop (i * P) l)) (sym (append-nil flat)) ∙ block_at (λ sample. sample) P c.samples [] i [] v.samples_have_parts (omega (arith, v.samples_fill))) part

  -- the file from offset 7 on
  after_7 : drop 7 file ≡ flat_map part_bytes flat ++ N
  after_7 = ap (λ l. l ++ N) (sym (joined_joined part_bytes (λ sample. sample) c.samples))

  four_bytes : (xs : List ℤ) → All (λ part. length (part_bytes part) ≡ 4) xs
  four_bytes xs k d low = refl

  bytes_length : length (flat_map part_bytes flat) ≡ R * P * 4
  bytes_length = length_joined part_bytes 4 flat (four_bytes flat) ∙ ap (λ n. n * 4) flat_length

  -- byte j of part k
  part_byte : (k j : ℕ) → k < R * P → j < 4 → byte_at file (7 + k * 4 + j) ≡ get_or (part_bytes (get_or flat k (pos 0))) j 0
  part_byte k j low small =
      let there : 7 + k * 4 + j ≡ 7 + (k * 4 + j) = omega arith in
      ap (byte_at file) there ∙ sym (get_or-drop 7 file (k * 4 + j) 0)
      ∙ block_element (drop 7 file) (part_bytes (get_or flat k (pos 0))) (k * 4) 4 j 0
      (ap (λ l. take 4 (drop (k * 4) l)) after_7 ∙ block_at part_bytes 4 flat N k (pos 0) (four_bytes flat) (omega (arith, flat_length))) small

  same_word : {a b e f a' b' e' f' : ℕ} → a ≡ a' → b ≡ b' → e ≡ e' → f ≡ f' → word a b e f ≡ word a' b' e' f'
  same_word p q r s = omega arith

  flat_small : (k : ℕ) → k < R * P → nat_abs (get_or flat k (pos 0)) ≤ 100000
  flat_small k low = flat_within k (pos 0) (omega (arith, flat_length))

  part_read : (k : ℕ) → k < R * P → part_at file (7 + k * 4) ≡ get_or flat k (pos 0)
  part_read k low =
      let first : 7 + k * 4 + 0 ≡ 7 + k * 4 = omega arith in
      ap signed (same_word (ap (byte_at file) (sym first) ∙ part_byte k 0 low (omega arith)) (part_byte k 1 low (omega arith)) (part_byte k 2 low (omega arith)) (part_byte k 3 low (omega arith)))
      ∙ part_back (get_or flat k (pos 0)) (flat_small k low)

  abbrev E : ℕ
  E = 7 + R * P * 4

  after_samples : drop E file ≡ N
  after_samples = sym (drop-drop (R * P * 4) 7 file) ∙ ap (drop (R * P * 4)) after_7 ∙ drop_at (flat_map part_bytes flat) N (R * P * 4) bytes_length

  name_read : drop (E + 2) file ≡ c.name
  name_read = sym (drop-drop 2 E file) ∙ ap (drop 2) after_samples

  name_count : count_at file E ≡ length c.name
  name_count =
      let first : E + 0 ≡ E = omega arith in
      ap₂ (λ p q. p + q * 256) (ap (byte_at file) (sym first) ∙ sym (get_or-drop E file 0 0) ∙ ap (λ l. get_or l 0 0) after_samples) (sym (get_or-drop E file 1 0) ∙ ap (λ l. get_or l 1 0) after_samples)
      ∙ count_back (length c.name)

  file_length : length file ≡ E + 2 + length c.name
  file_length =
      let tail : length (drop 7 file) ≡ R * P * 4 + (2 + length c.name) = ap length after_7 ∙ length-append (flat_map part_bytes flat) N ∙ omega (arith, bytes_length) in
      omega arith

  pub accepts : Accepted file
  accepts =
      record {
        three = refl;
        rows_fit = v.rows_fit;
        columns_fit = v.columns_fit;
        parts_fit = v.parts_fit;
        counted = count_back R;
        begun = omega (arith, file_length);
        within = λ k low. (omega (arith, file_length), rw (part_read k low) (flat_small k low));
        name_counted = omega (arith, file_length);
        name_short = omega (arith, name_count, v.name_short);
        name_printable = λ k low. printable k (omega (arith, name_count));
        ended = omega (arith, file_length, name_count);
      }
    where
      printable : (k : ℕ) → k < length c.name → (32 ≤ byte_at file (E + 2 + k)) × (byte_at file (E + 2 + k) ≤ 126)
      printable k low = rw (← get_or-drop (E + 2) file k 0, name_read) (v.name_printable k 0 low)

  sample_read : (i : ℕ) → i < R → parts_at file P (7 + i * (P * 4)) ≡ get_or c.samples i []
  sample_read i row =
      let long : length (get_or c.samples i []) ≡ P = v.samples_have_parts i [] (omega (arith, v.samples_fill)) in
      let count : length (parts_at file P (7 + i * (P * 4))) ≡ P = length-map-range_with_len (λ k. part_at file (7 + i * (P * 4) + k * 4)) 0 P in
      ext_get_or (pos 0) _ _ (count ∙ sym long) (λ k low. part k (omega arith))
    where
      part : (k : ℕ) → k < P → get_or (parts_at file P (7 + i * (P * 4))) k (pos 0) ≡ get_or (get_or c.samples i []) k (pos 0)
      part k low =
          let there : 7 + i * (P * 4) + k * 4 ≡ 7 + (i * P + k) * 4 = omega arith in
          get_or-map-range_with_len (λ k. part_at file (7 + i * (P * 4) + k * 4)) 0 P k k (pos 0) low (omega arith)
          ∙ ap (part_at file) there
          ∙ part_read (i * P + k) (omega (arith, mul-add-lt i P k R row low))
          ∙ flat_at i k row low

  samples_read : samples_of file P R ≡ c.samples
  samples_read =
      let count : length (samples_of file P R) ≡ R = length-map-range_with_len (λ i. parts_at file P (7 + i * (P * 4))) 0 R in
      ext_get_or [] _ _ (count ∙ sym v.samples_fill)
      (λ i low. get_or-map-range_with_len (λ i. parts_at file P (7 + i * (P * 4))) 0 R i i [] (omega arith) (omega arith) ∙ sample_read i (omega arith))

  pub reads_back : decode file ≡ c
  reads_back = ap₂ (λ s n. record { rows = c.rows; columns = c.columns; parts = c.parts; samples = s; name = n }) samples_read name_read
