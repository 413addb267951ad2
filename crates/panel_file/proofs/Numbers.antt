-- Counts and parts, to their bytes and back.
use Rattle.std.proofs.Common.{◌≡◌, ℕ, ◌+◌, ◌*◌, ◌/◌, ◌%◌, ◌<◌, ◌≤◌, List, [], ◌∷◌, ℤ, pos, negsuc, nat_abs, ap, ◌∙◌, ap₂, arith}
use Rattle.std.proofs.lemmas.Bool.Decides.{nat_tests}
use Rattle.panel_file.specs.Field.{signed}
use Rattle.panel_file.specs.Format.{count_bytes, unsigned, part_bytes}

pub count_back : (n : ℕ) → n % 256 + n / 256 * 256 ≡ n
count_back n = omega arith

pub count_again : (a b : ℕ) → a < 256 → count_bytes (a + b * 256) ≡ a ∷ b ∷ []
count_again a b h =
    let low : (a + b * 256) % 256 ≡ a = omega arith in
    let high : (a + b * 256) / 256 ≡ b = omega arith in
    ap₂ (λ x y. x ∷ y ∷ []) low high

-- what four bytes mean as one number
abbrev pub word : ℕ → ℕ → ℕ → ℕ → ℕ
word a b c d = a + b * 256 + c * 65536 + d * 16777216

pub word_back : (n : ℕ) → n < 4294967296 → word (n % 256) (n / 256 % 256) (n / 65536 % 256) (n / 16777216 % 256) ≡ n
word_back n h =
    let second : n / 65536 ≡ n / 256 / 256 = omega arith in
    let third : n / 16777216 ≡ n / 256 / 256 / 256 = omega arith in
    rw (second, third) (omega arith)

pub signed_unsigned : (v : ℤ) → nat_abs v ≤ 100000 → signed (unsigned v) ≡ v
signed_unsigned (pos n) h = grind (arith, nat_tests)
signed_unsigned (negsuc n) h = grind (arith, nat_tests)

unsigned_low : (v : ℤ) → nat_abs v ≤ 100000 → unsigned v < 4294967296
unsigned_low (pos n) h = omega arith
unsigned_low (negsuc n) h = omega arith

pub part_back : (v : ℤ) → nat_abs v ≤ 100000 → signed (word (unsigned v % 256) (unsigned v / 256 % 256) (unsigned v / 65536 % 256) (unsigned v / 16777216 % 256)) ≡ v
part_back v h = ap signed (word_back (unsigned v) (unsigned_low v h)) ∙ signed_unsigned v h

pub unsigned_signed : (n : ℕ) → n < 4294967296 → unsigned (signed n) ≡ n
unsigned_signed n h = grind (arith, nat_tests)

pub part_again : (a b c d : ℕ) → a < 256 → b < 256 → c < 256 → d < 256 → part_bytes (signed (word a b c d)) ≡ a ∷ b ∷ c ∷ d ∷ []
part_again a b c d ha hb hc hd =
    ap (λ n. n % 256 ∷ n / 256 % 256 ∷ n / 65536 % 256 ∷ n / 16777216 % 256 ∷ []) (unsigned_signed (word a b c d) (omega arith))
    ∙ four (omega arith) (omega arith) (omega arith) (omega arith)
  where
    four : {p q r s : ℕ} → p ≡ a → q ≡ b → r ≡ c → s ≡ d → (p ∷ q ∷ r ∷ s ∷ []) ≡ (a ∷ b ∷ c ∷ d ∷ [])
    four e f g h = ap₂ (λ x (l : List ℕ). x ∷ l) e (ap₂ (λ x (l : List ℕ). x ∷ l) f (ap₂ (λ x y. x ∷ y ∷ []) g h))
