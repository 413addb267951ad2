-- What the checks of an accepted file say, and that they are all there is to say.
use Rattle.std.proofs.Common.{◌≡◌, ℕ, ◌+◌, ◌*◌, ◌<◌, ◌≤◌, true, ◌⊎◌, List, length, nat_abs, Ok, arith}
use Rattle.std.proofs.lemmas.Bool.{leb-true, le-leb}
use Rattle.std.proofs.lemmas.Bool.Decides.{nat_tests}
use Rattle.panel_file.specs.declared.refusal.FileFault.TheVariants.{PartBeyond, WrongNameByte}
use Rattle.panel_file.specs.declared.refusal.Section.TheVariants.{Samples, Name}
use Rattle.panel_file.specs.Field.{byte_at, count_at, part_at}
use Rattle.panel_file.specs.Layout.{part_fits, printable, size_of, parts_of, parts_from, samples_end, name_from}
use Rattle.panel_file.specs.Open.{open_answer}
use Rattle.panel_file.proofs.Fields.{fields_say, fields_good}

-- how many numbers the samples have, and where the count of the name stands
abbrev pub numbers : List ℕ → ℕ
numbers file = (size_of file).rows * (size_of file).columns * parts_of file

abbrev pub name_count_at : List ℕ → ℕ
name_count_at file = samples_end (size_of file) (parts_of file)

abbrev pub Sized : ℕ → Type 0
Sized n = (2 ≤ n) × (n ≤ 64)

pub record Accepted (file : List ℕ) : Type 0 where
  pub three : count_at file 0 ≡ 3
  pub rows_fit : Sized (byte_at file 2)
  pub columns_fit : Sized (byte_at file 3)
  pub parts_fit : (byte_at file 4 ≡ 1) ⊎ (byte_at file 4 ≡ 3)
  pub counted : count_at file 5 ≡ byte_at file 2 * byte_at file 3
  pub begun : 7 ≤ length file
  pub within : (k : ℕ) → k < numbers file → (7 + k * 4 + 4 ≤ length file) × (nat_abs (part_at file (7 + k * 4)) ≤ 100000)
  pub name_counted : name_count_at file + 2 ≤ length file
  pub name_short : count_at file (name_count_at file) ≤ 40
  pub name_printable : (k : ℕ) → k < count_at file (name_count_at file) → (32 ≤ byte_at file (name_count_at file + 2 + k)) × (byte_at file (name_count_at file + 2 + k) ≤ 126)
  pub ended : length file ≡ name_count_at file + 2 + count_at file (name_count_at file)

-- Tests and what they say

printed : (b : ℕ) → printable b ≡ true → (32 ≤ b) × (b ≤ 126)
printed b h = (grind (arith, nat_tests), grind (arith, nat_tests))

prints : (b : ℕ) → (32 ≤ b) × (b ≤ 126) → printable b ≡ true
prints b h = grind (arith, nat_tests)

module _ (file : List ℕ) where
  -- the two counts of the tail
  abbrev E : ℕ
  E = name_count_at file

  abbrev L : ℕ
  L = count_at file E

  pub accepted : open_answer file ≡ Ok tt → Accepted file
  accepted h =
      let parts : parts_from file (numbers file) 7 ≡ Ok tt = grind (arith, nat_tests) in
      let name : name_from file L (E + 2) ≡ Ok tt = grind (arith, nat_tests) in
      let each = fields_say file Samples PartBeyond 4 (λ at. part_fits (part_at file at)) (numbers file) 7 parts in
      let bytes = fields_say file Name WrongNameByte 1 (λ at. printable (byte_at file at)) L (E + 2) name in
      record {
        three = grind (arith, nat_tests);
        rows_fit = (grind (arith, nat_tests), grind (arith, nat_tests));
        columns_fit = (grind (arith, nat_tests), grind (arith, nat_tests));
        parts_fit = grind (arith, nat_tests);
        counted = grind (arith, nat_tests);
        begun = grind (arith, nat_tests);
        within = λ k low. ((each k low).0, leb-true _ _ (each k low).1);
        name_counted = grind (arith, nat_tests);
        name_short = grind (arith, nat_tests);
        name_printable = λ k low. printed_at k (bytes k low).1;
        ended = grind (arith, nat_tests);
      }
    where
      printed_at : (k : ℕ) → printable (byte_at file (E + 2 + k * 1)) ≡ true → (32 ≤ byte_at file (E + 2 + k)) × (byte_at file (E + 2 + k) ≤ 126)
      printed_at k h = let one : k * 1 ≡ k = omega arith in printed _ (rw one at h)

  pub admitted : Accepted file → open_answer file ≡ Ok tt
  admitted a =
      let begun : 7 ≤ length file = a.begun in
      let parts : parts_from file (numbers file) 7 ≡ Ok tt = fields_good file Samples PartBeyond 4 (λ at. part_fits (part_at file at)) (numbers file) 7 (λ k low. ((a.within k low).0, le-leb _ _ (a.within k low).1)) in
      let name : name_from file L (E + 2) ≡ Ok tt = fields_good file Name WrongNameByte 1 (λ at. printable (byte_at file at)) L (E + 2) byte in
      grind (arith, nat_tests, a.three, a.rows_fit, a.columns_fit, a.parts_fit, a.counted, a.name_counted, a.name_short, a.ended)
    where
      byte : (k : ℕ) → k < L → (E + 2 + k * 1 + 1 ≤ length file) × (printable (byte_at file (E + 2 + k * 1)) ≡ true)
      byte k low =
          let one : k * 1 ≡ k = omega arith in
          (omega (arith, a.ended), rw one (prints _ (a.name_printable k low)))
