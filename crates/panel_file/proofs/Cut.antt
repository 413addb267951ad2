-- What stands after the first 49,202 bytes of a file changes nothing: no field lies there.
use Rattle.std.proofs.Common.{◌≡◌, ℕ, zero, suc, ◌+◌, ◌*◌, ◌<◌, ◌≤◌, Bool, eqb, leb, ◌⊎◌, List, length, take, Ok, Err, Result, sym, refl, ap, ◌∙◌, subst, ap₂, inl, inr, mul-le-mul, arith}
use Rattle.std.proofs.lemmas.List.{get_or-take, length-take-le, take_all}
use Rattle.std.proofs.lemmas.Bool.{cases_lt, le-leb, leb-true, ne_eqb}
use Rattle.std.proofs.lemmas.Bool.Decides.{nat_tests}
use Rattle.std.specs.Result.{result_and}
use Rattle.grid.specs.Checks.{check}
use Rattle.grid.specs.declared.size.GridSize.{GridSize}
use Rattle.panel_file.specs.declared.refusal.FileFault.{FileFault}
use Rattle.panel_file.specs.declared.refusal.FileFault.TheVariants.{WrongCount, WrongParts, WrongSize, PartBeyond, BytesLeftOver, WrongNameByte, EndsEarly}
use Rattle.panel_file.specs.declared.refusal.FileRefusal.{FileRefusal}
use Rattle.panel_file.specs.declared.refusal.FillFault.TheVariants.{File, GridLength}
use Rattle.panel_file.specs.declared.refusal.Section.{Section}
use Rattle.panel_file.specs.declared.refusal.Section.TheVariants.{Sizes, Samples, Name}
use Rattle.panel_file.specs.Field.{Answer, refused, byte_at, count_at, part_at, signed, field, fields}
use Rattle.panel_file.specs.Layout.{size_fits, parts_fit, part_fits, printable, sizes_answer, size_of, parts_of, samples_answer, samples_end, name_from, name_answer}
use Rattle.panel_file.specs.Open.{open_answer, summary, open_result}
use Rattle.panel_file.specs.Fill.{FillAnswer, of_file, fill_answer}
use Rattle.panel_file.specs.Laws.{Enough}
use Rattle.panel_file.proofs.Accepted.{accepted}
use Rattle.panel_file.proofs.Fields.{field_says}
use Rattle.panel_file.proofs.Numbers.{word}

-- Two chains with one first step are alike if what follows is, once that step is passed.
then_alike : {B : Type 0} (a : Answer) {x y : Result B FileRefusal} → (a ≡ Ok tt → x ≡ y) → result_and a x ≡ result_and a y
then_alike (Ok _) h = h refl
then_alike (Err e) h = refl

-- A file and its beginning, which is long enough for every field.
module _ (file : List ℕ) (long : 49202 < length file) where
  abbrev front : List ℕ
  front = take 49202 file

  front_length : length front ≡ 49202
  front_length = length-take-le 49202 file (omega arith)

  byte_same : (at : ℕ) → at < 49202 → byte_at front at ≡ byte_at file at
  byte_same at low = get_or-take 49202 file at 0 low

  count_same : (at : ℕ) → at + 2 ≤ 49202 → count_at front at ≡ count_at file at
  count_same at low = ap₂ (λ p q. p + q * 256) (byte_same at (omega arith)) (byte_same (at + 1) (omega arith))

  part_same : (at : ℕ) → at + 4 ≤ 49202 → part_at front at ≡ part_at file at
  part_same at low =
      ap₂ (λ p q. signed (word p q (byte_at front (at + 2)) (byte_at front (at + 3)))) (byte_same at (omega arith)) (byte_same (at + 1) (omega arith))
      ∙ ap₂ (λ p q. signed (word (byte_at file at) (byte_at file (at + 1)) p q)) (byte_same (at + 2) (omega arith)) (byte_same (at + 3) (omega arith))

  module _ (section : Section) (fault : FileFault) (width : ℕ) (cut whole : ℕ → Bool) where
    field_alike : (at : ℕ) → at + width ≤ 49202 → cut at ≡ whole at → field front section fault width cut at ≡ field file section fault width whole at
    field_alike at low same =
        ap₂ (λ p q. result_and (check p (refused EndsEarly section at)) (check q (refused fault section at)))
        (le-leb (at + width) (length front) (omega (arith, front_length)) ∙ sym (le-leb (at + width) (length file) (omega arith))) same

    fields_alike : (n at : ℕ) → at + n * width ≤ 49202 → ((k : ℕ) → k + width ≤ 49202 → cut k ≡ whole k) → fields front section fault width cut n at ≡ fields file section fault width whole n at
    fields_alike zero at low same = refl
    fields_alike (suc n) at low same =
        ap₂ result_and (field_alike at (omega arith) (same at (omega arith))) (fields_alike n (at + width) (omega arith) same)

  sizes_alike : sizes_answer front ≡ sizes_answer file
  sizes_alike =
      ap₂ result_and (field_alike Sizes WrongCount 2 (λ at. eqb (count_at front at) 3) (λ at. eqb (count_at file at) 3) 0 (omega arith) (ap (λ n. eqb n 3) (count_same 0 (omega arith))))
      (ap₂ result_and (field_alike Sizes WrongSize 1 (λ at. size_fits (byte_at front at)) (λ at. size_fits (byte_at file at)) 2 (omega arith) (ap size_fits (byte_same 2 (omega arith))))
      (ap₂ result_and (field_alike Sizes WrongSize 1 (λ at. size_fits (byte_at front at)) (λ at. size_fits (byte_at file at)) 3 (omega arith) (ap size_fits (byte_same 3 (omega arith))))
      (field_alike Sizes WrongParts 1 (λ at. parts_fit (byte_at front at)) (λ at. parts_fit (byte_at file at)) 4 (omega arith) (ap parts_fit (byte_same 4 (omega arith))))))

  -- the sizes of a file whose first section is good
  record Small : Type 0 where
    rows : byte_at file 2 ≤ 64
    columns : byte_at file 3 ≤ 64
    parts : byte_at file 4 ≤ 3

  small : sizes_answer file ≡ Ok tt → Small
  small h = record { rows = grind (arith, nat_tests); columns = grind (arith, nat_tests); parts = grind (arith, nat_tests) }

  abbrev size : GridSize
  size = size_of file

  abbrev E : ℕ
  E = samples_end size (parts_of file)

  ends_low : Small → E ≤ 49159
  ends_low s =
      let places : byte_at file 2 * byte_at file 3 ≤ 4096 = mul-le-mul s.rows s.columns in
      let numbers : byte_at file 2 * byte_at file 3 * byte_at file 4 ≤ 12288 = mul-le-mul places s.parts in
      omega arith

  samples_alike : Small → samples_answer front size (parts_of file) ≡ samples_answer file size (parts_of file)
  samples_alike s =
      ap₂ result_and (field_alike Samples WrongCount 2 (λ at. eqb (count_at front at) (size.rows * size.columns)) (λ at. eqb (count_at file at) (size.rows * size.columns)) 5 (omega arith) (ap (λ n. eqb n (size.rows * size.columns)) (count_same 5 (omega arith))))
      (fields_alike Samples PartBeyond 4 (λ at. part_fits (part_at front at)) (λ at. part_fits (part_at file at)) (size.rows * size.columns * parts_of file) 7 (omega (arith, ends_low s)) (λ k low. ap part_fits (part_same k low)))

  -- neither ends with the name
  end_alike : (end : ℕ) → end ≤ 49201 → check (eqb (length front) end) (refused BytesLeftOver Name end) ≡ check (eqb (length file) end) (refused BytesLeftOver Name end)
  end_alike end low =
      ap (λ b. check b (refused BytesLeftOver Name end))
      (ne_eqb (length front) end (λ e. omega (arith, front_length)) ∙ sym (ne_eqb (length file) end (λ e. omega arith)))

  name_alike : Small → name_answer front E ≡ name_answer file E
  name_alike s =
      let low = ends_low s in
      let same : count_at front E ≡ count_at file E = count_same E (omega arith) in
      ap₂ (λ a n. result_and a (result_and (name_from front n (E + 2)) (check (eqb (length front) (E + 2 + n)) (refused BytesLeftOver Name (E + 2 + n)))))
      (field_alike Name WrongCount 2 (λ at. leb (count_at front at) 40) (λ at. leb (count_at file at) 40) E (omega arith) (ap (λ n. leb n 40) same)) same
      ∙ then_alike (field file Name WrongCount 2 (λ at. leb (count_at file at) 40) E) (λ h. rest (leb-true _ _ (field_says file Name WrongCount 2 (λ at. leb (count_at file at) 40) E h).1))
    where
      rest : count_at file E ≤ 40 →
          result_and (name_from front (count_at file E) (E + 2)) (check (eqb (length front) (E + 2 + count_at file E)) (refused BytesLeftOver Name (E + 2 + count_at file E)))
          ≡ result_and (name_from file (count_at file E) (E + 2)) (check (eqb (length file) (E + 2 + count_at file E)) (refused BytesLeftOver Name (E + 2 + count_at file E)))
      rest short =
          ap₂ result_and (fields_alike Name WrongNameByte 1 (λ at. printable (byte_at front at)) (λ at. printable (byte_at file at)) (count_at file E) (E + 2) (omega (arith, ends_low s)) (λ k low. ap printable (byte_same k (omega arith))))
          (end_alike (E + 2 + count_at file E) (omega (arith, ends_low s)))

  -- the sizes that the front says
  abbrev tail : GridSize → ℕ → Answer
  tail s p = result_and (samples_answer front s p) (name_answer front (samples_end s p))

  front_alike : open_answer front ≡ open_answer file
  front_alike =
      let same_size : size_of front ≡ size = ap₂ (λ r c. record { rows = r; columns = c }) (byte_same 2 (omega arith)) (byte_same 3 (omega arith)) in
      ap₂ (λ a s. result_and a (tail s (parts_of front))) sizes_alike same_size
      ∙ ap (λ p. result_and (sizes_answer file) (tail size p)) (byte_same 4 (omega arith))
      ∙ then_alike (sizes_answer file) (λ h. ap₂ result_and (samples_alike (small h)) (name_alike (small h)))

  -- and no file of this length is good
  not_good : open_answer file ≡ Ok tt → ⊥
  not_good h =
      let a = accepted file h in
      let s : Small = record { rows = a.rows_fit.1; columns = a.columns_fit.1; parts = grind (arith, a.parts_fit) } in
      omega (arith, ends_low s, a.ended, a.name_short)

  longer_opens : open_result front ≡ open_result file
  longer_opens =
      ap (λ a. result_and a (Ok (summary front))) front_alike ∙ then_alike (open_answer file) (λ h. absurd (not_good h))

  longer_fills : (parts room : ℕ) → fill_answer parts front room ≡ fill_answer parts file room
  longer_fills parts room = ap (λ a. result_and (of_file a) (rest front)) front_alike ∙ stopped (open_answer file) not_good
    where
      -- the two checks of the grid
      rest : List ℕ → FillAnswer
      rest bytes =
          result_and (check (eqb (parts_of bytes) parts) (File (refused WrongParts Sizes 4)))
          (check (eqb room ((size_of bytes).rows * (size_of bytes).columns)) GridLength)

      stopped : (a : Answer) → (a ≡ Ok tt → ⊥) → result_and (of_file a) (rest front) ≡ result_and (of_file a) (rest file)
      stopped (Ok _) h = absurd (h refl)
      stopped (Err e) h = refl

-- A file that is no longer is its own beginning.
by_length : (P : List ℕ → List ℕ → Type 0) (file : List ℕ) → (49202 < length file → P (take 49202 file) file) → P file file → P (take 49202 file) file
by_length P file longer same = go (cases_lt 49202 (length file))
  where
    go : (49202 < length file) ⊎ (length file ≤ 49202) → P (take 49202 file) file
    go (inl long) = longer long
    go (inr short) = subst (λ bytes. P bytes file) (sym (take_all 49202 file short)) same

pub enough : Enough 49202
enough = record {
  opens = λ file. by_length (λ a b. open_result a ≡ open_result b) file (longer_opens file) refl;
  fills = λ file parts room. by_length (λ a b. fill_answer parts a room ≡ fill_answer parts b room) file (λ long. longer_fills file long parts room) refl;
  whole = λ file good. by_length (λ a b. a ≡ b) file (λ long. absurd (not_good file long good)) refl;
}
