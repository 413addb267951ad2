-- The three sections one after the other, as `checked` walks them.
use Rattle.std.proofs.Common.{◌≡◌, ℕ, ◌+◌, ◌*◌, List, Result, Ok, sym, ap, ap₂, ◌∙◌, arith}
use Rattle.std.specs.Result.{result_and}
use Rattle.grid.specs.declared.size.GridSize.{GridSize}
use Rattle.grid.proofs.Chains.{passed_by, over}
use Rattle.panel_file.specs.declared.field.Field.{Field}
use Rattle.panel_file.specs.declared.refusal.FileFault.TheVariants.{WrongNameByte}
use Rattle.panel_file.specs.declared.refusal.FileRefusal.{FileRefusal}
use Rattle.panel_file.specs.declared.refusal.Section.TheVariants.{Name}
use Rattle.panel_file.specs.Field.{Answer, byte_at, count_at, present, fields}
use Rattle.panel_file.specs.Layout.{printable, sizes_answer, size_of, parts_of, samples_answer, samples_end, name_answer}
use Rattle.panel_file.specs.Open.{open_answer}
use Rattle.panel_file.specs.Walk.{walk_over}

-- The first two were passed: the third is the whole answer.
pub third : (file : List ℕ) (size : GridSize) (parts at : ℕ) (r : Answer) → sizes_answer file ≡ Ok tt → size ≡ size_of file → parts ≡ parts_of file →
    Ok at ≡ result_and (samples_answer file size parts) (Ok (samples_end size parts)) → name_answer file at ≡ r → open_answer file ≡ r
third file size parts at r first same_size same_parts walked is =
    let samples : GridSize → ℕ → Answer = samples_answer file in
    let second = passed_by (samples size parts) (samples_end size parts) at walked in
    over (sizes_answer file) (result_and (samples (size_of file) (parts_of file)) (name_answer file (samples_end (size_of file) (parts_of file)))) tt first
    ∙ ap₂ (λ s p. result_and (samples s p) (name_answer file (samples_end s p))) (sym same_size) (sym same_parts)
    ∙ over (samples size parts) (name_answer file (samples_end size parts)) tt second.0
    ∙ ap (name_answer file) (sym second.1)
    ∙ is

module _ (file : List ℕ) where
  -- the bytes of a name, as the code walks them
  abbrev pub named : ℕ → Field → Result Field FileRefusal
  named n here = result_and (fields file here.section WrongNameByte 1 (λ at. printable (byte_at file at)) n here.at) (Ok (record { section = here.section; at = here.at + n }))

  -- They are those that stand behind their count.
  pub name_walk : (at count n : ℕ) (first begin : Field) (r : Result Field FileRefusal) → first ≡ record { section = Name; at = at } →
      Ok count ≡ result_and (present file first.section 2 first.at) (Ok (count_at file first.at)) → n ≡ count → begin ≡ record { section = first.section; at = first.at + 2 } →
      r ≡ walk_over file WrongNameByte 1 (λ at. printable (byte_at file at)) n begin → r ≡ named (count_at file at) (record { section = Name; at = at + 2 })
  name_walk at count n first begin r is counted same here walked =
      let count_is = passed_by (present file first.section 2 first.at) (count_at file first.at) count counted in
      let one : n * 1 ≡ n = omega arith in
      walked
      ∙ ap (λ m. result_and (fields file begin.section WrongNameByte 1 (λ at. printable (byte_at file at)) n begin.at) (Ok (record { section = begin.section; at = begin.at + m }))) one
      ∙ ap₂ named (same ∙ count_is.1 ∙ ap (λ (f : Field). count_at file f.at) is) (here ∙ ap (λ (f : Field). record { section = f.section; at = f.at + 2 }) is)
