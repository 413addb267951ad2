-- A walk over a row of fields, as `try_fold` makes it over a range of numbers.
use Rattle.std.proofs.Common.{◌≡◌, ℕ, suc, ◌+◌, ◌-◌, ◌*◌, Bool, List, [], ◌∷◌, Option, Some, None, MatchOption, IsErr, IsErrAnd, Ok, Err, Result, sym, ap, ◌∙◌, subst, arith}
use Rattle.std.proofs.iter.Yields.{nat_range_steps}
use Rattle.std.specs.declared.ops.Range.{Range}
use Rattle.std.specs.Fn.{Called}
use Rattle.std.specs.Iterator.{Yields, YieldsThen}
use Rattle.std.specs.List.{FoldsTo}
use Rattle.std.specs.Result.{result_and}
use denote.Param.Members.{Mut}
use Rattle.grid.proofs.Chains.{exit, refused_by, passed_by}
use Rattle.panel_file.specs.declared.field.Field.{Field}
use Rattle.panel_file.specs.declared.refusal.FileFault.{FileFault}
use Rattle.panel_file.specs.declared.refusal.FileRefusal.{FileRefusal}
use Rattle.panel_file.specs.Field.{Answer, field, fields}
use Rattle.panel_file.specs.Walk.{step_over, walk_over}

module _ (file : List ℕ) (fault : FileFault) (width : ℕ) (holds : ℕ → Bool) where
  abbrev pub moved : Field → ℕ → Field
  moved here n = record { section = here.section; at = here.at + n }

  abbrev one : Field → Result Field FileRefusal
  one = step_over file fault width holds

  abbrev row : ℕ → Field → Result Field FileRefusal
  row = walk_over file fault width holds

  row_none : (here : Field) → Ok here ≡ row 0 here
  row_none here =
      let e : here.at ≡ here.at + 0 * width = omega arith in
      ap (λ at. Ok (record { section = here.section; at = at })) e

  -- the first step decides, or leaves the rest
  row_with : (n : ℕ) (here : Field) (a : Answer) → field file here.section fault width holds here.at ≡ a →
      row (suc n) here ≡ result_and (result_and a (fields file here.section fault width holds n (here.at + width))) (Ok (moved here (suc n * width)))
  row_with n here a e = ap (λ (b : Answer). result_and (result_and b (fields file here.section fault width holds n (here.at + width))) (Ok (moved here (suc n * width)))) e

  row_on : (n : ℕ) (here next : Field) → Ok next ≡ one here → row n next ≡ row (suc n) here
  row_on n here next e =
      let passed = passed_by (field file here.section fault width holds here.at) (moved here width) next e in
      let far : here.at + width + n * width ≡ here.at + suc n * width = omega arith in
      ap (row n) passed.1
      ∙ ap (λ at. result_and (fields file here.section fault width holds n (here.at + width)) (Ok (record { section = here.section; at = at }))) far
      ∙ sym (row_with n here (Ok tt) passed.0)

  row_off : (n : ℕ) (here : Field) (refusal : FileRefusal) → Err refusal ≡ one here → Err refusal ≡ row (suc n) here
  row_off n here refusal e = sym (row_with n here (Err refusal) (refused_by (field file here.section fault width holds here.at) (moved here width) refusal e))

  module _ {F E : Type 0} {g : Mut F (Field × (ℕ × Unit {0})) (Result Field FileRefusal)} (said : E → FileRefusal) (f : F)
      (each : (here : Field) (x : ℕ) (v : Result Field FileRefusal) (q : F) → Called g f (here, (x, tt)) v q → (v ≡ one here) × (q ≡ f)) where
    abbrev pub Turn : F × Field → ℕ → F × Field → Type 0
    Turn p x q = (v : Result Field FileRefusal) × Called g p.0 (p.1, (x, tt)) v q.0 × (v ≡ Ok q.1)

    -- after the last turn: the numbers are at an end, or a step refused
    abbrev pub Last : Result Field FileRefusal → F → Field → Option ℕ → Type 0
    Last r h a o =
        MatchOption o (r ≡ Ok a)
        (λ x. (v : Result Field FileRefusal) × (q : F) × (e : E) × Called g h (a, (x, tt)) v q × (v ≡ Err (said e)) × (IsErr r × IsErrAnd r (λ y. y ≡ said e)))

    walk : (xs : List ℕ) (o : Option ℕ) (s t u : Range ℕ) (here a : Field) (h : F) (r : Result Field FileRefusal) → Yields nat_range_steps s xs t → nat_range_steps t o u →
        FoldsTo Turn (f, here) xs (h, a) → Last r h a o → r ≡ row (s.end - s.start) here
    walk [] None s t u here a h r y end folds last =
        let none : 0 ≡ s.end - s.start = omega (arith, ap (λ (i : Range ℕ). i.start) y, ap (λ (i : Range ℕ). i.end) y, end.1.0) in
        last ∙ ap (λ (p : F × Field). Ok p.1) (sym folds) ∙ row_none here ∙ ap (λ n. row n here) none
    walk [] (Some x) s t u here a h r y end folds (v, q, e, made, is, off) =
        let more : suc (s.end - s.start - 1) ≡ s.end - s.start = omega (arith, ap (λ (i : Range ℕ). i.start) y, ap (λ (i : Range ℕ). i.end) y, end.1.0) in
        let made_here = subst (λ (p : F × Field). Called g p.0 (p.1, (x, tt)) v q) (sym folds) made in
        exit r off.1 ∙ row_off (s.end - s.start - 1) here (said e) (sym is ∙ (each here x v q made_here).0) ∙ ap (λ n. row n here) more
    walk (x ∷ xs) o s t u here a h r (j, step, y) end (p, (v, made, is), folds) last =
        let more : suc (j.end - j.start) ≡ s.end - s.start = omega (arith, step.0, step.1.0, step.1.2) in
        let turn = each here x v p.0 made in
        walk xs o j t u p.1 a h r y end (subst (λ k. FoldsTo Turn (k, p.1) xs (h, a)) turn.1 folds) last
        ∙ row_on (j.end - j.start) here p.1 (sym is ∙ turn.0)
        ∙ ap (λ n. row n here) more

    -- A walk over such fields answers as their row does.
    pub walked : (n : ℕ) (u : Range ℕ) (here : Field) (r : Result Field FileRefusal) →
        (xs : List ℕ) × (o : Option ℕ) × (h : F) × (a : Field) × YieldsThen nat_range_steps (record { start = 0; end = n }) xs o u × FoldsTo Turn (f, here) xs (h, a) × Last r h a o → r ≡ row n here
    walked n u here r (xs, o, h, a, (t, y, end), folds, last) =
        let all : n - 0 ≡ n = omega arith in
        walk xs o (record { start = 0; end = n }) t u here a h r y end folds last ∙ ap (λ k. row k here) all
