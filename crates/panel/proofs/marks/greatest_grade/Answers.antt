-- The marks come one by one, each copied.
use Rattle.std.proofs.Common.{◌≡◌, ℕ, ◌+◌, ◌-◌, ◌<◌, List, length, take, get_or, sym, ap, ◌∙◌, arith}
use Rattle.std.proofs.lemmas.Iterator.{YieldsList-from_slice}
use Rattle.std.proofs.lemmas.Iterator.Consumers.{YieldsList-at, YieldsList-from_copied, YieldsList-turn, YieldsList-end}
use Rattle.std.proofs.lemmas.List.{get_or_past, get_or-take, get_or_default, length-take, length_push}
use Rattle.panel.specs.declared.record.Mark.{Mark}
use Rattle.panel.specs.declared.record.Mark.TheVariants.{Unrun}
use Rattle.panel.specs.Calls.{mark, grade_of}
use Rattle.panel.specs.Reading.{greatest}
use Rattle.panel.proofs.Needed.{greatest_more, greatest_used}
use Rattle.panel.proofs.marks.greatest_grade.Goals as goal

-- the next mark is that of the next line
next_mark : (ks : List Mark) (used n : ℕ) (m : Mark) → n < length (take used ks) → m ≡ get_or (take used ks) n m → m ≡ mark ks (n + 1)
next_mark ks used n m low is =
    let here : n + 1 - 1 ≡ n = omega arith in
    is ∙ get_or-take used ks n m (omega (arith, length-take used ks)) ∙ get_or_default ks n m Unrun (omega (arith, length-take used ks)) ∙ ap (λ i. get_or ks i Unrun) (sym here)

pub loop-mark-preserved : goal.loop-mark-preserved
loop-mark-preserved c =
    let ks = c.args.marks.now in
    let copied = YieldsList-from_copied (YieldsList-at c.copied-mark-items.ensures.source (YieldsList-from_slice (take c.min.result ks) c.iter.ensures.rest)) in
    let t = YieldsList-turn (YieldsList-at c.into_iter-mark-iterator.ensures.into_iter_gives copied) c.loop-mark.yielded _ c.loop-mark.yielded_by _ _ c.in-Some.mark c.in-Some.is c.next.ensures.steps in
    let n = length c.loop-mark.yielded in
    greatest_more (λ i. grade_of (mark ks i)) n c.loop-mark.most _ _ c.loop-mark.invariant (c.grade.ensures ∙ ap grade_of (next_mark ks c.min.result n c.in-Some.mark t.0 t.1)) c.max-most.ensures
    ∙ ap (greatest (λ i. grade_of (mark ks i))) (sym (length_push c.loop-mark.yielded c.in-Some.mark))

pub returns : goal.returns
returns c =
    let ks = c.args.marks.now in
    let used = c.min.result in
    let copied = YieldsList-from_copied (YieldsList-at c.copied-mark-items.ensures.source (YieldsList-from_slice (take used ks) c.iter.ensures.rest)) in
    let t = YieldsList-end (YieldsList-at c.into_iter-mark-iterator.ensures.into_iter_gives copied) c.loop-mark.yielded _ c.loop-mark.yielded_by _ _ c.in-None.is c.next.ensures.steps in
    let done : length c.loop-mark.yielded ≡ used = omega (arith, t.1, length-take used ks, c.min.ensures) in
    c.loop-mark.invariant ∙ ap (greatest (λ i. grade_of (mark ks i))) done
    ∙ greatest_used (λ i. grade_of (mark ks i)) used c.args.count (omega (arith, c.min.ensures))
    (λ i past within. ap grade_of (get_or_past ks (i - 1) Unrun (omega (arith, c.min.ensures))))
