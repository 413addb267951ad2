-- A turn at row j + 1, and the last row after the loop.
use Rattle.std.proofs.Common.{◌≡◌, ◌+◌, length, pos, sym, refl, ap, ◌∙◌, arith}
use Rattle.std.specs.List.{IsLastAndRest}
use Rattle.std.proofs.lemmas.List.{length-set}
use Rattle.line.specs.Pivot.{pivot}
use Rattle.line.specs.Elimination.{forward}
use Rattle.line.proofs.Loops.{forward_none, forward_ready, forward_more, at_rest, at_last, filled_more, filled_all}
use Rattle.line.proofs.elimination.sweep_forward.Goals as goal

pub loop-j-init : goal.loop-j-init
loop-j-init c = (sym (forward_none c.args.line.now), refl)

pub forward_step-g-requires : goal.forward_step-g-requires
forward_step-g-requires c =
    let cut : IsLastAndRest c.args.line.now c.unwrap.result.0.now c.unwrap.result.1.now = rw c.unwrap.ensures at c.split_last.ensures.cases in
    forward_ready c.args.line.now c.requires.0.small c.loop-j.j (omega arith) _ _ c.loop-j.invariant.0 (at_rest c.args.line.now _ _ cut c.loop-j.j c.loop-j-test.true)

pub loop-j-preserved : goal.loop-j-preserved
loop-j-preserved c =
    let cut : IsLastAndRest c.args.line.now c.unwrap.result.0.now c.unwrap.result.1.now = rw c.unwrap.ensures at c.split_last.ensures.cases in
    let step =
    forward_more c.args.line.now c.requires.0.small c.loop-j.j (omega arith) _ _ c.loop-j.invariant.0 (at_rest c.args.line.now _ _ cut c.loop-j.j c.loop-j-test.true) _ c.forward_step-g.result
    (c.inner.ensures (length c.args.line.now) (omega arith) (omega arith)) c.forward_step-g.ensures c.forward_step-g.type_inv in
    (step, filled_more (forward c.args.line.now) c.loop-j.out c.loop-j.j _ (omega arith) c.loop-j.invariant.1 step)

-- the last row

pub forward_step-requires : goal.forward_step-requires
forward_step-requires c =
    let cut : IsLastAndRest c.args.line.now c.unwrap.result.0.now c.unwrap.result.1.now = rw c.unwrap.ensures at c.split_last.ensures.cases in
    let end : c.loop-j.j ≡ length c.unwrap.result.1.now = omega arith in
    forward_ready c.args.line.now c.requires.0.small c.loop-j.j (omega arith) _ _ c.loop-j.invariant.0 (at_last c.args.line.now _ _ cut c.loop-j.j end)

pub returns : goal.returns
returns c =
    let cut : IsLastAndRest c.args.line.now c.unwrap.result.0.now c.unwrap.result.1.now = rw c.unwrap.ensures at c.split_last.ensures.cases in
    let end : c.loop-j.j ≡ length c.unwrap.result.1.now = omega arith in
    let whole : c.loop-j.j + 1 ≡ length c.args.line.now = omega arith in
    let step =
    forward_more c.args.line.now c.requires.0.small c.loop-j.j (omega arith) _ _ c.loop-j.invariant.0 (at_last c.args.line.now _ _ cut c.loop-j.j end) _ c.forward_step.result
    (c.last.ensures ∙ ap (λ n. pos (pivot (length c.args.line.now) n)) (sym whole)) c.forward_step.ensures c.forward_step.type_inv in
    rw (← end)
    (filled_all (forward c.args.line.now) _ (c.loop-j.j + 1) (length c.args.line.now) (simp length-set (omega arith)) whole
    (filled_more (forward c.args.line.now) c.loop-j.out c.loop-j.j _ (omega arith) c.loop-j.invariant.1 step))
