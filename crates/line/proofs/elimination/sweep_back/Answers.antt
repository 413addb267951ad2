-- A turn at row j, from the last row up to the first.
use Rattle.std.proofs.Common.{◌≡◌, ℕ, ◌-◌, length, pos, sym, refl, ap, ◌∙◌, arith, w64, to_z, of_z}
use Rattle.std.proofs.lemmas.Int.{to_z-of_z}
use Rattle.line.specs.FixedPoint.{scale, nearest}
use Rattle.line.specs.Pivot.{pivot}
use Rattle.line.specs.Elimination.{back}
use Rattle.line.specs.Sweeps.{back_small}
use Rattle.line.proofs.Loops.{back_none, back_ready, step_is, kept_below, done_above, done_all}
use Rattle.line.proofs.elimination.sweep_back.Goals as goal

pub loop-j-init : goal.loop-j-init
loop-j-init c = (sym (back_none c.args.out.now _ (omega arith)), λ k h. refl, λ k low high. absurd (omega arith))

pub back_step-x-requires : goal.back_step-x-requires
back_step-x-requires c =
    back_ready c.args.out.now c.loop-j.out c.loop-j.j c.loop-j-test.true c.loop-j.auto.j c.loop-j.invariant.1 c.requires.1 _ c.loop-j.invariant.0

step : (c : goal.After-back_step-x) → to_z w64 (of_z w64 c.back_step-x.result) ≡ back c.args.out.now (length c.args.out.now - (c.loop-j.j - 1))
step c =
    step_is c.args.out.now c.loop-j.out c.loop-j.j c.loop-j-test.true c.loop-j.auto.j c.loop-j.invariant.1 c.requires.1 c.inner.result.w _ c.back_step-x.result
    (λ below. c.inner.ensures (length c.args.out.now) (omega arith) c.requires.0 ∙ ap (λ (i : ℕ). pos (pivot (length c.args.out.now) i)) (omega arith))
    c.loop-j.invariant.0 c.back_step-x.ensures c.back_step-x.type_inv

pub rounded-requires : goal.rounded-requires
rounded-requires c =
    rw (step c) (omega (arith, back_small c.args.out.now (omega arith) c.requires.1 (length c.args.out.now - (c.loop-j.j - 1)) (omega arith)))

pub loop-j-preserved : goal.loop-j-preserved
loop-j-preserved c =
    let here : to_z w64 (of_z w64 c.rounded.result) ≡ nearest scale (back c.args.out.now (length c.args.out.now - (c.loop-j.j - 1))) =
    to_z-of_z w64 c.rounded.result (record { sfits = c.rounded.type_inv }) ∙ c.rounded.ensures ∙ ap (nearest scale) (step c.before) in (
      step c.before,
      kept_below c.args.out.now c.loop-j.out c.loop-j.j _ c.loop-j-test.true c.loop-j.auto.j c.loop-j.auto.out c.loop-j.invariant.1,
      done_above c.args.out.now c.loop-j.out c.loop-j.j _ c.loop-j-test.true c.loop-j.auto.j c.loop-j.auto.out here c.loop-j.invariant.2,
    )

pub returns : goal.returns
returns c = done_all c.args.out.now c.loop-j.out c.loop-j.auto.out (λ k h. c.loop-j.invariant.2 k (omega arith) h)
