-- What an accepted line gives the sweeps, and what both sweeps leave.
use Rattle.std.proofs.Common.{length, sym, ap, ◌∙◌, arith, rules}
use Rattle.line.specs.Elimination.{backs}
use Rattle.line.proofs.Accepted.{Accepted, accepted}
use Rattle.line.specs.Sweeps.{length_forwards, forwards_within}
use Rattle.line.proofs.Eliminated.{finds_whole}
use Rattle.line.proofs.elimination.EliminationLineSolver.solve.Goals as goal

pub sweep_forward-requires : goal.sweep_forward-requires
sweep_forward-requires c =
    let ok : Accepted c.args.line.now (length c.args.out.now) = accepted c.args.line.now (length c.args.out.now) (sym c.in_ok-accept.ensures) in
    (ok.admitted, omega (arith, ok.fits))

pub sweep_back-requires : goal.sweep_back-requires
sweep_back-requires c =
    let ok : Accepted c.args.line.now (length c.args.out.now) = accepted c.args.line.now (length c.args.out.now) (sym c.in_ok-accept.ensures) in
    rw c.sweep_forward.ensures (omega (arith, ok.admitted.high, length_forwards c.args.line.now), forwards_within c.args.line.now ok.admitted.small)

pub returns : goal.returns
returns c =
    let ok : Accepted c.args.line.now (length c.args.out.now) = accepted c.args.line.now (length c.args.out.now) (sym c.in_ok-accept.ensures) in
    record {
      answer = c.in_ok-accept.ensures;
      after = search rules;
      whole = λ z exact _. c.sweep_back.ensures ∙ ap backs c.sweep_forward.ensures ∙ finds_whole c.args.line.now ok.admitted z exact;
    }
