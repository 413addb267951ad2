-- The code's numbers are those of the line, and its indices those of the places beside.
use Rattle.std.proofs.Common.{◌≡◌, ◌-◌, get_or, length, pos, w64, SFits, rules}
use mir.Syntax.{w128}
use Rattle.std.proofs.lemmas.Int.{to_z-of_z}
use Rattle.line.specs.Line.{OnLine}
use Rattle.line.proofs.Answered.{answered}
use Rattle.line.proofs.residual.residual_at.Goals as goal

pub returns : goal.returns
returns c =
    let on : OnLine (length c.args.line.now) c.args.place = search rules in
    let index : c.in_ok-i.i ≡ c.args.place - 1 = search rules in
    let before : SFits w64 (get_or c.args.answer.now c.saturating_sub.result (pos 0)) = search rules in
    let own : SFits w64 (get_or c.args.answer.now c.in_ok-i.i (pos 0)) = search rules in
    let after : SFits w64 (get_or c.args.answer.now c.min.result (pos 0)) = search rules in
    let number : c.in_ok-number.field-0.now ≡ get_or c.args.line.now c.in_ok-i.i (pos 0) = search rules in
    let its : SFits w64 c.in_ok-number.field-0.now = search rules in
    let all : SFits w128 c.missed.result = record { sfits = c.missed.type_inv } in
    simp to_z-of_z
    (answered c.args.answer.now c.args.line.now c.args.place c.in_ok-i.i c.saturating_sub.result c.min.result c.missed.result
    (search rules) on index (search rules) (search rules) (rw number at (simp to_z-of_z at c.missed.ensures)))
