-- Numbers of 64 bits leave room in 128.
use Rattle.std.proofs.Common.{pos, ◌+ℤ◌, ◌-ℤ◌, ◌*ℤ◌, arith, SFits}
use mir.Syntax.{w128}
use Rattle.std.proofs.lemmas.Int.{ints, to_z-of_z}
use Rattle.line.proofs.residual.missed.Goals as goal

pub overflow_add-result-2 : goal.overflow_add-result-2
overflow_add-result-2 c = omega (arith, ints)

pub overflow_sub-result : goal.overflow_sub-result
overflow_sub-result c = omega (arith, ints)

pub returns : goal.returns
returns c =
    let b : SFits w128 c.from.result = record { sfits = c.from.type_inv } in
    let o : SFits w128 c.from-2.result = record { sfits = c.from-2.type_inv } in
    let a : SFits w128 c.from-3.result = record { sfits = c.from-3.type_inv } in
    let n : SFits w128 c.from-4.result = record { sfits = c.from-4.type_inv } in
    let four : SFits w128 (pos 4 *ℤ c.from-2.result) = omega (arith, ints) in
    let two : SFits w128 (c.from.result +ℤ pos 4 *ℤ c.from-2.result) = omega (arith, ints) in
    let sum : SFits w128 ((c.from.result +ℤ pos 4 *ℤ c.from-2.result) +ℤ c.from-3.result) = omega (arith, ints) in
    let six : SFits w128 (pos 6 *ℤ c.from-4.result) = omega (arith, ints) in
    let all : SFits w128 (((c.from.result +ℤ pos 4 *ℤ c.from-2.result) +ℤ c.from-3.result) -ℤ pos 6 *ℤ c.from-4.result) = omega (arith, ints) in
    simp to_z-of_z (omega (arith, ints))
