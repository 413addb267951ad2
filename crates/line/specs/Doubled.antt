-- Under doubled ends the sums are linear in the line, and the weights of each come to 6.
use Rattle.std.specs.Prelude.{ℕ, ◌+◌, ◌-◌, pos}
use Rattle.std.proofs.Common.{arith}
use Rattle.line.specs.Line.{clamped, sum_at}
use Rattle.line.specs.Linear.{Linear, Crosses, linear, at_crosses, add_crosses, scale_crosses}
use Rattle.line.specs.Rounding.{SixFold}

-- over a grid its sums and any linear number of a line may change places
pub doubled_crosses : (n j : ℕ) → Crosses (λ x. sum_at n x j)
doubled_crosses n j = add_crosses (add_crosses (at_crosses (clamped n (j - 1))) (scale_crosses (pos 4) (at_crosses j))) (at_crosses (clamped n (j + 1)))

pub doubled_linear : (n j : ℕ) → Linear (λ x. sum_at n x j)
doubled_linear n j = linear (doubled_crosses n j)

pub doubled_six : (n : ℕ) → SixFold n (sum_at n)
doubled_six n x j g on all = grind arith
