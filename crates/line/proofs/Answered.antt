-- A residual put together from its four numbers is what the definition answers.
use Rattle.std.proofs.Common.{◌≡◌, ℕ, ◌-◌, min, List, length, get_or, ℤ, pos, ◌+ℤ◌, ◌-ℤ◌, ◌*ℤ◌, Some, arith}
use Rattle.std.proofs.lemmas.Bool.Decides.{nat_tests}
use Rattle.line.specs.Line.{OnLine}
use Rattle.line.specs.Residual.{residual_answer}

-- i, before and after are indices, from 0
pub answered : (x k : List ℤ) (j i before after : ℕ) (r : ℤ) → length x ≡ length k → OnLine (length k) j → i ≡ j - 1 → before ≡ i - 1 → after ≡ min j (length x - 1) →
    r ≡ ((get_or x before (pos 0) +ℤ pos 4 *ℤ get_or x i (pos 0)) +ℤ get_or x after (pos 0)) -ℤ pos 6 *ℤ get_or k i (pos 0) → Some r ≡ residual_answer x k j
answered x k j i before after r long on at first last e = grind (arith, nat_tests)
