-- Equations between sums, differences and products of whole numbers with a sign.
-- Each variable is written as the difference of two naturals; `simp ring` brings either side to one difference, and `omega` multiplies out:
--     law a b = rw (parts a, parts b) (simp ring (same_dif _ _ _ _ (omega arith)))
-- A product may come to 64 monomials in the two parts of each variable, so a cube of a sum is too much for one call.
use Rattle.std.specs.Prelude.{◌≡◌, ℕ, ◌+◌, ◌*◌, ℤ, pos, ◌+ℤ◌, ◌-ℤ◌, ◌*ℤ◌, neg_ℤ}
use Rattle.std.proofs.Common.{arith, ap, ap₂, ◌∙◌}
use Rattle.std.proofs.Math.IntN.{*ℤ_comm}
use borrow.Author.Differences.{up, down, sum_is_lem}
use Rattle.std.proofs.lemmas.Int.{ints}

times : (c : ℕ) {a b : ℕ} → a ≡ b → c * a ≡ c * b
times c e = ap (λ (x : ℕ). c * x) e

pub *-add : (a b c : ℤ) → a *ℤ (b +ℤ c) ≡ a *ℤ b +ℤ a *ℤ c
*-add a b c = omega (arith, ints, times (up a) (sum_is_lem b c), times (down a) (sum_is_lem b c))

*-neg : (a b : ℤ) → a *ℤ neg_ℤ b ≡ neg_ℤ (a *ℤ b)
*-neg a b = grind arith

pub *-sub : (a b c : ℤ) → a *ℤ (b -ℤ c) ≡ a *ℤ b -ℤ a *ℤ c
*-sub a b c = *-add a b (neg_ℤ c) ∙ ap (◌+ℤ◌ (a *ℤ b)) (*-neg a c)

pub sub-* : (a b c : ℤ) → (a -ℤ b) *ℤ c ≡ a *ℤ c -ℤ b *ℤ c
sub-* a b c = rw (*ℤ_comm (a -ℤ b) c, *ℤ_comm a c, *ℤ_comm b c) (*-sub c a b)

-- p - q
pub dif : ℕ → ℕ → ℤ
dif p q = pos p -ℤ pos q

pub parts : (a : ℤ) → a ≡ dif (up a) (down a)
unfolding dif
parts a = omega (arith, ints)

pub same_dif : (p q r s : ℕ) → p + s ≡ r + q → dif p q ≡ dif r s
unfolding dif
same_dif p q r s e = omega (arith, ints)

pub dif_pos : (n : ℕ) → pos n ≡ dif n 0
unfolding dif
dif_pos n = omega (arith, ints)

pub dif_add : (p q r s : ℕ) → dif p q +ℤ dif r s ≡ dif (p + r) (q + s)
unfolding dif
dif_add p q r s = omega (arith, ints)

pub dif_neg : (p q : ℕ) → neg_ℤ (dif p q) ≡ dif q p
unfolding dif
dif_neg p q = omega (arith, ints)

pub dif_mul : (p q r s : ℕ) → dif p q *ℤ dif r s ≡ dif (p * r + q * s) (p * s + q * r)
unfolding dif
dif_mul p q r s = sub-* (pos p) (pos q) (pos r -ℤ pos s) ∙ ap₂ ◌-ℤ◌ (*-sub (pos p) (pos r) (pos s)) (*-sub (pos q) (pos r) (pos s)) ∙ omega (arith, ints)

pub ruleset ring = (dif_pos, dif_add, dif_neg, dif_mul)
