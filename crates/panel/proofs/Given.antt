-- Signed numbers as a callee was given them.
use Rattle.std.proofs.Common.{◌≡◌, ◌+ℤ◌, pos, ℤ, ap, ◌∙◌, w32, SFits, to_z, of_z}
use Rattle.std.proofs.lemmas.Int.{to_z-of_z}

pub given : (z : ℤ) → SFits w32 z → to_z w32 (of_z w32 z) ≡ z
given z f = to_z-of_z w32 z f

pub given_next : (z : ℤ) → SFits w32 z → SFits w32 (z +ℤ pos 1) → to_z w32 (of_z w32 (to_z w32 (of_z w32 z) +ℤ pos 1)) ≡ z +ℤ pos 1
given_next z f g = rw (given z f) (given (z +ℤ pos 1) g)

pub given_one : {X : Type 0} (F : ℤ → X) (a : X) (z : ℤ) → SFits w32 z → a ≡ F (to_z w32 (of_z w32 z)) → a ≡ F z
given_one F a z f h = h ∙ ap F (given z f)

pub given_two : {X : Type 0} (F : ℤ → ℤ → X) (a : X) (r s : ℤ) → SFits w32 r → SFits w32 s → a ≡ F (to_z w32 (of_z w32 r)) (to_z w32 (of_z w32 s)) → a ≡ F r s
given_two F a r s f g h = h ∙ ap (λ r. F r (to_z w32 (of_z w32 s))) (given r f) ∙ ap (F r) (given s g)
