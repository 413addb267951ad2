-- Laws of the product of whole numbers with a sign.
use Rattle.std.specs.Prelude.{◌≡◌, ℕ, ◌+◌, ◌*◌, ◌<◌, ◌≤◌, ℤ, pos, ◌+ℤ◌, ◌-ℤ◌, ◌*ℤ◌, unsigned_abs}
use Rattle.std.proofs.Common.{arith, mul-le-mul_left, sym, ap, ◌∙◌}
use Rattle.std.proofs.lemmas.Int.{ints, unsigned_abs-mul}
use Rattle.line.specs.Ring.{ring, parts, same_dif, *-sub}

pub *-assoc : (a b c : ℤ) → (a *ℤ b) *ℤ c ≡ a *ℤ (b *ℤ c)
*-assoc a b c = rw (parts a, parts b, parts c) (simp ring (same_dif _ _ _ _ (omega arith)))

pub *-left_comm : (a b c : ℤ) → a *ℤ (b *ℤ c) ≡ b *ℤ (a *ℤ c)
*-left_comm a b c = rw (parts a, parts b, parts c) (simp ring (same_dif _ _ _ _ (omega arith)))

pub add-* : (a b c : ℤ) → (a +ℤ b) *ℤ c ≡ a *ℤ c +ℤ b *ℤ c
add-* a b c = rw (parts a, parts b, parts c) (simp ring (same_dif _ _ _ _ (omega arith)))

-- Factors that are not negative

pub pos-* : (a b : ℕ) (c : ℤ) → pos (a * b) *ℤ c ≡ pos a *ℤ (pos b *ℤ c)
pos-* a b c = *-assoc (pos a) (pos b) c

pub pos_add-* : (a b : ℕ) (c : ℤ) → pos (a + b) *ℤ c ≡ pos a *ℤ c +ℤ pos b *ℤ c
pos_add-* a b c = add-* (pos a) (pos b) c

pub together : (a b m : ℕ) (c : ℤ) → a * b ≡ m → pos a *ℤ (pos b *ℤ c) ≡ pos m *ℤ c
together a b m c e = sym (pos-* a b c) ∙ ap (λ (n : ℕ). pos n *ℤ c) e

-- Sizes

pub abs_add : (a b : ℤ) → unsigned_abs (a +ℤ b) ≤ unsigned_abs a + unsigned_abs b
abs_add a b = omega (arith, ints)

pub abs_sub : (a b : ℤ) → unsigned_abs (a -ℤ b) ≤ unsigned_abs a + unsigned_abs b
abs_sub a b = omega (arith, ints)

pub abs_scaled : (m : ℕ) (a b : ℤ) → unsigned_abs (pos m *ℤ a -ℤ pos m *ℤ b) ≡ m * unsigned_abs (a -ℤ b)
abs_scaled m a b = rw (← *-sub (pos m) a b) (unsigned_abs-mul (pos m) (a -ℤ b))

pub times_within : (m : ℕ) (a b : ℤ) (g : ℕ) → unsigned_abs (a -ℤ b) ≤ g → unsigned_abs (pos m *ℤ a -ℤ pos m *ℤ b) ≤ m * g
times_within m a b g h = rw (abs_scaled m a b) (mul-le-mul_left m h)

-- A positive factor is cancelled.

pub cancel-< : (c a b : ℕ) → c * a < c * b → a < b
cancel-< c a b h = grind arith

pub cancel-≤ : (c a b : ℕ) → 0 < c → c * a ≤ c * b → a ≤ b
cancel-≤ c a b p h = omega (arith, cancel-< c a (b + 1) (omega arith))

pub cancel : (c : ℕ) (a b : ℤ) → 0 < c → pos c *ℤ a ≡ pos c *ℤ b → a ≡ b
cancel c a b p e =
    let apart : unsigned_abs (a -ℤ b) < 1 = cancel-< c (unsigned_abs (a -ℤ b)) 1 (omega (arith, ints, abs_scaled c a b)) in
    omega (arith, ints)
