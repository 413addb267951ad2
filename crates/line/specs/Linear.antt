-- Numbers made from a line, linear in the line.
use Rattle.std.specs.Prelude.{◌≡◌, ℕ, zero, suc, Bool, true, false, if◌then◌else◌, ℤ, ◌+ℤ◌, ◌-ℤ◌, ◌*ℤ◌, refl}
use Rattle.std.proofs.Common.{arith, sym, ap, ap₂, ◌∙◌}
use Rattle.std.proofs.Math.IntN.{ -ℤ-+ℤ_cancel}
use Rattle.std.proofs.Math.Path.{fun_ext}
use Rattle.std.proofs.lemmas.Int.{ints}
use Rattle.line.specs.Ring.{*-add}
use Rattle.line.specs.Products.{*-left_comm}

abbrev pub Form : Type 0
Form = (ℕ → ℤ) → ℤ

pub record Linear (f : Form) : Type 0 where
  pub adds : (x y : ℕ → ℤ) → f (λ i. x i +ℤ y i) ≡ f x +ℤ f y
  pub scales : (c : ℤ) (x : ℕ → ℤ) → f (λ i. c *ℤ x i) ≡ c *ℤ f x

pub subtracts : {f : Form} → Linear f → (x y : ℕ → ℤ) → f (λ i. x i -ℤ y i) ≡ f x -ℤ f y
subtracts {f} l x y = omega (arith, ints, l.adds (λ i. x i -ℤ y i) y, ap f (fun_ext (λ i. -ℤ-+ℤ_cancel (x i) (y i))))

-- g is made of a line's numbers by sums and factors: over a grid, g along the rows and a linear f along the columns come to the same in either order.
pub record Crosses (g : Form) : Type 0 where
  pub over : (f : Form) → Linear f → (m : ℕ → ℕ → ℤ) → f (λ i. g (m i)) ≡ g (λ t. f (λ i. m i t))

pub at_crosses : (p : ℕ) → Crosses (λ x. x p)
at_crosses p = record { over = λ f l m. refl }

pub add_crosses : {g h : Form} → Crosses g → Crosses h → Crosses (λ x. g x +ℤ h x)
add_crosses {g} {h} p q = grind arith

pub sub_crosses : {g h : Form} → Crosses g → Crosses h → Crosses (λ x. g x -ℤ h x)
sub_crosses {g} {h} p q = record { over = λ f l m. subtracts l (λ i. g (m i)) (λ i. h (m i)) ∙ ap₂ ◌-ℤ◌ (p.over f l m) (q.over f l m) }

pub scale_crosses : {g : Form} (c : ℤ) → Crosses g → Crosses (λ x. c *ℤ g x)
scale_crosses {g} c p = grind arith

pub cond_crosses : {g h : Form} (b : Bool) → Crosses g → Crosses h → Crosses (λ x. if b then g x else h x)
cond_crosses true p q = p
cond_crosses false p q = q

pub linear : {g : Form} → Crosses g → Linear g
linear {g} h = record {
  adds = λ x y. sym (h.over (λ z. z 0 +ℤ z 1) sum (two x y));
  scales = λ c x. sym (h.over (λ z. c *ℤ z 0) (multiple c) (λ i. x));
}
  where
    two : (ℕ → ℤ) → (ℕ → ℤ) → ℕ → ℕ → ℤ
    two x y zero = x
    two x y (suc i) = y

    sum : Linear (λ z. z 0 +ℤ z 1)
    sum = record { adds = λ x y. omega (arith, ints); scales = λ c x. sym (*-add c (x 0) (x 1)) }

    multiple : (c : ℤ) → Linear (λ z. c *ℤ z 0)
    multiple c = record { adds = λ x y. *-add c (x 0) (y 0); scales = λ d x. *-left_comm c d (x 0) }
