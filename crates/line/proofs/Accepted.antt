-- What the checks say of a line.
use Rattle.std.proofs.Common.{◌≡◌, ℕ, zero, suc, ◌+◌, ◌-◌, ◌<◌, ◌≤◌, Bool, true, false, cond, ◌&&◌, eqb, leb, List, [], ◌∷◌, length, get_or, ℤ, pos, nat_abs, Ok, Err, Result, Option, Some, None, not, refl, sym, ap, ◌∙◌, arith}
use Rattle.std.specs.List.{position, position_from}
use Rattle.std.proofs.lemmas.Iterator.Adapters.{position_from-zero}
use Rattle.std.proofs.lemmas.Bool.{leb-true, eqb-true}
use Rattle.line.specs.declared.solver.SolveFault.{SolveFault}
use Rattle.line.specs.declared.solver.SolveFault.TheVariants.{Length, Output, Beyond}
use Rattle.line.specs.Solver.{Admitted, limit}
use Rattle.line.specs.Solve.{first_beyond, solve_answer}

-- the first index beyond the limit

abbrev pub refusal : Option ℕ → Result (Unit {0}) SolveFault
refusal (Some i) = Err (Beyond (i + 1))
refusal None = Ok tt

beyond_from : (k : List ℤ) (j : ℕ) → first_beyond (j + 1) k ≡ refusal (position_from (λ v. not (leb (nat_abs v) limit)) j k)
beyond_from [] j = refl
beyond_from (x ∷ k) j = by (leb (nat_abs x) limit) (beyond_from k (j + 1))
  where
    by : (b : Bool) → first_beyond (j + 1 + 1) k ≡ refusal (position_from (λ v. not (leb (nat_abs v) limit)) (j + 1) k) →
        cond b (first_beyond (j + 1 + 1) k) (Err (Beyond (j + 1))) ≡ refusal (cond (not b) (Some j) (position_from (λ v. not (leb (nat_abs v) limit)) (j + 1) k))
    by true rest = rest
    by false rest = refl

pub beyond : (k : List ℤ) → first_beyond 1 k ≡ refusal (position (λ v. not (leb (nat_abs v) limit)) k)
beyond k = beyond_from k 0 ∙ ap refusal (sym (position_from-zero (λ v. not (leb (nat_abs v) limit)) k))

-- an accepted line

all_within : (k : List ℤ) (i : ℕ) → first_beyond i k ≡ Ok tt → (j : ℕ) → j < length k → nat_abs (get_or k j (pos 0)) ≤ limit
all_within [] i e j h = absurd (omega arith)
all_within (x ∷ k) i e j h = by (leb (nat_abs x) limit) (leb-true (nat_abs x) limit) (all_within k (i + 1)) e j h
  where
    by : (b : Bool) → (b ≡ true → nat_abs x ≤ limit) → (first_beyond (i + 1) k ≡ Ok tt → (j : ℕ) → j < length k → nat_abs (get_or k j (pos 0)) ≤ limit) →
        cond b (first_beyond (i + 1) k) (Err (Beyond i)) ≡ Ok tt → (j : ℕ) → j < length (x ∷ k) → nat_abs (get_or (x ∷ k) j (pos 0)) ≤ limit
    by true small rest e zero h = small refl
    by true small rest e (suc j) h = rest e j (omega arith)
    by false small rest e j h = cc

pub record Accepted (k : List ℤ) (room : ℕ) : Type 0 where
  pub admitted : Admitted k
  pub fits : room ≡ length k

pub accepted : (k : List ℤ) (room : ℕ) → solve_answer k room ≡ Ok tt → Accepted k room
accepted k room = by (leb 2 (length k)) (leb (length k) 64) (eqb room (length k)) (leb-true 2 (length k)) (leb-true (length k) 64) (eqb-true room (length k))
  where
    by : (a b c : Bool) → (a ≡ true → 2 ≤ length k) → (b ≡ true → length k ≤ 64) → (c ≡ true → room ≡ length k) →
        cond (a && b) (cond c (first_beyond 1 k) (Err Output)) (Err Length) ≡ Ok tt → Accepted k room
    by true true true p q r e = record {
      admitted = record { low = p refl; high = q refl; small = λ j on. all_within k 1 e (j - 1) (omega arith) };
      fits = r refl;
    }
    by true true false p q r e = cc
    by true false c p q r e = cc
    by false b c p q r e = cc
