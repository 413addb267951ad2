-- Chains of checks: what a step says that was passed or refused, and what the whole chain then answers.
use Rattle.std.proofs.Common.{◌≡◌, Bool, true, false, IsErrAnd, Ok, Err, Result, refl, ap, ◌∙◌, rules}
use Rattle.std.proofs.lemmas.Result.{err_from_is_err_and}
use Rattle.std.specs.Result.{result_and}
use Rattle.grid.specs.Checks.{check}

-- What a `?` returns where the step before it refused.
pub exit : {A E : Type 0} {x : E} (r : Result A E) → IsErrAnd r (λ y. y ≡ x) → r ≡ Err x
exit r e = let p = err_from_is_err_and r e in p.1 ∙ ap Err p.2

-- A check that was passed holds.
pub held : {E : Type 0} (b : Bool) (e : E) → check b e ≡ Ok tt → b ≡ true
held true e h = refl
held false e h = search rules

pub holds_good : {E : Type 0} (b : Bool) (e : E) → b ≡ true → check b e ≡ Ok tt
holds_good b e h = ap (λ b. check b e) h

-- Both steps of a good chain are good.
pub both_good : {E : Type 0} (a b : Result (Unit {0}) E) → result_and a b ≡ Ok tt → (a ≡ Ok tt) × (b ≡ Ok tt)
both_good (Ok x) b h = (refl, h)
both_good (Err e) b h = search rules

-- A chain of checks that ends in a value: which step refused, or that all were passed and which value came.
pub refused_by : {B E : Type 0} (a : Result (Unit {0}) E) (v : B) (e : E) → Err e ≡ result_and a (Ok v) → a ≡ Err e
refused_by (Ok x) v e h = search rules
refused_by (Err d) v e h = search rules

pub passed_by : {B E : Type 0} (a : Result (Unit {0}) E) (v w : B) → Ok w ≡ result_and a (Ok v) → (a ≡ Ok tt) × (w ≡ v)
passed_by (Ok x) v w h = (refl, search rules)
passed_by (Err d) v w h = search rules

-- A step that was passed leaves what follows; one that refused is the whole answer.
pub over : {A B E : Type 0} (a : Result A E) (b : Result B E) (x : A) → a ≡ Ok x → result_and a b ≡ b
over a b x h = ap (λ a. result_and a b) h

pub stop : {A B E : Type 0} (a : Result A E) (b : Result B E) (e : E) → a ≡ Err e → result_and a b ≡ Err e
stop a b e h = ap (λ a. result_and a b) h
