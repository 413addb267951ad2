-- Marks after one of them, or all, were changed.
use Rattle.std.proofs.Common.{◌≡◌, ℕ, zero, suc, ◌+◌, ◌-◌, ◌≤◌, Bool, true, false, cond, not, ◌&&◌, ◌||◌, eqb, List, [], ◌∷◌, length, get_or, set, refl, ap, ◌∙◌, subst, arith}
use Rattle.std.proofs.lemmas.Bool.{eqb-true, cond_both}
use Rattle.std.proofs.lemmas.Bool.Decides.{nat_tests}
use Rattle.line.specs.Line.{OnLine}
use Rattle.surface.proofs.Below.{at_below}
use Rattle.panel.specs.declared.record.Mark.{Mark}
use Rattle.panel.specs.Calls.{mark, let_go, stale, stale_at, ran_at, all_current, grade_of, is_current}
use Rattle.panel.proofs.Places.{get_or-set}
use Rattle.panel.specs.declared.record.Mark.TheVariants.{Unrun, Stale, Current}

let_go_grade : (k : Mark) → grade_of (let_go k) ≡ grade_of k
let_go_grade Unrun = refl
let_go_grade (Stale grade) = refl
let_go_grade (Current grade) = refl

let_go_current : (k : Mark) → is_current (let_go k) ≡ false
let_go_current Unrun = refl
let_go_current (Stale grade) = refl
let_go_current (Current grade) = refl

before_same : (i j : ℕ) → 1 ≤ i → 1 ≤ j → eqb (j - 1) (i - 1) ≡ eqb i j
before_same i j p q = grind (arith, nat_tests)

pub mark_set : (ks : List Mark) (i j : ℕ) (v : Mark) → OnLine (length ks) i → 1 ≤ j → mark (set ks (i - 1) v) j ≡ cond (eqb i j) v (mark ks j)
mark_set ks i j v on h =
    get_or-set ks (i - 1) (j - 1) v Unrun (omega arith) ∙ ap (λ b. cond b v (mark ks j)) (before_same i j on.0 h)

stale_from : (ks : List Mark) (k : ℕ) → get_or (stale ks) k Unrun ≡ let_go (get_or ks k Unrun)
stale_from [] k = refl
stale_from (x ∷ ks) zero = refl
stale_from (x ∷ ks) (suc k) = stale_from ks k

pub stale_grade : (ks : List Mark) (i : ℕ) → grade_of (mark (stale ks) i) ≡ grade_of (mark ks i)
stale_grade ks i = ap grade_of (stale_from ks (i - 1)) ∙ let_go_grade (mark ks i)

pub stale_current : (ks : List Mark) (i : ℕ) → is_current (mark (stale ks) i) ≡ false
stale_current ks i = ap is_current (stale_from ks (i - 1)) ∙ let_go_current (mark ks i)

pub stale_at_grade : (ks : List Mark) (i j : ℕ) → OnLine (length ks) i → 1 ≤ j → grade_of (mark (stale_at ks i) j) ≡ grade_of (mark ks j)
stale_at_grade ks i j on h =
    ap grade_of (mark_set ks i j (let_go (mark ks i)) on h)
    ∙ cond_both (eqb i j) (let_go (mark ks i)) (mark ks j) (λ k. grade_of k ≡ grade_of (mark ks j)) (λ e. let_go_grade (mark ks i) ∙ ap (λ i. grade_of (mark ks i)) (eqb-true i j e)) (λ e. refl)

pub stale_at_current : (ks : List Mark) (i j : ℕ) → OnLine (length ks) i → 1 ≤ j → is_current (mark (stale_at ks i) j) ≡ (not (eqb i j) && is_current (mark ks j))
stale_at_current ks i j on h =
    ap is_current (mark_set ks i j (let_go (mark ks i)) on h) ∙ split (eqb i j)
  where
    split : (b : Bool) → is_current (cond b (let_go (mark ks i)) (mark ks j)) ≡ (not b && is_current (mark ks j))
    split true = let_go_current (mark ks i)
    split false = refl

pub ran_at_grade : (ks : List Mark) (i j g : ℕ) → OnLine (length ks) i → 1 ≤ j → grade_of (mark (ran_at ks i g) j) ≡ cond (eqb i j) g (grade_of (mark ks j))
ran_at_grade ks i j g on h = ap grade_of (mark_set ks i j (Current g) on h) ∙ split (eqb i j)
  where
    split : (b : Bool) → grade_of (cond b (Current g) (mark ks j)) ≡ cond b g (grade_of (mark ks j))
    split true = refl
    split false = refl

pub ran_at_current : (ks : List Mark) (i j g : ℕ) → OnLine (length ks) i → 1 ≤ j → is_current (mark (ran_at ks i g) j) ≡ (eqb i j || is_current (mark ks j))
ran_at_current ks i j g on h = ap is_current (mark_set ks i j (Current g) on h) ∙ split (eqb i j)
  where
    split : (b : Bool) → is_current (cond b (Current g) (mark ks j)) ≡ (b || is_current (mark ks j))
    split true = refl
    split false = refl

pub each_current : (n : ℕ) (ks : List Mark) (i : ℕ) → all_current n ks ≡ true → OnLine n i → is_current (mark ks i) ≡ true
each_current n ks i e on =
    let back : i - 1 + 1 ≡ i = omega arith in
    subst (λ i. is_current (mark ks i) ≡ true) back (at_below n (λ i. is_current (mark ks (i + 1))) e (i - 1) (omega arith))
