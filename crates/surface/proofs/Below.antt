-- A test of every number below another.
use Rattle.std.proofs.Common.{◌≡◌, ℕ, zero, suc, ◌+◌, ◌<◌, ◌≤◌, Bool, true, false, ◌⊎◌, List, get_or, length, ◌&&◌, sym, refl, ap, ap₂, ◌∙◌, inl, inr, arith}
use Rattle.std.proofs.lemmas.Bool.{cases_eq, and_cases, and_from, and_parts, true≢false}
use Rattle.std.proofs.lemmas.List.Folds.{list_all-map}
use Rattle.std.proofs.lemmas.Simd.{pick_l_whole}
use Rattle.std.specs.List.{list_all, range_with_len}
use Rattle.surface.specs.Patch.{all_below}

-- From a number on

at_range : (a n : ℕ) (f : ℕ → Bool) → list_all f (range_with_len a n) ≡ true → (k : ℕ) → a ≤ k → k < a + n → f k ≡ true
at_range a zero f e k low high = absurd (omega arith)
at_range a (suc n) f e k low high =
    let t = and_parts (f a) (list_all f (range_with_len (a + 1) n)) e in
    elim (cases_eq k a) [ inl same ↦ ap f same ∙ t.0 | inr other ↦ at_range (a + 1) n f t.1 k (omega arith) (omega arith) ]

range_passes : (a n : ℕ) (f : ℕ → Bool) → ((k : ℕ) → a ≤ k → k < a + n → f k ≡ true) → list_all f (range_with_len a n) ≡ true
range_passes a zero f h = refl
range_passes a (suc n) f h =
    and_from (f a) (list_all f (range_with_len (a + 1) n)) (h a (omega arith) (omega arith)) (range_passes (a + 1) n f (λ k low high. h k (omega arith) (omega arith)))

fails_range : (a n : ℕ) (f : ℕ → Bool) → list_all f (range_with_len a n) ≡ false → (k : ℕ) × (k < a + n) × (f k ≡ false)
fails_range a zero f e = absurd (true≢false e)
fails_range a (suc n) f e = go (and_cases (f a) (list_all f (range_with_len (a + 1) n)) e) (fails_range (a + 1) n f)
  where
    go : (f a ≡ false) ⊎ (list_all f (range_with_len (a + 1) n) ≡ false) → (list_all f (range_with_len (a + 1) n) ≡ false → (k : ℕ) × (k < a + 1 + n) × (f k ≡ false)) →
        (k : ℕ) × (k < a + suc n) × (f k ≡ false)
    go (inl here) later = (a, omega arith, here)
    go (inr beyond) later = let (k, low, fails) = later beyond in (k, omega arith, fails)

-- Below a number

-- what passes below n passes at each
pub at_below : (n : ℕ) (f : ℕ → Bool) → all_below n f ≡ true → (k : ℕ) → k < n → f k ≡ true
at_below n f e k h = at_range 0 n f e k (omega arith) (omega arith)

pub below_passes : (n : ℕ) (f : ℕ → Bool) → ((k : ℕ) → k < n → f k ≡ true) → all_below n f ≡ true
below_passes n f h = range_passes 0 n f (λ k low high. h k (omega arith))

pub below_more : (n : ℕ) (f : ℕ → Bool) → all_below n f ≡ true → f n ≡ true → all_below (n + 1) f ≡ true
below_more n f h e =
    below_passes (n + 1) f (λ k low. elim (cases_eq k n) [ inl same ↦ ap f same ∙ e | inr other ↦ at_below n f h k (omega arith) ])

-- one that fails is enough
pub below_out : (n : ℕ) (f : ℕ → Bool) (k : ℕ) → k < n → f k ≡ false → all_below n f ≡ false
below_out n f k h e = failed (all_below n f) (λ all. at_below n f all k h)
  where
    failed : (b : Bool) → (b ≡ true → f k ≡ true) → b ≡ false
    failed true p = absurd (true≢false (sym (p refl) ∙ e))
    failed false p = refl

pub fails_below : (n : ℕ) (f : ℕ → Bool) → all_below n f ≡ false → (k : ℕ) × (k < n) × (f k ≡ false)
fails_below n f e = let (k, low, fails) = fails_range 0 n f e in (k, omega arith, fails)

pub below_same : (n : ℕ) (f g : ℕ → Bool) → ((i : ℕ) → i < n → f i ≡ g i) → all_below n f ≡ all_below n g
below_same n f g e = range_same 0 n (λ i low high. e i (omega arith))
  where
    range_same : (a m : ℕ) → ((i : ℕ) → a ≤ i → i < a + m → f i ≡ g i) → list_all f (range_with_len a m) ≡ list_all g (range_with_len a m)
    range_same a zero e = refl
    range_same a (suc m) e = ap₂ (λ b c. b && c) (e a (omega arith) (omega arith)) (range_same (a + 1) m (λ i low high. e i (omega arith) (omega arith)))

-- Of a list

-- a test of every element is one of every index below the length
pub all_by_index : {A : Type 0} (f : A → Bool) (xs : List A) (d : A) (n : ℕ) → length xs ≡ n → list_all f xs ≡ all_below n (λ k. f (get_or xs k d))
all_by_index f xs d n long = ap (list_all f) (sym (pick_l_whole d xs n long)) ∙ list_all-map f (λ k. get_or xs k d) (range_with_len 0 n)
