-- Under a dominant rule of ends sums that are near come from lines that are near, and there is one solution in fractions.
use Rattle.std.specs.Prelude.{◌≡◌, ℕ, ◌+◌, ◌*◌, ◌<◌, ◌≤◌, ℤ, pos, negsuc, ◌+ℤ◌, ◌-ℤ◌, ◌*ℤ◌, unsigned_abs}
use Rattle.std.proofs.Common.{arith, sym, ap, ap₂, ◌∙◌}
use Rattle.std.proofs.lemmas.Int.{ints}
use Rattle.line.specs.Line.{OnLine, Sums}
use Rattle.line.specs.Laws.{Dominant, Solves, NearExact, OneSolution, Solvable, Sized}
use Rattle.line.specs.Ring.{ring, parts, same_dif}
use Rattle.line.specs.Products.{pos-*, together, times_within}
use Rattle.line.proofs.Places.{or_last, greatest}
use Rattle.line.specs.Linear.{Linear, subtracts}

before_last : (d : ℕ) (e k : ℤ) → pos d *ℤ (pos 6 *ℤ k) +ℤ e *ℤ pos 0 ≡ pos (6 * d) *ℤ k
before_last d e k = rw (parts e, parts k) (simp ring (same_dif _ _ _ _ (omega arith)))

at_last : (d : ℕ) (u k q s : ℤ) → u *ℤ s ≡ pos d → pos d *ℤ q +ℤ (u *ℤ (pos 6 *ℤ k -ℤ q)) *ℤ s ≡ pos (6 * d) *ℤ k
at_last d u k q s e = ap (◌+ℤ◌ (pos d *ℤ q)) (regrouped ∙ ap (◌*ℤ◌ (pos 6 *ℤ k -ℤ q)) e) ∙ summed
  where
    regrouped : (u *ℤ (pos 6 *ℤ k -ℤ q)) *ℤ s ≡ (pos 6 *ℤ k -ℤ q) *ℤ (u *ℤ s)
    regrouped = rw (parts u, parts k, parts q, parts s) (simp ring (same_dif _ _ _ _ (omega arith)))

    summed : pos d *ℤ q +ℤ (pos 6 *ℤ k -ℤ q) *ℤ pos d ≡ pos (6 * d) *ℤ k
    summed = rw (parts k, parts q) (simp ring (same_dif _ _ _ _ (omega arith)))

sign : ℤ → ℤ
sign (pos n) = pos 1
sign (negsuc n) = negsuc 0

sign_abs : (a : ℤ) → sign a *ℤ a ≡ pos (unsigned_abs a)
unfolding sign
sign_abs (pos n) = omega (arith, ints)
sign_abs (negsuc n) = omega (arith, ints)

module _ {n : ℕ} {sums : Sums} (rule : Dominant n sums) where
  pub along : (j : ℕ) → Linear (λ x. sums x j)
  along j = grind arith

  pub dominance : (x : ℕ → ℤ) (g : ℕ) → ((j : ℕ) → OnLine n j → unsigned_abs (sums x j) ≤ g) → (j : ℕ) → OnLine n j → 2 * unsigned_abs (x j) ≤ g
  dominance x g h j on =
      let (m, at, top) = greatest n (λ i. unsigned_abs (x i)) (omega arith) in
      omega (arith, rule.leads x m at top, h m at, top j on)

  -- sums within g of each other come from lines within g / 2
  pub near : (x y : ℕ → ℤ) (g : ℕ) → ((j : ℕ) → OnLine n j → unsigned_abs (sums x j -ℤ sums y j) ≤ g) → (j : ℕ) → OnLine n j → 2 * unsigned_abs (x j -ℤ y j) ≤ g
  near x y g h = dominance (λ i. x i -ℤ y i) g (λ j on. rw (subtracts (along j) x y) (h j on))

  pub near_exact : NearExact n sums
  near_exact k x N D g small exact j on = omega (arith, near (λ i. pos D *ℤ x i) N (g * D) sums_near j on)
    where
      sums_near : (i : ℕ) → OnLine n i → unsigned_abs (sums (λ t. pos D *ℤ x t) i -ℤ sums N i) ≤ g * D
      sums_near i at =
          rw (rule.scales (pos D) x i, exact.solves i at ∙ sym (together D 6 (6 * D) (k i) (omega arith)))
          (omega (arith, times_within D (sums x i) (pos 6 *ℤ k i) g (small i at)))

  pub sized : Sized n sums
  sized k x b g small near j on = omega (arith, dominance x (6 * b + g) (λ i at. omega (arith, ints, small i at, near i at)) j on)

  pub same : (x y : ℕ → ℤ) → ((j : ℕ) → OnLine n j → sums x j ≡ sums y j) → (j : ℕ) → OnLine n j → x j ≡ y j
  same x y e j on = omega (arith, ints, near x y 0 (λ i at. omega (arith, ints, e i at)) j on)

  pub one_solution : OneSolution n sums
  one_solution k N M D E p q =
      same (λ i. pos E *ℤ N i) (λ i. pos D *ℤ M i) (λ j on. scaled N D p.solves E j on ∙ ap (λ m. pos m *ℤ k j) (omega arith) ∙ sym (scaled M E q.solves D j on))
    where
      scaled : (x : ℕ → ℤ) (c : ℕ) → Solves n sums x c k → (d j : ℕ) → OnLine n j → sums (λ i. pos d *ℤ x i) j ≡ pos (d * (6 * c)) *ℤ k j
      scaled x c p d j on = rule.scales (pos d) x j ∙ ap (λ v. pos d *ℤ v) (p j on) ∙ sym (pos-* d (6 * c) (k j))

  -- A line p with sums 0 and a line q with sums 6 k at all places but the last make a solution together.
  pub completed : (p q k : ℕ → ℤ) (u : ℤ) (d : ℕ) → u *ℤ sums p n ≡ pos d →
      ((j : ℕ) → OnLine n j → j < n → sums p j ≡ pos 0) → ((j : ℕ) → OnLine n j → j < n → sums q j ≡ pos 6 *ℤ k j) →
      Solves n sums (λ i. pos d *ℤ q i +ℤ (u *ℤ (pos 6 *ℤ k n -ℤ sums q n)) *ℤ p i) d k
  completed p q k u d s rows_p rows_q j on =
      rule.adds (λ i. pos d *ℤ q i) (λ i. e *ℤ p i) j ∙ ap₂ ◌+ℤ◌ (rule.scales (pos d) q j) (rule.scales e p j) ∙
      or_last (λ j. pos d *ℤ sums q j +ℤ e *ℤ sums p j ≡ pos (6 * d) *ℤ k j) n (at_last d u (k n) (sums q n) (sums p n) s) j on
      (λ i. rw (rows_p j on i, rows_q j on i) (before_last d e (k j)))
    where
      e : ℤ
      e = u *ℤ (pos 6 *ℤ k n -ℤ sums q n)

  -- If p is not 0 at some place, its last sum is not 0: one d serves every k.
  pub solvable : (p : ℕ → ℤ) (a : ℕ) → OnLine n a → 0 < unsigned_abs (p a) → ((j : ℕ) → OnLine n j → j < n → sums p j ≡ pos 0) →
      ((k : ℕ → ℤ) → (q : ℕ → ℤ) × ((j : ℕ) → OnLine n j → j < n → sums q j ≡ pos 6 *ℤ k j)) → Solvable n sums
  solvable p a on nonzero rows_p part =
      (unsigned_abs (sums p n), λ k. (_, record { above = omega (arith, last_nonzero); solves = completed p (part k).0 k (sign (sums p n)) (unsigned_abs (sums p n)) (sign_abs (sums p n)) rows_p (part k).1 }))
    where
      -- all sums are within the last, so the last one is above 0 as p a is
      small : (j : ℕ) → OnLine n j → unsigned_abs (sums p j) ≤ unsigned_abs (sums p n)
      small j at = grind arith

      last_nonzero : 0 < unsigned_abs (sums p n)
      last_nonzero = omega (arith, dominance p (unsigned_abs (sums p n)) small a on)
