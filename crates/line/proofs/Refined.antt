-- A solver that rounds a finer line to nearest, m finer units to one, the residuals of the finer line below one unit, finds whole solutions.
use Rattle.std.specs.Prelude.{◌≡◌, ℕ, ◌+◌, ◌-◌, ◌*◌, ◌<◌, ◌≤◌, List, length, ℤ, pos, ◌-ℤ◌, ◌*ℤ◌, unsigned_abs}
use Rattle.std.proofs.Common.{arith, ap, ◌∙◌}
use Rattle.std.proofs.lemmas.List.{same_lists, get_or_default}
use Rattle.std.proofs.lemmas.Int.{ints}
use Rattle.line.specs.Line.{OnLine, Sums, place, sum_at}
use Rattle.line.specs.Solver.{Solver, Admitted, WholeSolution}
use Rattle.line.specs.FixedPoint.{nearest_line}
use Rattle.line.specs.Laws.{Dominant}
use Rattle.line.specs.Products.{together, abs_scaled, cancel-<}
use Rattle.line.specs.Refined.{long, rounded}
use Rattle.line.proofs.Rules.{along, near}
use Rattle.line.proofs.Doubled.{doubled}

-- On every admitted line the rule gives a whole solution where there is one.
abbrev pub FindsWhole : Solver → Type 0
FindsWhole s = (k : List ℤ) → Admitted k → (z : List ℤ) → WholeSolution k z → s.rule k ≡ z

level : (a b : ℤ) → a -ℤ b ≡ pos 0 → a ≡ b
level a b e = omega (arith, ints)

same_places : (x z : List ℤ) → length x ≡ length z → ((j : ℕ) → OnLine (length x) j → place x j ≡ place z j) → x ≡ z
same_places x z long same =
    same_lists x z long
    (λ i d h.
    let here : (i + 1) - 1 ≡ i = omega arith in
    get_or_default x i d (pos 0) h ∙ rw here at (same (i + 1) (omega arith)) ∙ get_or_default z i (pos 0) d (omega arith))

module _ {n : ℕ} {sums : Sums} (rule : Dominant n sums) (x X k : ℕ → ℤ) (m : ℕ) (rounded : (i : ℕ) → OnLine n i → 2 * unsigned_abs (pos m *ℤ x i -ℤ X i) ≤ m) where
  -- a whole solution y is found exactly if the residuals stay below one unit
  pub exactly : (y : ℕ → ℤ) → ((j : ℕ) → OnLine n j → sums y j ≡ pos 6 *ℤ k j) → (ρ : ℕ) → ρ < m → ((j : ℕ) → OnLine n j → unsigned_abs (sums X j -ℤ pos (6 * m) *ℤ k j) ≤ ρ) →
      (j : ℕ) → OnLine n j → x j ≡ y j
  exactly y solved ρ below fine j on =
      let close = near rule X (λ i. pos m *ℤ y i) ρ (λ i at. rw ((along rule i).scales (pos m) y ∙ ap (◌*ℤ◌ (pos m)) (solved i at) ∙ together m 6 (6 * m) (k i) (omega arith)) (fine i at)) j on in
      let apart : unsigned_abs (x j -ℤ y j) < 1 = cancel-< m (unsigned_abs (x j -ℤ y j)) 1 (omega (arith, ints, rounded j on, abs_scaled m (x j) (y j))) in
      omega (arith, ints)

module _ (s : Solver) (m ρ : ℕ) (below : ρ < m) (finer : List ℤ → ℕ → ℤ) (rounds : (k : List ℤ) → s.rule k ≡ nearest_line m (length k) (finer k))
    (close : (k : List ℤ) → Admitted k → (j : ℕ) → OnLine (length k) j → unsigned_abs (sum_at (length k) (finer k) j -ℤ pos (6 * m) *ℤ place k j) ≤ ρ) where
  pub whole_rounded : FindsWhole s
  whole_rounded k ok z exact =
      same_places (s.rule k) z (omega (arith, long s m ρ below finer rounds close k, exact.long))
      (λ j on.
      exactly (doubled (length k)) (place (s.rule k)) (finer k) (place k) m (rounded s m ρ below finer rounds close k) (place z)
      (λ i at. level (sum_at (length k) (place z) i) (pos 6 *ℤ place k i) (exact.meets i at)) ρ below (close k ok) j (omega (arith, long s m ρ below finer rounds close k)))
