-- A table of the numbers f 0, f 1 and so on. The checker computes them all where the code's table stands for this one.
use Rattle.std.proofs.Common.{◌≡◌, ℕ, ◌^◌, ◌<◌, List, map, get_or, ℤ, pos, ap, ◌∙◌, arith, w64, to_z, of_z}
use Rattle.std.specs.List.{range_with_len}
use Rattle.std.proofs.lemmas.List.FromFn.{get_or-map-range_with_len}
use Rattle.std.proofs.lemmas.Int.{ints}

abbrev pub table : (ℕ → ℕ) → ℕ → List ℤ
table f m = map (λ i. pos (f i)) (range_with_len 0 m)

-- an entry as the code hands it out
pub handed : (f : ℕ → ℕ) (m k : ℕ) → k < m → (p : ℕ) → f k ≡ p → p < 2 ^ 63 → to_z w64 (of_z w64 (get_or (table f m) k (pos 0))) ≡ pos p
handed f m k h p e fits = rw (get_or-map-range_with_len (λ i. pos (f i)) 0 m k k (pos 0) h (omega arith) ∙ ap pos e) (omega (arith, ints))
