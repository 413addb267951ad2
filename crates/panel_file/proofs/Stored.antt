-- Samples and grids that are written place by place.
use Rattle.std.proofs.Common.{◌≡◌, ℕ, ◌+◌, ◌<◌, List, [], map, length, get_or, set, ℤ, pos, refl, ap, ◌∙◌, add-one, arith, w32, SFits, to_z, of_z}
use Rattle.std.proofs.lemmas.List.Edits.{fill_by_more}
use Rattle.std.proofs.lemmas.List.{length-map, map-set}
use Rattle.std.proofs.lemmas.Int.{to_z-of_z}
use Rattle.grid.specs.Sample.{with_part}

-- Part k + 1 replaced by a number that was passed as 32 bits: one place more holds what f says.
pub part_more : (f : ℕ → ℤ) (old new : List ℤ) (k : ℕ) (v : ℤ) → SFits w32 v → new ≡ with_part old (k + 1) (to_z w32 (of_z w32 v)) → v ≡ f k → k < length old →
    ((j : ℕ) → j < k → get_or old j (pos 0) ≡ f j) → (j : ℕ) → j < k + 1 → get_or new j (pos 0) ≡ f j
part_more f old new k v fits e is low before j h =
    let written : new ≡ set old k (f k) = e ∙ ap (with_part old (k + 1)) (to_z-of_z w32 v fits ∙ is) ∙ rw add-one refl in
    ap (λ l. get_or l j (pos 0)) written ∙ fill_by_more f old k (pos 0) low before j h

-- A sample written into a grid: one place more has the parts that f says.
pub sample_more : {K : Type 0} (parts : K → List ℤ) (f : ℕ → List ℤ) (grid : List K) (i : ℕ) (new : K) → parts new ≡ f i → i < length grid →
    ((j : ℕ) → j < i → get_or (map parts grid) j [] ≡ f j) → (j : ℕ) → j < i + 1 → get_or (map parts (set grid i new)) j [] ≡ f j
sample_more parts f grid i new is low before j h =
    ap (λ l. get_or l j []) (map-set parts grid i new ∙ ap (set (map parts grid) i) is)
    ∙ fill_by_more f (map parts grid) i [] (omega (arith, length-map grid parts)) before j h
