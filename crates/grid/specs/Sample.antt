-- A sample is the list of its parts, signed 32-bit numbers that count from 1.
use Rattle.std.specs.Prelude.{ℕ, zero, suc, List, ℤ, pos, negsuc, ◌≤ℤ◌, slice_index_or, slice_set}

-- Part k, and 0 if there is no k-th.
abbrev pub part_of : List ℤ → ℕ → ℤ
part_of s zero = pos 0
part_of s (suc k) = slice_index_or s k (pos 0)

-- The same list with part k replaced, and the same list if there is no k-th.
abbrev pub with_part : List ℤ → ℕ → ℤ → List ℤ
with_part s zero v = s
with_part s (suc k) v = slice_set s k v

-- From -2147483648 to 2147483647.
abbrev pub Fits32 : ℤ → Type 0
Fits32 v = (negsuc 2147483647 ≤ℤ v) × (v ≤ℤ pos 2147483647)
