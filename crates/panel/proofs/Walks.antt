-- Loops over the parts of a sample and over the samples of a grid: one further, out, and at the end.
use Rattle.std.proofs.Common.{◌≡◌, ℕ, zero, suc, ◌+◌, ◌-◌, ◌/◌, ◌%◌, ◌<◌, ◌≤◌, true, false, leb, List, [], length, get_or, drop, ℤ, pos, nat_abs, Ok, Err, refl, arith}
use Rattle.std.proofs.lemmas.List.{drop_more, drop_all}
use Rattle.line.specs.Line.{OnLine}
use Rattle.grid.specs.Grid.{Grid}
use Rattle.grid.specs.Sample.{part_of}
use Rattle.panel_fault.specs.declared.PanelFault.{PanelFault}
use Rattle.panel_fault.specs.declared.PanelFault.TheVariants.{PartBeyond}
use Rattle.panel.specs.Calls.{part_limit, parts_within, grid_within}

module _ (r s : ℕ) (v : List ℤ) where
  pub part_on : (part : ℕ) → OnLine (length v) part → leb (nat_abs (part_of v part)) part_limit ≡ true → parts_within r s part (drop (part - 1) v) ≡ parts_within r s (part + 1) (drop (part + 1 - 1) v)
  part_on zero on low = absurd (omega arith)
  part_on (suc k) on low =
      let here : suc k - 1 ≡ k = omega arith in
      let next : suc k + 1 - 1 ≡ k + 1 = omega arith in
      rw (here, next, drop_more v k (pos 0) (omega arith), low) refl

  pub part_out : (part : ℕ) → OnLine (length v) part → leb (nat_abs (part_of v part)) part_limit ≡ false → parts_within r s part (drop (part - 1) v) ≡ Err (PartBeyond r s part)
  part_out zero on high = absurd (omega arith)
  part_out (suc k) on high = let here : suc k - 1 ≡ k = omega arith in rw (here, drop_more v k (pos 0) (omega arith), high) refl

  pub parts_past : (part k : ℕ) → length v ≤ k → parts_within r s part (drop k v) ≡ Ok tt
  parts_past part k h = rw (drop_all k v h) refl

module _ (columns k : ℕ) (g : Grid) (v : List ℤ) where
  pub grid_on : k < length g → get_or g k [] ≡ v → parts_within (k / columns + 1) (k % columns + 1) 1 v ≡ Ok tt → grid_within columns k (drop k g) ≡ grid_within columns (k + 1) (drop (k + 1) g)
  grid_on h is ok = rw (drop_more g k [] h, is, ok) refl

  pub grid_out : {f : PanelFault} → k < length g → get_or g k [] ≡ v → parts_within (k / columns + 1) (k % columns + 1) 1 v ≡ Err f → grid_within columns k (drop k g) ≡ Err f
  grid_out h is out = rw (drop_more g k [] h, is, out) refl

pub grid_all : (columns k : ℕ) (g : Grid) → length g ≤ k → grid_within columns k (drop k g) ≡ Ok tt
grid_all columns k g h = rw (drop_all k g h) refl
