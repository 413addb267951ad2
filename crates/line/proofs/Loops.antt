-- The steps of the loops of elimination, over lists and numbers alone.
use Rattle.std.proofs.Common.{◌≡◌, ℕ, suc, ◌+◌, ◌-◌, ◌*◌, ◌^◌, ◌<◌, ◌≤◌, List, [], ◌∷◌, ◌++◌, map, length, get_or, take, set, ℤ, pos, ◌-ℤ◌, ◌*ℤ◌, nat_abs, sym, refl, ap, ◌∙◌, ap₂, arith, w64, to_z, of_z}
use native.Mathlib.Decide.{dec_le}
use lib.Signed.{mag}
use Rattle.std.specs.List.{range_with_len, IsLastAndRest}
use Rattle.std.proofs.lemmas.List.{take_more_set, same_lists, get_or_default}
use Rattle.std.proofs.lemmas.List.FromFn.{map-range_with_len_more, length-map-range_with_len, get_or-map-range_with_len}
use Rattle.std.proofs.lemmas.Grind.{common_steps}
use Rattle.std.proofs.lemmas.Int.{to_z-of_z}
use Rattle.std.proofs.lemmas.Bool.Decides.{nat_tests}
use Rattle.line.specs.Line.{Within}
use Rattle.line.specs.Solver.{limit}
use Rattle.line.specs.FixedPoint.{scale, fraction, nearest}
use Rattle.line.specs.Pivot.{pivot}
use Rattle.line.specs.Elimination.{forward, back, backs, fine, forward_limit, back_limit}
use Rattle.line.specs.Sweeps.{forward_small, back_small}
use Rattle.line.specs.Fractions.{fraction_none}
use Rattle.line.proofs.Casts.{same64}

pub at_index : (k : List ℤ) (b : ℕ) → Within b k → (i : ℕ) → i < length k → nat_abs (get_or k i (pos 0)) ≤ b
at_index k b small i h =
    let here : i + 1 - 1 ≡ i = omega arith in
    rw here at (small (i + 1) (omega arith))

-- Forward

pub forward_none : (k : List ℤ) → forward k 0 ≡ pos 0
unfolding forward
forward_none k = refl

-- a turn at index j, with g and the number v of the line as the code holds them
module _ (k : List ℤ) (small : Within limit k) (j : ℕ) (on : j < length k) (g v : ℤ) (before : g ≡ forward k j) (here : v ≡ get_or k j (pos 0)) where
  sample : nat_abs v ≤ limit
  sample = rw here (at_index k limit small j on)

  pub forward_ready : (nat_abs (to_z w64 (of_z w64 v)) ≤ limit) × (nat_abs g ≤ forward_limit)
  forward_ready = (rw (same64 v (omega (arith, sample))) sample, rw before (forward_small k small j (omega arith)))

  pub forward_more : (w r : ℤ) → w ≡ pos (pivot (length k) (j + 1)) → r ≡ fraction w (pos (6 * scale) *ℤ to_z w64 (of_z w64 v) -ℤ g) → mag r < 2 ^ 63 → to_z w64 (of_z w64 r) ≡ forward k (j + 1)
  unfolding forward
  forward_more w r p h fits = grind (arith, nat_tests)

-- the parts that `split_last` gives
module _ (k rest : List ℤ) (last : ℤ) (cut : IsLastAndRest k last rest) where
  pub at_rest : (j : ℕ) → j < length rest → get_or rest j (pos 0) ≡ get_or k j (pos 0)
  at_rest j h = grind (arith, common_steps)

  pub at_last : (j : ℕ) → j ≡ length rest → last ≡ get_or k j (pos 0)
  at_last j e = grind (arith, common_steps)

pub filled_more : (f : ℕ → ℤ) (out : List ℤ) (j : ℕ) (v : ℤ) → j < length out → take j out ≡ map f (range_with_len 1 j) → v ≡ f (j + 1) →
    take (j + 1) (set out j v) ≡ map f (range_with_len 1 (j + 1))
filled_more f out j v h before e =
    take_more_set out j v h ∙ ap₂ (λ (a : List ℤ) (b : ℤ). a ++ b ∷ []) before e ∙ sym (map-range_with_len_more f 1 j (j + 1) (omega arith))

pub filled_all : (f : ℕ → ℤ) (out : List ℤ) (j n : ℕ) → length out ≡ n → j ≡ n → take j out ≡ map f (range_with_len 1 j) → out ≡ map f (range_with_len 1 n)
filled_all f out j n long e filled = grind (arith, common_steps)

-- Back

pub back_none : (g : List ℤ) (i : ℕ) → i ≡ 0 → back g i ≡ pos 0
unfolding back
back_none g i e = rw e

back_more : (g : List ℤ) (j : ℕ) (v x r : ℤ) → 0 < j → j ≤ length g → v ≡ get_or g (j - 1) (pos 0) → x ≡ back g (length g - j) →
    r ≡ v -ℤ fraction (pos (pivot (length g) j)) x → r ≡ back g (length g - (j - 1))
unfolding back
back_more g j v x r some on e f h = grind arith

-- any pivot serves in the last row, where x is 0
any_last : (g : List ℤ) (j : ℕ) (w x : ℤ) → j ≤ length g → x ≡ back g (length g - j) → (j < length g → w ≡ pos (pivot (length g) j)) →
    fraction w x ≡ fraction (pos (pivot (length g) j)) x
any_last g j w x on e inner = elim (dec_le (suc j) (length g)) [ yes q ↦ ap (λ (v : ℤ). fraction v x) (inner q) | no q ↦ nothing (omega arith) ]
  where
    nothing : length g - j ≡ 0 → fraction w x ≡ fraction (pos (pivot (length g) j)) x
    nothing last =
        let none : x ≡ pos 0 = e ∙ back_none g (length g - j) last in
        rw none (fraction_none w ∙ sym (fraction_none (pos (pivot (length g) j))))

-- a turn at place j, where out still has g up to j
module _ (g out : List ℤ) (j : ℕ) (some : 0 < j) (on : j ≤ length g) (before : (k : ℕ) → k < j → get_or out k (pos 0) ≡ get_or g k (pos 0)) (small : Within forward_limit g) where
  pub read_small : nat_abs (get_or out (j - 1) (pos 0)) ≤ forward_limit
  read_small = grind arith

  pub back_ready : (x : ℤ) → x ≡ back g (length g - j) → (nat_abs (to_z w64 (of_z w64 (get_or out (j - 1) (pos 0)))) ≤ forward_limit) × (nat_abs x ≤ back_limit)
  back_ready x e = (
    rw (same64 (get_or out (j - 1) (pos 0)) (omega (arith, read_small))) read_small,
    rw e (back_small g (omega arith) small (length g - j) (omega arith)),
  )

  pub step_is : (w x r : ℤ) → (j < length g → w ≡ pos (pivot (length g) j)) → x ≡ back g (length g - j) → r ≡ to_z w64 (of_z w64 (get_or out (j - 1) (pos 0))) -ℤ fraction w x → mag r < 2 ^ 63 →
      to_z w64 (of_z w64 r) ≡ back g (length g - (j - 1))
  step_is w x r p e h fits =
      to_z-of_z w64 r (record { sfits = fits }) ∙
      back_more g j _ x r some on (same64 (get_or out (j - 1) (pos 0)) (omega (arith, read_small)) ∙ before (j - 1) (omega arith)) e
      (h ∙ ap (λ v. to_z w64 (of_z w64 (get_or out (j - 1) (pos 0))) -ℤ v) (any_last g j w x on e p))

module _ (g out : List ℤ) (j : ℕ) (y : ℤ) (some : 0 < j) (on : j ≤ length g) (long : length out ≡ length g) where
  pub kept_below : ((k : ℕ) → k < j → get_or out k (pos 0) ≡ get_or g k (pos 0)) → (k : ℕ) → k < j - 1 → get_or (set out (j - 1) y) k (pos 0) ≡ get_or g k (pos 0)
  kept_below before k h = grind (arith, common_steps)

  pub done_above : y ≡ nearest scale (back g (length g - (j - 1))) → ((k : ℕ) → j ≤ k → k < length g → get_or out k (pos 0) ≡ nearest scale (fine g (k + 1))) →
      (k : ℕ) → j - 1 ≤ k → k < length g → get_or (set out (j - 1) y) k (pos 0) ≡ nearest scale (fine g (k + 1))
  done_above e before k low high = grind (arith, common_steps)

pub done_all : (g out : List ℤ) → length out ≡ length g → ((k : ℕ) → k < length g → get_or out k (pos 0) ≡ nearest scale (fine g (k + 1))) → out ≡ backs g
done_all g out long done =
    same_lists out (backs g) (long ∙ sym (length-map-range_with_len (λ j. nearest scale (fine g j)) 1 (length g)))
    (λ k d h.
    get_or_default out k d (pos 0) h ∙ done k (omega arith) ∙
    sym (get_or-map-range_with_len (λ j. nearest scale (fine g j)) 1 (length g) k (k + 1) d (omega arith) (omega arith)))
