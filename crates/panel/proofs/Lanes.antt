-- Steps of the code that walks a lane.
use Rattle.std.proofs.Common.{◌≡◌, ℕ, zero, suc, ◌+◌, ◌-◌, ◌*◌, ◌<◌, ◌≤◌, List, length, get_or, set, ℤ, pos, ◌*ℤ◌, nat_abs, Ok, Err, refl, ap, ◌∙◌, mul-le-mul, add-one, arith, w32, w64, SFits, to_z, of_z, rules}
use Rattle.std.proofs.lemmas.Int.{ints, to_z-of_z, unsigned_abs-mul}
use Rattle.std.proofs.lemmas.List.Edits.{fill_by_more}
use Rattle.line.specs.Line.{place}
use Rattle.line.specs.Solve.{solve_answer}
use Rattle.panel_fault.specs.declared.PanelFault.{PanelFault}
use Rattle.panel.specs.Calls.{Answer, solver_took, solver_takes}
use Rattle.line.specs.Solver.{Solver, Sound, limit}
use Rattle.line.proofs.Doubled.{doubled}
use Rattle.line.proofs.Rules.{sized}
use Rattle.line.proofs.Accepted.{accepted}
use Rattle.grid.specs.Sample.{with_part}

-- a factor of at most 16 keeps a part within 64 bits
pub scaled_fits : (n : ℕ) (x : ℤ) → n ≤ 16 → SFits w32 x → SFits w64 (pos n *ℤ x)
scaled_fits n x h f =
    let p : nat_abs x ≤ 2147483648 = omega (arith, ints) in
    let q : nat_abs (pos n *ℤ x) ≤ 16 * 2147483648 = omega (arith, unsigned_abs-mul (pos n) x, mul-le-mul h p) in
    go (pos n *ℤ x) q
  where
    go : (z : ℤ) → nat_abs z ≤ 16 * 2147483648 → SFits w64 z
    go z q = search (rules, ints)

pub narrow_fits : (x : ℤ) → nat_abs x ≤ 15000006 → SFits w32 x
narrow_fits x h = search (rules, ints)

-- one more number of a line, as the code wrote it
pub wrote : (f : ℕ → ℤ) (xs : List ℤ) (i : ℕ) (v : ℤ) → v ≡ f i → i < length xs → ((k : ℕ) → k < i → get_or xs k (pos 0) ≡ f k) → (k : ℕ) → k < i + 1 → get_or (set xs i v) k (pos 0) ≡ f k
wrote f xs i v e h before k l = ap (λ v. get_or (set xs i v) k (pos 0)) e ∙ fill_by_more f xs i (pos 0) h before k l

pub with_part_is : (v : List ℤ) (k : ℕ) (x : ℤ) → with_part v (k + 1) x ≡ set v k x
with_part_is v k x = rw add-one refl

-- a factor times a part, as the code computes it
module _ (a b : ℤ) (n : ℕ) (x : ℤ) (is_a : a ≡ pos n) (is_b : b ≡ to_z w32 (of_z w32 x)) (h : n ≤ 16) (f : SFits w32 x) where
  factor : to_z w64 (of_z w64 a) ≡ pos n
  factor = let s : SFits w64 (pos n) = search (rules, ints) in ap (λ a. to_z w64 (of_z w64 a)) is_a ∙ to_z-of_z w64 (pos n) s

  part : to_z w64 (of_z w64 b) ≡ x
  part =
      let e : b ≡ x = is_b ∙ to_z-of_z w32 x f in
      let s : SFits w64 x = search (rules, ints) in
      ap (λ b. to_z w64 (of_z w64 b)) e ∙ to_z-of_z w64 x s

  pub product_fits : SFits w64 (to_z w64 (of_z w64 a) *ℤ to_z w64 (of_z w64 b))
  product_fits = rw (factor, part) (scaled_fits n x h f)

  pub product_is : to_z w64 (of_z w64 (to_z w64 (of_z w64 a) *ℤ to_z w64 (of_z w64 b))) ≡ pos n *ℤ x
  product_is = rw (factor, part) (to_z-of_z w64 (pos n *ℤ x) (scaled_fits n x h f))

-- a narrow number, cast
module _ (x : ℤ) (h : nat_abs x ≤ 15000006) where
  wide : to_z w64 (of_z w64 x) ≡ x
  wide = let s : SFits w64 x = search (rules, ints) in to_z-of_z w64 x s

  pub cast_fits : SFits w32 (to_z w64 (of_z w64 x))
  cast_fits = rw wide (narrow_fits x h)

  pub cast_is : to_z w32 (of_z w32 (to_z w64 (of_z w64 x))) ≡ x
  cast_is = rw wide (to_z-of_z w32 x (narrow_fits x h))

-- The solver takes part after part.
module _ (line k : ℕ) (lines : ℕ → List ℤ) where
  abbrev part_answer : Answer
  part_answer = solver_took line k (solve_answer (lines k) (length (lines k)))

  pub takes_on : (n : ℕ) → 0 < n → Ok tt ≡ part_answer → solver_takes line k n lines ≡ solver_takes line (k + 1) (n - 1) lines
  takes_on zero h e = absurd (omega arith)
  takes_on (suc n) h e = let m : suc n - 1 ≡ n = omega arith in rw (m, ← e) refl

  pub takes_out : {f : PanelFault} (n : ℕ) → 0 < n → Err f ≡ part_answer → solver_takes line k n lines ≡ Err f
  takes_out zero h e = absurd (omega arith)
  takes_out {f} (suc n) h e = rw (← e) refl

-- What a sound solver answers on a line that it takes.
module _ (s : Solver) (sound : Sound s) (k : List ℤ) (takes : solve_answer k (length k) ≡ Ok tt) where
  pub rule_narrow : (i : ℕ) → i < length k → nat_abs (get_or (s.rule k) i (pos 0)) ≤ 15000006
  rule_narrow i h =
      let ok = (accepted k (length k) takes).admitted in
      let m : i + 1 - 1 ≡ i = omega arith in
      let w = sized (doubled (length k)) (place k) (place (s.rule k)) limit s.grade ok.small (sound.near k ok) (i + 1) (omega arith) in
      let v : nat_abs (place (s.rule k) (i + 1)) ≤ 15000006 = omega (arith, sound.graded) in
      rw m at v
