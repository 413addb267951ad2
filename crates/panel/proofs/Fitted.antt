-- One part more is solved into scratch.
use Rattle.std.proofs.Common.{◌≡◌, ℕ, zero, suc, ◌+◌, ◌-◌, ◌<◌, ◌≤◌, false, ◌&&◌, leb, ◌⊎◌, List, [], ◌++◌, length, get_or, take, drop, set, replicate, ℤ, pos, nat_abs, Ok, Err, refl, ap, ◌∙◌, inl, inr, arith}
use Rattle.std.proofs.lemmas.List.{get_or-set_same, get_or-set_other, get_or_append_left, get_or-append_right, get_or-take, get_or-drop, get_or_past, length-take}
use Rattle.std.proofs.lemmas.Bool.{lt-leb, and_right, cases_eq, cases_lt}
use Rattle.line.specs.declared.solver.SolveFault.TheVariants.{Length}
use Rattle.line.specs.Solver.{Solver, Sound}
use Rattle.line.specs.Solve.{solve_answer}
use Rattle.panel.specs.Lane.{Filled, Narrow}
use Rattle.panel.proofs.Lanes.{rule_narrow}

zeros : (n e : ℕ) → nat_abs (get_or (replicate n (pos 0)) e (pos 0)) ≤ 15000006
zeros zero e = omega arith
zeros (suc n) zero = omega arith
zeros (suc n) (suc e) = zeros n e

pub long_line : (k : List ℤ) → 64 < length k → solve_answer k (length k) ≡ Err Length
long_line k h = let e : (leb 2 (length k) && leb (length k) 64) ≡ false = and_right (leb 2 (length k)) (leb (length k) 64) (lt-leb _ _ h) in rw e refl

-- rows of narrow numbers, cut and put together
pub narrow_take : (k : ℕ) (rows : List (List ℤ)) → Narrow rows → Narrow (take k rows)
narrow_take k rows narrow q e = go (cases_lt q k)
  where
    go : (q < k) ⊎ (k ≤ q) → nat_abs (get_or (get_or (take k rows) q []) e (pos 0)) ≤ 15000006
    go (inl low) = rw (get_or-take k rows q [] low) (narrow q e)
    go (inr high) = rw (get_or_past (take k rows) q [] (omega (arith, length-take k rows))) (omega arith)

pub narrow_append : (rows more : List (List ℤ)) → Narrow rows → Narrow more → Narrow (rows ++ more)
narrow_append rows more narrow narrow_more q e = go (cases_lt q (length rows))
  where
    go : (q < length rows) ⊎ (length rows ≤ q) → nat_abs (get_or (get_or (rows ++ more) q []) e (pos 0)) ≤ 15000006
    go (inl low) = rw (get_or_append_left rows more [] q low) (narrow q e)
    go (inr high) = rw (get_or-append_right rows more (length rows) q [] refl high) (narrow_more (q - length rows) e)

pub narrow_drop : (k : ℕ) (rows : List (List ℤ)) → Narrow rows → Narrow (drop k rows)
narrow_drop k rows narrow q e = rw (get_or-drop k rows q []) (narrow (k + q) e)

pub narrow_set : (rows : List (List ℤ)) (q : ℕ) (row : List ℤ) → q < length rows → ((e : ℕ) → nat_abs (get_or row e (pos 0)) ≤ 15000006) → Narrow rows → Narrow (set rows q row)
narrow_set rows q row low narrow_row narrow q' e = go (cases_eq q' q)
  where
    go : (q' ≡ q) ⊎ (q' ≡ q → ⊥) → nat_abs (get_or (get_or (set rows q row) q' []) e (pos 0)) ≤ 15000006
    go (inl same) = rw (same, get_or-set_same rows q row [] low) (narrow_row e)
    go (inr other) = rw (get_or-set_other rows q q' row [] other) (narrow q' e)

pub narrow_zeros : Narrow (replicate 4 (replicate 64 (pos 0)))
narrow_zeros zero e = zeros 64 e
narrow_zeros (suc zero) e = zeros 64 e
narrow_zeros (suc (suc zero)) e = zeros 64 e
narrow_zeros (suc (suc (suc zero))) e = zeros 64 e
narrow_zeros (suc (suc (suc (suc q)))) e = omega arith

-- a part's line, solved: the rule's numbers, then what stood past them
module _ (q n : ℕ) (lines : ℕ → List ℤ) (s : Solver) (sound : Sound s) (solved : List (List ℤ)) (low : q < length solved) (all : (k : ℕ) → length (lines k) ≡ n) (past : List ℤ) where
  abbrev next : List (List ℤ)
  next = set solved q (s.rule (lines (q + 1)) ++ past)

  rule_long : length (s.rule (lines (q + 1))) ≡ n
  rule_long = sound.long (lines (q + 1)) ∙ all (q + 1)

  pub fills : Filled q n s.rule lines solved → Filled (q + 1) n s.rule lines next
  fills before q' e h l = go (cases_eq q' q)
    where
      go : (q' ≡ q) ⊎ (q' ≡ q → ⊥) → get_or (get_or next q' []) e (pos 0) ≡ get_or (s.rule (lines (q' + 1))) e (pos 0)
      go (inl same) =
          rw same (ap (λ v. get_or v e (pos 0)) (get_or-set_same solved q (s.rule (lines (q + 1)) ++ past) [] low)
          ∙ get_or_append_left (s.rule (lines (q + 1))) past (pos 0) e (omega (arith, rule_long)))
      go (inr other) = ap (λ v. get_or v e (pos 0)) (get_or-set_other solved q q' (s.rule (lines (q + 1)) ++ past) [] other) ∙ before q' e (omega arith) l

  pub stays_narrow : solve_answer (lines (q + 1)) n ≡ Ok tt → ((e : ℕ) → nat_abs (get_or past e (pos 0)) ≤ 15000006) → Narrow solved → Narrow next
  stays_narrow answer end before = narrow_set solved q (s.rule (lines (q + 1)) ++ past) low (λ e. in_line e (cases_lt e n)) before
    where
      taken_in : solve_answer (lines (q + 1)) (length (lines (q + 1))) ≡ Ok tt
      taken_in = ap (solve_answer (lines (q + 1))) (all (q + 1)) ∙ answer

      in_line : (e : ℕ) → (e < n) ⊎ (n ≤ e) → nat_abs (get_or (s.rule (lines (q + 1)) ++ past) e (pos 0)) ≤ 15000006
      in_line e (inl l) =
          rw (get_or_append_left (s.rule (lines (q + 1))) past (pos 0) e (omega (arith, rule_long)))
          (rule_narrow s sound (lines (q + 1)) taken_in e (omega (arith, all (q + 1))))
      in_line e (inr l) = rw (get_or-append_right (s.rule (lines (q + 1))) past n e (pos 0) rule_long l) (end (e - n))
