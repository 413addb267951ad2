-- What a call leaves is reached, if what it was given is: from the equations of the calls' contracts.
use Rattle.std.proofs.Common.{get_or, ◌≡◌, ℕ, List, map, length, ℤ, nat_abs, Ok, Err, Result, sym, refl, ap, subst, ap₂, subst₂}
use Rattle.std.specs.List.{All}
use Rattle.std.proofs.lemmas.List.Elements.{All-map}
use Rattle.std.specs.Result.{result_and}
use Rattle.line.specs.Solver.{Solver, Sound}
use Rattle.panel.specs.declared.record.Panel.{Panel}
use Rattle.panel.specs.declared.record.Order.{Order}
use Rattle.panel_fault.specs.declared.PanelFault.{PanelFault}
use Rattle.panel_fault.specs.declared.PanelFault.TheVariants.{Size}
use Rattle.grid.specs.Grid.{Grid, at}
use Rattle.panel.specs.Calls.{State, Answer, between, make_answer, make_result, new_panel, probe_answer, probe_panel, probe_samples, first_answer, first_panel, first_halves, second_answer, second_panel, second_controls}
use Rattle.grid.specs.Checks.{check}
use Rattle.panel.specs.Runs.{History, recorded, Reached, Begins, HasOneSurface, OneSurface}
use Rattle.grid.proofs.Chains.{both_good, held}
use Rattle.panel.proofs.Passed.{between_is}
use Rattle.panel.proofs.Faithful.{one_surface}
use Rattle.panel.specs.Runs.Reached.{make, probe, first_line, second_line}
use Rattle.panel.specs.Runs.Event.{probed, first_ran, second_ran}

abbrev pub state : Panel → Grid → Grid → Grid → State
state p samples halves controls = record { panel = p; samples = samples; halves = halves; controls = controls }

pub moved : {parts : ℕ} {m : Grid} {h h' : History} {st st' : State} → st' ≡ st → h' ≡ h → Reached parts m st h → Reached parts m st' h'
moved {parts} {m} e f reached = subst₂ (Reached parts m) (sym e) (sym f) reached

-- Samples of one kind have one number of parts.
pub whole_grid : {K : Type 0} (f : K → List ℤ) (parts : ℕ) → ((s : K) → length (f s) ≡ parts) → (samples : List K) → All (λ v. length v ≡ parts) (map f samples)
whole_grid f parts whole samples = All-map (λ v. length v ≡ parts) f samples (λ k s low. whole (get_or samples k s))

module _ (parts : ℕ) (rows columns : ℤ) (o : Order) (samples halves controls : Grid) (r : Result Panel PanelFault) (e : r ≡ make_result rows columns o samples halves controls) where
  -- what follows an accepted make of each answer
  by_answer : (P : Result Panel PanelFault → Type 0) → (make_answer rows columns samples halves controls ≡ Ok tt → P (Ok (new_panel rows columns o))) → ((x : PanelFault) → P (Err x)) → P r
  by_answer P good bad = subst P (sym e) (go (make_answer rows columns samples halves controls) refl)
    where
      go : (a : Answer) → make_answer rows columns samples halves controls ≡ a → P (result_and a (Ok (new_panel rows columns o)))
      go (Ok u) ok = good ok
      go (Err x) ok = bad x

  pub make_begins : All (λ v. length v ≡ parts) samples → Begins parts samples halves controls r
  make_begins whole = by_answer (Begins parts samples halves controls) (λ ok. make rows columns o halves controls ok whole) (λ _. tt)

  pub make_has_surface : HasOneSurface parts samples r
  make_has_surface = by_answer (HasOneSurface parts samples) (λ ok part on. surface ok (at (nat_abs columns) samples part)) (λ _. tt)
    where
      surface : make_answer rows columns samples halves controls ≡ Ok tt → (sample : ℕ → ℕ → ℤ) → OneSurface (nat_abs rows) (nat_abs columns) sample
      surface ok =
          let a = both_good (check (between rows 2 64) Size) _ ok in
          let b = both_good (check (between columns 2 64) Size) _ a.1 in
          one_surface (nat_abs rows) (nat_abs columns) (between_is rows 2 64 (held _ _ a.0)).0 (between_is columns 2 64 (held _ _ b.0)).0

module _ (parts : ℕ) (m : Grid) (h : History) (p : Panel) (samples halves controls : Grid) (reached : Reached parts m (state p samples halves controls) h) where
  pub probe_reaches : (row column : ℤ) (new : List ℤ) (r : Answer) (p' : Panel) (samples' : Grid) → length new ≡ parts →
      r ≡ probe_answer p samples row column new → p' ≡ probe_panel p samples row column new → samples' ≡ probe_samples p samples row column new →
      Reached parts m (state p' samples' halves controls) (recorded r (probed (nat_abs row) (nat_abs column) new) h)
  probe_reaches row column new r p' samples' whole answer_is panel_is samples_is =
      moved (ap₂ (λ p samples. state p samples halves controls) panel_is samples_is) (ap (λ a. recorded a (probed (nat_abs row) (nat_abs column) new) h) answer_is) (probe reached row column new whole)

  pub first_reaches : (by : Solver) → Sound by → (i : ℤ) (r : Answer) (p' : Panel) (halves' : Grid) →
      r ≡ first_answer parts p samples halves i → p' ≡ first_panel parts p by samples halves i → halves' ≡ first_halves parts p by samples halves i →
      Reached parts m (state p' samples halves' controls) (recorded r (first_ran (nat_abs i) by) h)
  first_reaches by sound i r p' halves' answer_is panel_is halves_is =
      moved (ap₂ (λ p halves. state p samples halves controls) panel_is halves_is) (ap (λ a. recorded a (first_ran (nat_abs i) by) h) answer_is) (first_line reached by sound i)

  pub second_reaches : (by : Solver) → Sound by → (j : ℤ) (r : Answer) (p' : Panel) (controls' : Grid) →
      r ≡ second_answer parts p halves controls j → p' ≡ second_panel parts p by halves controls j → controls' ≡ second_controls parts p by halves controls j →
      Reached parts m (state p' samples halves controls') (recorded r (second_ran (nat_abs j) by) h)
  second_reaches by sound j r p' controls' answer_is panel_is controls_is =
      moved (ap₂ (λ p controls. state p samples halves controls) panel_is controls_is) (ap (λ a. recorded a (second_ran (nat_abs j) by) h) answer_is) (second_line reached by sound j)
