-- The invariant of every state that calls have reached, accepted and refused ones.
use Rattle.std.proofs.Common.{◌≡◌, ℕ, ◌∷◌, nat_abs, Ok, Err, refl}
use Rattle.panel_fault.specs.declared.PanelFault.{PanelFault}
use Rattle.grid.specs.Grid.{Grid}
use Rattle.panel.specs.Calls.{State, Answer, probe_answer, first_answer, second_answer}
use Rattle.panel.specs.Runs.{Event, History, recorded, Reached}
use Rattle.panel.specs.Runs.Reached.{make, probe, first_line, second_line}
use Rattle.panel.proofs.Invariant.{Invariant}
use Rattle.panel.proofs.Made.{from_make}
use Rattle.panel.proofs.Probed.{probe_taken, after_probe}
use Rattle.panel.proofs.FirstRan.{first_taken, after_first}
use Rattle.panel.proofs.SecondRan.{second_taken, after_second}

-- an accepted call, and a refused one that leaves the state
by_answer : (P : State → History → Type 0) (after : Answer → State) (a : Answer) (e : Event) (h : History) → (a ≡ Ok tt → P (after (Ok tt)) (e ∷ h)) → ((x : PanelFault) → P (after (Err x)) h) → P (after a) (recorded a e h)
by_answer P after (Ok u) e h f g = f refl
by_answer P after (Err x) e h f g = g x

pub invariant : {parts : ℕ} {m : Grid} {st : State} {h : History} → Reached parts m st h → Invariant parts m st h
invariant {parts} {m} (make rows columns o halves controls ok whole) = from_make parts m rows columns o halves controls ok whole
invariant {parts} {m} (probe {s} {h} c row column new whole) =
    let inv = invariant c in
    by_answer (Invariant parts m) (probe_taken s (nat_abs row) (nat_abs column) new) (probe_answer s.panel s.samples row column new) _ h (after_probe parts m s h inv row column new whole) (λ _. inv)
invariant {parts} {m} (first_line {s} {h} c by sound i) =
    let inv = invariant c in
    by_answer (Invariant parts m) (first_taken parts by s (nat_abs i)) (first_answer parts s.panel s.samples s.halves i) _ h (after_first parts m s h inv by sound i) (λ _. inv)
invariant {parts} {m} (second_line {s} {h} c by sound j) =
    let inv = invariant c in
    by_answer (Invariant parts m) (second_taken parts by s (nat_abs j)) (second_answer parts s.panel s.halves s.controls j) _ h (after_second parts m s h inv by sound j) (λ _. inv)
