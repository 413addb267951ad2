-- The numbers of the refusals, and a solver's fault as the panel's.
use Rattle.std.specs.Prelude.{ℕ, Ok, Err, Result}
use Rattle.panel_fault.specs.declared.PanelFault.{PanelFault}
use Rattle.panel_fault.specs.declared.PanelFault.TheVariants.{Size, Place, NoLine, OutsideArea, PartBeyond, TooManyProbes, FirstStale, SecondStale, GridLength, Solver, ControlBeyond}
use Rattle.panel_fault.specs.declared.SolverRefusal.{SolverRefusal}

-- The number of each refusal.
abbrev pub fault_number : PanelFault → ℕ
fault_number Size = 14
fault_number Place = 21
fault_number NoLine = 22
fault_number OutsideArea = 23
fault_number (PartBeyond row column part) = 24
fault_number TooManyProbes = 25
fault_number FirstStale = 31
fault_number SecondStale = 32
fault_number GridLength = 41
fault_number (Solver line part fault) = 42
fault_number ControlBeyond = 43

-- A solver's fault on one part of a line, whole.
abbrev pub as_fault : SolverRefusal → PanelFault
as_fault e = Solver e.line e.part e.fault

-- An answer that may carry it.
abbrev pub as_answer : {A : Type 0} → Result A SolverRefusal → Result (Unit {0}) PanelFault
as_answer (Ok _) = Ok tt
as_answer (Err e) = Err (as_fault e)
