-- The definitions that the contracts of this crate cite: what each call answers and leaves (Calls, Reading, Fit), and what is promised of whole
-- runs of calls (Runs). Lane is cited by inner functions alone.
pub mod Calls
pub mod Reading
pub mod Runs
pub mod Fit
pub mod Lane
