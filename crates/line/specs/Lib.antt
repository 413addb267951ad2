-- The definitions that the contracts of this crate cite.
pub mod Line
pub mod Residual
pub mod Solver
pub mod Solve
pub mod Laws
pub mod FixedPoint
pub mod Pivot
pub mod Elimination
-- Nothing to believe below: the proof that elimination is sound, which stands here because the impl cites it.
pub mod Ring
pub mod Products
pub mod Linear
pub mod Rounding
pub mod Doubled
pub mod Floor
pub mod Fractions
pub mod Pivots
pub mod Row
pub mod Steps
pub mod Sweeps
pub mod Refined
pub mod Eliminated
