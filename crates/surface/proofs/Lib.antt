-- Lemmas about weighted sums, grids and readings; other crates may import them.
pub mod Below
pub mod Weighted
pub mod Weights
pub mod Rounded
pub mod Sums
pub mod Grids
pub mod Readings
pub mod GridLaws
