-- The definitions that the contracts of this crate cite.
pub mod Checks
pub mod Sample
pub mod Place
pub mod Grid
