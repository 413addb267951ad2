-- The definitions that the contract of this crate cites.
pub mod Worked
