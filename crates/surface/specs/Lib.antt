-- The definitions that the contracts of this crate cite.
pub mod Surface
pub mod Products
pub mod Patch
pub mod Laws
