-- The definitions that the contracts of this crate cite.
pub mod Refusal
pub mod Kind
pub mod Field
pub mod Layout
pub mod Open
pub mod Fill
pub mod Format
pub mod Laws
pub mod Walk
