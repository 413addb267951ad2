-- The lemmas of this crate.
mod Lines
mod Panel
