-- Lemmas about lines and about the solvers; other crates may import them.
pub mod Tables
pub mod Casts
pub mod Answered
pub mod Loops
pub mod Accepted
pub mod Places
pub mod Rules
pub mod Shot
pub mod Doubled
pub mod Refined
pub mod Eliminated
