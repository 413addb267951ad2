-- Lemmas about places and about chains of checks; other crates may import them.
pub mod Chains
pub mod Places
