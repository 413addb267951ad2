-- Lemmas about the fields of a file and about what a file encodes.
pub mod Walk
pub mod Bytes
pub mod Fields
pub mod Sections
pub mod Blocks
pub mod Numbers
pub mod Accepted
pub mod Decoded
pub mod Encoded
pub mod Exactly
pub mod Stored
pub mod Cut
