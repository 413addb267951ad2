-- Lemmas about the words of a text.
pub mod Sofar
