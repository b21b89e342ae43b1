-- The lemmas of this crate, for its own proofs and for the crates above.
pub mod Equal
mod Places
mod History
mod Runs
