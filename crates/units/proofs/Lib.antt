-- The lemmas of this crate, for its own proofs and for the crates above; some are for crates to come.
pub mod Sums
pub mod Pools
pub mod Sets
pub mod Counts
