-- What contracts cite, those of this crate and those above it.
pub mod Units
pub mod Sums
pub mod Sets
