pub mod Shape
pub mod Tables
pub mod Grids
pub mod Examples
pub mod Chains
pub mod Rings
pub mod Pairs
pub mod Raid
