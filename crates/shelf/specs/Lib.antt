-- What the contracts of this crate cite; and in Places, what proves the law of a shelf.
pub mod Meaning
pub mod Changes
pub mod Memory
pub mod Script
pub mod Fault
pub mod History
pub mod Runs
pub mod Places
