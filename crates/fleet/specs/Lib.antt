-- Definitions: sets of workers, lists and placements.
pub mod Sets
pub mod Market
pub mod Members
pub mod Rankings
pub mod Lists
pub mod Kinds
pub mod OfNumbers
