-- Lemmas: single placements, any two, settling, faults, lists, and policies that choose alike.
mod Standing
pub mod Facts
pub mod Polarity
pub mod Counts
pub mod Join
mod Lattice
pub mod Tabulate
pub mod Rounds
pub mod Settles
mod Reached
mod Searches
mod Faults
mod Displaced
pub mod Firsts
pub mod Scan
pub mod Alike
