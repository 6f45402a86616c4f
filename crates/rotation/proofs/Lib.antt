-- Lemmas: steps, walks along successors, cycles, the placement after a rotation, and lists of moves.
pub mod Steps
pub mod Later
pub mod Cycles
pub mod Tandem
pub mod Applied
pub mod Changed
pub mod Cover
pub mod Commute
pub mod Best
pub mod Alike
pub mod Carried
pub mod Moved
pub mod Walks
mod Knowledge
mod Gathered
pub mod Listed
pub mod Rotates
pub mod RotationLaws
pub mod LastOnes
