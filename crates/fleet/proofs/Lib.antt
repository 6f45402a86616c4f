-- Lemmas on sets, words, sizes and ranks.
pub mod Sizes
pub mod Ranks
pub mod First
pub mod Same
pub mod Bitwise
pub mod Different
pub mod Pushing
pub mod Sound
pub mod Rising
mod Trailing
pub mod Library
pub mod OfNumbers
