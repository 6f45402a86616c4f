-- Lemmas: rotations in arrays, and what each change of a table leaves.
pub mod Pieces
pub mod Written
pub mod Held
pub mod Going
pub mod Turning
pub mod Advancing
