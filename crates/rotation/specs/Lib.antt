-- Definitions: rotations, their moves, their laws and worked cases.
pub mod Rotation
pub mod Moves
pub mod Listing
pub mod Walking
pub mod Laws
pub mod Cases
