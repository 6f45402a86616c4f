-- Lemmas: moves that go down, routes of rotations, what every call keeps, and the laws over runs.
pub mod Descent
pub mod Routes
mod Cases
pub mod Kept
pub mod Falls
pub mod Bounds
pub mod Onward
mod Agree
mod Unstopped
