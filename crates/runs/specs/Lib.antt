-- Definitions: the board as a machine on values, moves that go down the workers' lists, and the laws over every run.
pub mod States
pub mod Calls
pub mod Descent
pub mod Onward
pub mod Laws
