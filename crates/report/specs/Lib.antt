-- Definitions: bytes written in digits, what an input comes to, and how a sheet settles.
pub mod Digits
pub mod Inputs
pub mod Settlements
