-- Lemmas on lawful choices, walks down a list, tables, searches, rosters and policies made of others.
pub mod Together
pub mod Turns
pub mod Seating
pub mod Bounds
pub mod Naming
pub mod Finding
pub mod Gathering
