-- Lemmas on the bytes of events, and on reading and adding them.
pub mod Numbers
pub mod OneEvent
pub mod Runs
pub mod Adds
