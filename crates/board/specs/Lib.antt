-- Definitions: how the arrays of a board's table hold rotations, the state and the answers that a table shows, and what a call at a board and a turn of moving on do.
pub mod Pieces
pub mod Shown
pub mod Answers
pub mod Done
pub mod Moving
