-- Definitions: fields of bytes, their kinds and contents, sheets, and what holds of them.
pub mod Framing
pub mod Faults
pub mod Fields
pub mod Sheets
pub mod Reading
pub mod Texts
pub mod Says
pub mod Encoding
pub mod Writes
pub mod Laws
