-- Definitions: the bytes of an event, adding one to a journal, reading a journal, and what holds of them.
pub mod Events
pub mod Adding
pub mod Reading
pub mod Laws
