-- Definitions: the plan of a sheet, and where it ends.
pub mod Plans
pub mod Laws
