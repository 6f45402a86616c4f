-- Definitions: farms, stable placements, settling, the check, steps and laws.
pub mod Entries
pub mod Farms
pub mod Staffs
pub mod Stable
pub mod Settling
pub mod Checking
pub mod Stepping
pub mod Laws
