pub mod Energy
pub mod Root
pub mod Gain
pub mod Divisions
