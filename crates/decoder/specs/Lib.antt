pub mod Inputs
pub mod Enhance
pub mod Subframe
pub mod Core
pub mod Divisions
pub mod Retry
