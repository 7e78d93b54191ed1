pub mod Gain
pub mod Checks
pub mod Call
