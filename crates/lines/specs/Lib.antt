pub mod Lines
pub mod Peaks
