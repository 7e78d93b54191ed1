pub mod Frame
pub mod Indexed
pub mod Sharpening
pub mod Divisions
pub mod Inner
