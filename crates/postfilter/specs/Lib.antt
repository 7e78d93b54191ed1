pub mod Weight
pub mod Residual
pub mod Tilt
pub mod Preemphasis
pub mod Postfilter
pub mod Tilted
pub mod Divisions
