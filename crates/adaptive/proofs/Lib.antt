-- Table: the interpolation table's rule. Places: phase and start of a lag, and what they read. Taps: the rows of the three phases.
-- Samples: what a sample is made of. Tested: numbers that are not large. Sums: sums that no step clamps. Predicted: what a prediction gives.
pub mod Table
pub mod Places
pub mod Taps
pub mod Samples
pub mod Tested
pub mod Sums
pub mod Predicted
