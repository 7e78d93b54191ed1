-- Smoothing: the smoothed gain. Controls: agc2 and agc by the output's energy.
pub mod Smoothing
pub mod Controls
