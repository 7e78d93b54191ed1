-- Lags: the definition's numbers in ℕ, and the range of every lag.
pub mod Lags
