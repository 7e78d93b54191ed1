-- Variants: what holds of every outcome. Checks: checks one by one, and group after group. Ranges: the search for the first number outside its range.
-- Gaps: the search for the first number too close to the one before.
pub mod Variants
pub mod Checks
pub mod Ranges
pub mod Gaps
