-- Tests: equality as a test, and casts and shifts of locals. Sums: the clamped sum is the exact one, held once; an energy's range. Gains: the operands of the division and the gain.
-- Divisors, Divisions, Results: what holds of all that agc2 and agc divide by, how often they divide, what they give. Values: values to hold.
pub mod Tests
pub mod Sums
pub mod Gains
pub mod Divisors
pub mod Divisions
pub mod Results
pub mod Values
