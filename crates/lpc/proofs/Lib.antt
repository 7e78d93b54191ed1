-- Blends: their clamps never act. Polynomials: one degree more, as the code makes it in an array. Coefficients: a row's length, first entry, range and entries.
pub mod Blends
pub mod Polynomials
pub mod Coefficients
