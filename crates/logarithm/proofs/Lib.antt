-- Logarithms, Powers: the position that each takes lies in a table of 33 numbers; what Pow2 gives where those lie in 0..=32767.
pub mod Logarithms
pub mod Powers
