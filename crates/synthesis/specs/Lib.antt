pub mod Recursion
pub mod Synthesis
pub mod Whole
pub mod Agree
pub mod Inner
