pub mod Log2
pub mod Pow2
