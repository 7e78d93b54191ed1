pub mod Median
pub mod Concealment
pub mod Formed
pub mod Laws
