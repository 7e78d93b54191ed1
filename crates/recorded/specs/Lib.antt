pub mod Words
pub mod Compare
