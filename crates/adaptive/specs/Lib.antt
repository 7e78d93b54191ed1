pub mod Predict
pub mod Inner
