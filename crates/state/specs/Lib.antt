pub mod State
pub mod Layout
