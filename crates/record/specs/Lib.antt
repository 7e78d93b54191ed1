pub mod Record
pub mod Inner
pub mod Handover
