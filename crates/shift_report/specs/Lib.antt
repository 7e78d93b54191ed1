pub mod Totals
pub mod Report
pub mod Steps
pub mod Serving
