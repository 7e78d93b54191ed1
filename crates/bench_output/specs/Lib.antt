pub mod Output
pub mod Steps
pub mod Serving
