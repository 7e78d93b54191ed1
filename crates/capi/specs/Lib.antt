pub mod Capi
pub mod Frames
pub mod Gains
pub mod Lengths
