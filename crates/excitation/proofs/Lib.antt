-- Sharpening: the loop that sharpens in place. Ranges: how many numbers there are, and what they lie in.
pub mod Sharpening
pub mod Ranges
