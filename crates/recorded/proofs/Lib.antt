-- Rows: four rows, each read where the one before ends. Frames: a frame and its energies, likewise.
pub mod Rows
pub mod Frames
