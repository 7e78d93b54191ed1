-- Frames: what a frame gives, of usable inputs. Calls: one call. Answers: what a call gives. Lists: lists of calls.
pub mod Frames
pub mod Calls
pub mod Answers
pub mod Lists
