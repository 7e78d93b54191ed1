-- Machine: a subframe, and the core of a frame, beside the machine of whole numbers. Calls: one call. CallList: the theorem.
pub mod Machine
pub mod Calls
pub mod CallList
