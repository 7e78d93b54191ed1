-- Codes: the calls' outcomes, and what their places lie in. Buffers: what is lent, part by part. Calls: the calls, case by case. Energies: a frame sheet's call goes by none. Unchanged: a call that is not accepted. Lengths: what is lent of another length.
pub mod Codes
pub mod Buffers
pub mod Calls
pub mod Energies
pub mod Unchanged
pub mod Lengths
