-- Sheets: a sheet's pitch indices and a state's mark, as the code has them. Groups: the groups of checks. Order: one after another. Passed: what an accepted call has
-- shown. LagRanges: lags. Steps: subframe after subframe. Sound: what a kind owes of an accepted sheet; Usable, Formed: what such a sheet comes to. Accepted: what an accepted call has shown.
-- GainLaws: gains.
pub mod Sheets
pub mod Groups
pub mod Order
pub mod Passed
pub mod LagRanges
pub mod Steps
pub mod Sound
pub mod Usable
pub mod Formed
pub mod Accepted
pub mod GainLaws
