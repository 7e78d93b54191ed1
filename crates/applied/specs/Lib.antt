-- Starred, Examples, Refusals, Listing: values, a call, refusals and the bench program's listing, computed from the definition.
-- The others: the theorems at the top, applied.
pub mod Starred
pub mod Examples
pub mod Refusals
pub mod Gains
pub mod Indexed
pub mod CallList
pub mod Erased
pub mod Retries
pub mod Held
pub mod Promised
pub mod Divisions
pub mod Calls
pub mod Synthesis
pub mod Postfilter
pub mod Capi
pub mod Lengths
pub mod Listing
pub mod Handover
pub mod Records
pub mod Peaks
pub mod Report
