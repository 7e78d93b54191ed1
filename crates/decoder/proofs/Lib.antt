-- Synthesis: the two ways of the synthesis. Subframes: the subframe step from its parts. Retry: what specs/Retry.antt says of retries. Results: lengths, ranges, places, divisors. Divisions: how many.
pub mod Synthesis
pub mod Subframes
pub mod Retry
pub mod Results
pub mod Divisions
