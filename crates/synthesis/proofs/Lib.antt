-- Flags: numbers outside 32 bits, in lists and lists of lists. Fed: the recursion that is fed its own samples. Agree: the theorem of specs/Agree.antt.
-- Samples: lengths, ranges, place and flag. Values: the starred values. Halves, Taps: the code's sums, tap by tap. Windows: the ten samples before a sample are
-- all that it reads. Pairs: coefficients and samples side by side. Passes: the loops over the samples.
pub mod Flags
pub mod Fed
pub mod Agree
pub mod Samples
pub mod Values
pub mod Halves
pub mod Pairs
pub mod Taps
pub mod Windows
pub mod Passes
