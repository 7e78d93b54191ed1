-- Ints: ℤ by its two parts, so that `omega` reads it; the order. Range, Shift, Clamp, Wrap: what fits, for any width.
-- Fits: what each operator gives fits its type. Words: lists of 16-bit numbers. Naturals: the operators of numbers that are not negative. Counts: shifts by a signed count. Calls: what `search` is handed where operators are called. Norm, Division, Split: norm_l, div_s, L_Extract. Tables: the way between two entries of a table. Unclamped: sums that no L_mac clamps.
pub mod Ints
pub mod Tests
pub mod Range
pub mod Shift
pub mod Clamp
pub mod Wrap
pub mod Naturals
pub mod Fits
pub mod Counts
pub mod Calls
mod Corners
pub mod Norm
pub mod Division
pub mod Split
pub mod Tables
pub mod Words
pub mod Unclamped
