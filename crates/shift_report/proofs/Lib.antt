-- Plus: totals of one list after another. Squares: squares of 16-bit numbers, and their sum as it is folded. Shares: what one call adds. Bounds, Widths: how
-- large totals can be. Traces: the calls of an input's sheets. Steps: the steps of any input come to the whole report. Unread: what is not read. Means: the
-- mean of a sum. Lines: the report's line, field by field. Taken: how much of the input was read. Running: what the rounds have made.
pub mod Plus
pub mod Squares
pub mod Shares
pub mod Bounds
pub mod Widths
pub mod Traces
pub mod Steps
pub mod Unread
pub mod Means
pub mod Lines
pub mod Counted
pub mod Taken
pub mod Running
