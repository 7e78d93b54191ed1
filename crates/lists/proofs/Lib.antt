-- Signed: a signed local, and the entries of an array of signed numbers. Entries: entries of lists that are made from others.
-- Made: an array that a closure made entry by entry. Fill, Ends, Count, Grow: loops that fill an array, fill one from both ends, go by a count, and feed on what they made. Fold: a fold, by what stands after each entry. Put: a part of an array, lent and put back. Table: a rule of a whole table, by one test. Parts: a list and its parts. Sums: counts and sums of one list after another.
pub mod Signed
pub mod Entries
pub mod Fill
pub mod Made
pub mod Ends
pub mod Put
pub mod Fold
pub mod Count
pub mod Grow
pub mod Table
pub mod Parts
pub mod Sums
