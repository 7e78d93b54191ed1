-- Sorting: a list put in order holds the same numbers, rises, and is the same from any arrangement.
-- Fives: a list of five by its entries, and with a number taken in.
-- Third: the third of five by comparisons is the third in order.
-- Factors: the entries of the two tables lie in 0..=32767.
-- Ranges: gains that are not negative stay so, and the range of concealed gains.
-- Words: gains of 16 bits stay such, in fives.
-- Values: gains of erased frames as numbers.
pub mod Sorting
pub mod Fives
pub mod Third
pub mod Factors
pub mod Ranges
pub mod Words
pub mod Values
