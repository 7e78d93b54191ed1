-- Highest: the larger of two, the highest of a list. Peaks: the largest distance from zero, the mark, any of the flags. Decimals: the digits of a number. Laid: an accepted line by its pieces.
pub mod Highest
pub mod Peaks
pub mod Decimals
pub mod Laid
