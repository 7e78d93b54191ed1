-- Groups: what the checks of tables and indices have shown, and their places. Order: what the call's checks come to. Kept: what an accepted table is.
-- Signs: neither gain is negative. Fits: both have 16 bits. Results: the definitions, of what their steps give.
pub mod Groups
pub mod Order
pub mod Kept
pub mod Signs
pub mod Fits
pub mod Results
