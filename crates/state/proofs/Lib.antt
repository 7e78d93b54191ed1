-- Numbers: a state as numbers, and back. Cut: the parts of numbers, as the code takes them. Taken: the state of numbers is well-formed.
-- Checks: what an accepted state has shown. Fields: the gains of a concealment one by one.
pub mod Numbers
pub mod Cut
pub mod Taken
pub mod Checks
pub mod Fields
