-- Answers: a call's answer from its parts. Places: what its places lie in. Sharpening: the core's own before the core. Divisions: how many a frame tells. WithGains: the frame sheet with gains in place of indices.
-- Indexed: an index call is the frame call of the gains that it obtains.
pub mod Answers
pub mod Places
pub mod Sharpening
pub mod Divisions
pub mod WithGains
pub mod Indexed
