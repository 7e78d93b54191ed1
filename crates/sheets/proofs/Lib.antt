-- Opening: the first step, and the frame call of a sheet's bytes. Pieces: the sheets of an input, one by one. Taken: what came of an input that is read
-- in turns. Rounds: what the rounds of a program over an input have made, and what is still to come.
pub mod Opening
pub mod Pieces
pub mod Rounds
pub mod Taken
