-- What turns a call back: docs/BENCH.md, "Refusals".
use Rattle.std.specs.Prelude.{Bool, ℕ, ◌==◌, Result, Ok, Err}
use Rattle.outcome.specs.declared.Refusal.{Refusal}
use Rattle.outcome.specs.declared.Refusal.TheVariants.{SheetLength, Lsf, PitchIndex, Gain, OutputLength, LsfGap, Table, GainIndex, Stage}
use Rattle.outcome.specs.declared.Refusal.TheVariants.{RecordShort, Tag, Version, Layout, BodyShort, Sharpening, SmoothedGain, GainField, LastLag}

-- what a call comes to: it is accepted, or a check turns it back
abbrev pub Outcome : Type 0
Outcome = Result Unit Refusal

-- the number of a refusal
abbrev pub refusal_number : Refusal → ℕ
refusal_number SheetLength = 1
refusal_number (Lsf place) = 2
refusal_number (PitchIndex place) = 3
refusal_number (Gain place) = 4
refusal_number OutputLength = 5
refusal_number (LsfGap place) = 6
refusal_number (Table place) = 7
refusal_number (GainIndex place) = 8
refusal_number Stage = 9
refusal_number RecordShort = 11
refusal_number Tag = 12
refusal_number Version = 13
refusal_number Layout = 14
refusal_number BodyShort = 15
refusal_number Sharpening = 16
refusal_number SmoothedGain = 17
refusal_number (GainField place) = 18
refusal_number LastLag = 19

-- where it lies: 197 of the last lag, and 0 of those with no place
abbrev pub refusal_place : Refusal → ℕ
refusal_place SheetLength = 0
refusal_place (Lsf place) = place
refusal_place (PitchIndex place) = place
refusal_place (Gain place) = place
refusal_place OutputLength = 0
refusal_place (LsfGap place) = place
refusal_place (Table place) = place
refusal_place (GainIndex place) = place
refusal_place Stage = 0
refusal_place RecordShort = 0
refusal_place Tag = 0
refusal_place Version = 0
refusal_place Layout = 0
refusal_place BodyShort = 0
refusal_place Sharpening = 0
refusal_place SmoothedGain = 0
refusal_place (GainField place) = place
refusal_place LastLag = 197

-- both are 0 for what is accepted
abbrev pub number_of : Outcome → ℕ
number_of (Ok t) = 0
number_of (Err refusal) = refusal_number refusal

abbrev pub place_of : Outcome → ℕ
place_of (Ok t) = 0
place_of (Err refusal) = refusal_place refusal

-- accepted: no check turned the call back
abbrev pub is_accepted : Outcome → Bool
is_accepted o = number_of o == 0
