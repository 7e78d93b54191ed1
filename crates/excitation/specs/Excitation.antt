-- The excitation of a subframe: Decoder_amr of TS 26.073, good frame, MR74 (TS 26.090, 6.1).
use Rattle.std.specs.Prelude.{if◌then◌else◌, List, [], ◌++◌, ℕ, ℤ, pos, ◌-ℤ◌, drop}
use Rattle.std.specs.Int.Signed.{lt_z}
use Rattle.lists.specs.Lists.{at, entry, iter, grow, pairwise}
use Rattle.basicop.specs.Ops.{add, sub, mult, shl, l_mult, l_mac, l_shl, round}

-- ---- pitch sharpening: for i from the lag t on, code[i] = add (code[i], mult (code[i - t], g)), feeding on itself, g the sharpening doubled
abbrev pub sharpened_at : List ℤ → ℤ → ℤ → ℕ → List ℤ → ℤ
sharpened_at code t g i y = if lt_z (pos i) t then at code i else add (at code i) (mult (entry y (pos i -ℤ t)) g)

unfoldable pub sharpened : List ℤ → ℤ → ℤ → List ℤ
sharpened code t sharp = iter (grow (sharpened_at code t (shl sharp (pos 1)))) 40 []

-- the sharpening that is carried on: the pitch gain, at most SHARPMAX
unfoldable pub sharpening : ℤ → ℤ
sharpening gain = if lt_z (pos 0) (sub gain (pos 13017)) then pos 13017 else gain

-- ---- feedback (docs/BENCH.md, "Excitation"): the excitation that is fed back, from the prediction v by the pitch gain (Q14) and the code by the code gain (Q1):
-- two products, their sum, doubled, rounded
abbrev pub feedback_at : ℤ → ℤ → ℤ → ℤ → ℤ
feedback_at pitch gain v code = round (l_shl (l_mac (l_mult v pitch) code gain) (pos 1))

unfoldable pub feedback : List ℤ → ℤ → List ℤ → ℤ → List ℤ
feedback v pitch code gain = pairwise (feedback_at pitch gain) v code

-- ---- the past excitation, oldest first
-- it takes in a subframe, its oldest forty leaving
abbrev pub taking : List ℤ → List ℤ → List ℤ
taking past exc = drop 40 past ++ exc
