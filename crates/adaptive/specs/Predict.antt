-- Pred_lt_3or6 of TS 26.073, in thirds (TS 26.090, 6.1): the adaptive codebook's forty samples from the 154 past excitations, oldest first.
use Rattle.std.specs.Prelude.{Bool, if◌then◌else◌, List, [], ◌∷◌, ℕ, ◌*◌, ℤ, pos, ◌+ℤ◌, ◌-ℤ◌, drop}
use Rattle.std.specs.Int.Signed.{lt_z}
use Rattle.lists.specs.Lists.{minus, entry, iter, grow}
use Rattle.basicop.specs.Ops.{add, sub, shl, l_mac, round}
use Rattle.pitch.specs.Lag.{Lag}

-- inter_6: 61 coefficients (Q15) of the interpolation filter, in sixths of a sample
unfoldable pub inter6 : List ℤ
inter6 =
    pos 29443 ∷ pos 28346 ∷ pos 25207 ∷ pos 20449 ∷ pos 14701 ∷ pos 8693 ∷ pos 3143 ∷ minus 1352 ∷ minus 4402 ∷ minus 5865 ∷
    minus 5850 ∷ minus 4673 ∷ minus 2783 ∷ minus 672 ∷ pos 1211 ∷ pos 2536 ∷ pos 3130 ∷ pos 2991 ∷ pos 2259 ∷ pos 1170 ∷
    pos 0 ∷ minus 1001 ∷ minus 1652 ∷ minus 1868 ∷ minus 1666 ∷ minus 1147 ∷ minus 464 ∷ pos 218 ∷ pos 756 ∷ pos 1060 ∷
    pos 1099 ∷ pos 904 ∷ pos 550 ∷ pos 135 ∷ minus 245 ∷ minus 514 ∷ minus 634 ∷ minus 602 ∷ minus 451 ∷ minus 231 ∷
    pos 0 ∷ pos 191 ∷ pos 308 ∷ pos 340 ∷ pos 296 ∷ pos 198 ∷ pos 78 ∷ minus 36 ∷ minus 120 ∷ minus 163 ∷
    minus 165 ∷ minus 132 ∷ minus 79 ∷ minus 19 ∷ pos 34 ∷ pos 73 ∷ pos 91 ∷ pos 89 ∷ pos 70 ∷ pos 38 ∷
    pos 0 ∷ []

-- the fraction negated and doubled, since a third is two sixths
abbrev pub sixths : Lag → ℤ
sixths l = shl (sub (pos 0) l.thirds) (pos 1)

-- where that is below 0 it is 6 more, and the start is one sample earlier
abbrev pub back : Lag → Bool
back l = lt_z (sixths l) (pos 0)

unfoldable pub phase : Lag → ℤ
phase l = if back l then add (sixths l) (pos 6) else sixths l

-- the place of the first sample to the left, among 154 past excitations
unfoldable pub start : Lag → ℤ
start l = if back l then (pos 154 -ℤ l.samples) -ℤ pos 1 else pos 154 -ℤ l.samples

-- coefficient i of one side of the filter: every sixth one of the table, from f on
abbrev pub coefficient : ℤ → ℕ → ℤ
coefficient f i = entry inter6 (f +ℤ pos (6 * i))

-- step i of a sample, with coefficients c to the left and d to the right: x[left - i] by c, then x[left + 1 + i] by d
abbrev pub tap_pair : List ℤ → ℤ → (ℕ → ℤ) → (ℕ → ℤ) → ℕ → ℤ → ℤ
tap_pair x left c d i s = l_mac (l_mac s (entry x (left -ℤ pos i)) (c i)) (entry x ((left +ℤ pos 1) +ℤ pos i)) (d i)

-- ten turns, rounded
unfoldable pub interpolated : List ℤ → ℤ → (ℕ → ℤ) → (ℕ → ℤ) → ℤ
interpolated x left c d = round (iter (tap_pair x left c d) 10 (pos 0))

-- sample n of a subframe with the start s and the phase f, from the excitations so far
abbrev pub sample_at : ℤ → ℤ → ℕ → List ℤ → ℤ
sample_at s f n x = interpolated x (s +ℤ pos n) (coefficient f) (coefficient (pos 6 -ℤ f))

-- each new sample joins the excitations, so that a short lag reads its own
unfoldable pub extended : List ℤ → Lag → List ℤ
extended past l = iter (grow (sample_at (start l) (phase l))) 40 past

-- the forty new ones
unfoldable pub predicted : List ℤ → Lag → List ℤ
predicted past l = drop 154 (extended past l)
