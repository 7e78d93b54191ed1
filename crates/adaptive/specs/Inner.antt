-- For inner functions: what the code's plain sums rest on: taps in the order of the samples, the sizes of a phase's taps, and which numbers are large.
-- The taps of a light phase over numbers that are not large come to at most 2 × 16384 × 65535, which is below 2 ^ 31: no L_mac clamps.
use Rattle.std.specs.Prelude.{◌≡◌, Bool, true, false, if◌then◌else◌, not, ◌&&◌, ◌||◌, ℕ, ◌+◌, ◌-◌, ◌<◌, nat_lt, ℤ, pos, ◌-ℤ◌}
use mathlib.Core.List.{List, [], ◌∷◌, foldl}
use Rattle.std.specs.Int.Signed.{lt_z}
use Rattle.lists.specs.Lists.{minus, at, tab}
use Rattle.basicop.specs.Inner.{sizes}
use Rattle.adaptive.specs.Predict.{coefficient}

-- tap j of phase f: ten to the left, from the furthest on, and ten to the right
abbrev pub tap : ℕ → ℕ → ℤ
tap f j = if nat_lt j 10 then coefficient (pos f) (9 - j) else coefficient (pos 6 -ℤ pos f) (j - 10)

-- all twenty
abbrev pub phase_taps : ℕ → List ℤ
phase_taps f = tab (tap f) 20

-- those of the phases 0, 2 and 4: those of phase f are row f / 2
unfoldable pub all_taps : List (List ℤ)
all_taps = phase_taps 0 ∷ phase_taps 2 ∷ phase_taps 4 ∷ []

-- coefficient i of each side, of twenty taps
abbrev pub left_of : List ℤ → ℕ → ℤ
left_of taps i = at taps (9 - i)

abbrev pub right_of : List ℤ → ℕ → ℤ
right_of taps i = at taps (10 + i)

-- the taps are light: their sizes come to less than 65536
abbrev pub Light : List ℤ → Type 0
Light taps = sizes (left_of taps) 10 + sizes (right_of taps) 10 < 65536

abbrev pub limit : ℕ
limit = 16384

-- below -limit, or at limit or above
unfoldable pub large : ℤ → Bool
large x = lt_z x (minus limit) || lt_z (pos (limit - 1)) x

-- no number is large
unfoldable pub quiet : List ℤ → Bool
quiet xs = foldl (λ (b : Bool) (x : ℤ). b && not (large x)) true xs

-- none of the first n is
abbrev pub Quiet : ℕ → List ℤ → Type 0
Quiet n xs = (i : ℕ) → i < n → large (at xs i) ≡ false
