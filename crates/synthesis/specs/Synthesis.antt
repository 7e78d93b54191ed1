-- Syn_filt of TS 26.073 (TS 26.090, 6.1), by clamped steps; docs/BENCH.md, "Synthesis".
-- a: the row a0, a1, .. (Q12); x: the excitation x[n]; y: the samples before y[n], the last of them y[n - 1]; m: the number of taps, 10 in MR74.
use Rattle.std.specs.Prelude.{ℕ, zero, suc, ◌-◌, Bool, List, [], ◌∷◌, ◌++◌, ℤ, pos, ◌+ℤ◌, ◌-ℤ◌, ◌*ℤ◌, length, take, drop, replicate}
use Rattle.lists.specs.Lists.{at}
use Rattle.basicop.specs.Ops.{l_mult, l_msu, l_shl, round}
use Rattle.synthesis.specs.Recursion.{ago, recursion, step_numbers, some_list_outside, first_list_outside}
use Rattle.synthesis.specs.declared.Output.{Output}
use Rattle.synthesis.specs.declared.Filtered.{Filtered}

-- ---- one sample
-- s = L_mult(x[n], a[0]); then s = L_msu(s, a[j], y[n - j]) for j = 1 to k
unfoldable pub acc : List ℤ → ℤ → List ℤ → ℕ → ℤ
acc a x y zero = l_mult x (at a 0)
acc a x y (suc k) = l_msu (acc a x y k) (at a (suc k)) (ago y (suc k))

-- s = L_shl(s, 3)
abbrev pub shifted : ℕ → List ℤ → ℤ → List ℤ → ℤ
shifted m a x y = l_shl (acc a x y m) (pos 3)

-- y[n] = round(s), which is L_add(s, 32768) >> 16
abbrev pub sample : ℕ → List ℤ → ℤ → List ℤ → ℤ
sample m a x y = round (shifted m a x y)

-- ---- the numbers that its steps clamp, each as it is before it is clamped
-- up to tap k, 2k + 1 of them: the first product; then of each L_msu the product, and the difference
unfoldable pub accs : List ℤ → ℤ → List ℤ → ℕ → List ℤ
accs a x y zero = (pos 2 *ℤ (x *ℤ at a 0)) ∷ []
accs a x y (suc k) =
    accs a x y k
    ++ ((pos 2 *ℤ (at a (suc k) *ℤ ago y (suc k))) ∷ (acc a x y k -ℤ l_mult (at a (suc k)) (ago y (suc k))) ∷ [])

-- all of them, 2m + 3: 23 in MR74 (`length_unheld`). Then times 8; plus 32768
abbrev pub unheld : ℕ → List ℤ → ℤ → List ℤ → List ℤ
unheld m a x y = accs a x y m ++ ((acc a x y m *ℤ pos 8) ∷ (shifted m a x y +ℤ pos 32768) ∷ [])

-- ---- the samples for the excitation xs after the history h, which has m samples
abbrev pub samples : ℕ → List ℤ → List ℤ → List ℤ → List ℤ
samples m a xs h = drop m (recursion (sample m a) xs h)

abbrev pub unhelds : ℕ → List ℤ → List ℤ → List ℤ → List (List ℤ)
unhelds m a xs h = step_numbers (sample m a) (unheld m a) xs h

-- overflow: a step clamped, which is that the number before it lay outside the signed 32-bit range
abbrev pub overflowed : ℕ → List ℤ → List ℤ → List ℤ → Bool
overflowed m a xs h = some_list_outside (unhelds m a xs h)

-- the place: the first sample in which a step clamped; the number of samples where none did
abbrev pub overflowed_at : ℕ → List ℤ → List ℤ → List ℤ → ℕ
overflowed_at m a xs h = first_list_outside (unhelds m a xs h)

-- the last m samples: the next history
abbrev pub newest : ℕ → List ℤ → List ℤ
newest m ys = drop (length ys - m) ys

-- ---- what the code gives for a subframe
-- the samples for the first n numbers of the excitation, and zeros after them as far as it goes
abbrev pub first_samples : ℕ → ℕ → List ℤ → List ℤ → List ℤ → List ℤ
first_samples n m a xs h = samples m a (take n xs) h ++ replicate (length xs - n) (pos 0)

-- the first pass: where a step first clamped, and the samples before that place
unfoldable pub previewed : List ℤ → List ℤ → List ℤ → Output
previewed a xs h =
    record {
      samples = first_samples (overflowed_at 10 a xs h) 10 a xs h;
      place = overflowed_at 10 a xs h;
    }

-- the clamped pass, with the history that it leaves
unfoldable pub filtered : List ℤ → List ℤ → List ℤ → Filtered
filtered a xs h =
    record {
      samples = samples 10 a xs h;
      history = newest 10 (samples 10 a xs h);
    }
