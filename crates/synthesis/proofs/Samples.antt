-- Lengths, ranges, and overflow by the place.
use Rattle.std.proofs.Common.{ℕ, zero, suc, ◌+◌, ◌*◌, ◌-◌, ◌≤◌, ◌≡◌, refl, sym, ap, ◌∙◌, false, List, append-nil, arith, ltb-false, ltb, ℤ, length, length-append, length-drop, drop_of_length-le, take, drop, take-append-drop, take_all, length-take-le, w16, SFits}
use Rattle.std.proofs.lemmas.List.{drop-take}
use Rattle.lists.specs.Lists.{at}
use Rattle.basicop.specs.Words.{Words}
use Rattle.basicop.proofs.Fits.{round_fits}
use Rattle.basicop.proofs.Words.{zero_fits, words_drop}
use Rattle.synthesis.specs.Recursion.{recursion}
use Rattle.synthesis.specs.Synthesis.{accs, unheld, unhelds, sample, samples, overflowed, overflowed_at, first_samples, shifted, previewed, newest}
use Rattle.synthesis.specs.Whole.{sums, wholes, whole, whole_samples}
use Rattle.synthesis.proofs.Flags.{any_by_at, at_most}
use Rattle.synthesis.proofs.Fed.{length_fed, fed_starts, fed_append, fed_each, length_numbers}

-- ---- 23 numbers a sample, by either machine
length_sums : (a : List ℤ) (x : ℤ) (y : List ℤ) (k : ℕ) → length (sums a x y k) ≡ 2 * k + 1
unfolding sums
length_sums a x y zero = refl
length_sums a x y (suc k) = length-append (sums a x y k) _ ∙ rw (length_sums a x y k) (omega arith)

length_accs : (a : List ℤ) (x : ℤ) (y : List ℤ) (k : ℕ) → length (accs a x y k) ≡ 2 * k + 1
unfolding accs
length_accs a x y zero = refl
length_accs a x y (suc k) = length-append (accs a x y k) _ ∙ rw (length_accs a x y k) (omega arith)

pub length_wholes : (a : List ℤ) (x : ℤ) (y : List ℤ) → length (wholes 10 a x y) ≡ 23
length_wholes a x y = length-append (sums a x y 10) _ ∙ rw (length_sums a x y 10)

pub length_unheld : (a : List ℤ) (x : ℤ) (y : List ℤ) → length (unheld 10 a x y) ≡ 23
length_unheld a x y = length-append (accs a x y 10) _ ∙ rw (length_accs a x y 10)

module _ (m : ℕ) (a xs h : List ℤ) where
  -- ---- a sample for each number of the excitation
  pub length_samples : length h ≡ m → length (samples m a xs h) ≡ length xs
  length_samples l = length-drop m (recursion (sample m a) xs h) ∙ rw (length_fed (sample m a) xs h) (omega (arith, l))

  pub length_whole_samples : length h ≡ m → length (whole_samples m a xs h) ≡ length xs
  length_whole_samples l = length-drop m (recursion (whole m a) xs h) ∙ rw (length_fed (whole m a) xs h) (omega (arith, l))

  -- ---- a step clamped where the first sample in which one did is before the end
  pub overflowed_by_at : overflowed m a xs h ≡ ltb (overflowed_at m a xs h) (length xs)
  overflowed_by_at = any_by_at (unhelds m a xs h) ∙ ap (ltb (overflowed_at m a xs h)) (length_numbers (sample m a) (unheld m a) xs h)

  pub overflowed_at_most : overflowed_at m a xs h ≤ length xs
  overflowed_at_most = rw (length_numbers (sample m a) (unheld m a) xs h) at (at_most (unhelds m a xs h))

-- ---- the samples for the first n numbers of the excitation are the first n samples
pub samples_take : (n m : ℕ) (a xs h : List ℤ) → length h ≡ m → n ≤ length xs → samples m a (take n xs) h ≡ take n (samples m a xs h)
samples_take n m a xs h l e =
    let make = sample m a in
    let z : recursion make xs h ≡ recursion make (drop n xs) (recursion make (take n xs) h) = sym (ap (λ (u : List ℤ). recursion make u h) (take-append-drop n xs)) ∙ fed_append make (take n xs) (drop n xs) h in
    let k : length (recursion make (take n xs) h) ≡ m + n = length_fed make (take n xs) h ∙ rw (length-take-le n xs e, l) in
    let f : take (m + n) (recursion make xs h) ≡ recursion make (take n xs) h = rw (← k, z) (fed_starts make (drop n xs) (recursion make (take n xs) h)) in
    ap (drop m) (sym f) ∙ drop-take m n (recursion make xs h)

-- ---- the samples for the whole excitation
pub first_samples_all : (n m : ℕ) (a xs h : List ℤ) → length xs ≤ n → first_samples n m a xs h ≡ samples m a xs h
first_samples_all n m a xs h l =
    let z : length xs - n ≡ 0 = omega arith in
    rw (take_all n xs l, z) (append-nil (samples m a xs h))

-- where nothing clamped the first pass gives the samples
pub previewed_all : (a xs h : List ℤ) → overflowed 10 a xs h ≡ false → (previewed a xs h).samples ≡ samples 10 a xs h
unfolding previewed
previewed_all a xs h e =
    first_samples_all (overflowed_at 10 a xs h) 10 a xs h (ltb-false (overflowed_at 10 a xs h) (length xs) (sym (overflowed_by_at 10 a xs h) ∙ e))

-- ---- every sample is a number of 16 bits
pub sample_fits : (m : ℕ) (a : List ℤ) (x : ℤ) (y : List ℤ) → SFits w16 (sample m a x y)
sample_fits m a x y = round_fits (shifted m a x y)

pub samples_fit : (m : ℕ) (a xs h : List ℤ) → length h ≡ m → (i : ℕ) → SFits w16 (at (samples m a xs h) i)
samples_fit m a xs h l =
    fed_each (sample m a) (SFits w16) zero_fits (sample_fits m a) m xs h (omega (arith, l)) (rw (drop_of_length-le h {i = m} (omega (arith, l))) (λ i. zero_fits))

pub samples_words : {n : ℕ} (a xs h : List ℤ) → length h ≡ 10 → length xs ≡ n → Words n (samples 10 a xs h)
samples_words a xs h e l = record { count = length_samples 10 a xs h e ∙ l; fit = samples_fit 10 a xs h e }

-- the last ten of forty
pub newest_words : (ys : List ℤ) → Words 40 ys → Words 10 (newest 10 ys)
newest_words ys w = rw w.count (words_drop 30 ys w)
