-- Lists of 16-bit numbers, put together and taken apart.
use Rattle.std.proofs.Common.{ℕ, zero, suc, ◌+◌, ◌-◌, ◌≤◌, ◌≡◌, refl, ◌∙◌, List, [], ◌∷◌, ◌++◌, map, arith, lit<, ℤ, pos, length, take, drop, length-append, length-take, length-drop, w16, SFits}
use Rattle.std.proofs.Math.ListN.{length-map}
use Rattle.lists.specs.Lists.{at, tab, pairwise}
use Rattle.lists.proofs.Entries.{length_tab, length_pairwise, each_append, each_tab, each_drop, each_take, each_map, each_pairwise}
use Rattle.basicop.specs.Ops.{shr, quartered}
use Rattle.basicop.specs.Words.{Words}
use Rattle.basicop.proofs.Shift.{asr_same}

pub zero_fits : SFits w16 (pos 0)
zero_fits = record { sfits = lit< tt }

pub words_one : (x : ℤ) → SFits w16 x → Words 1 (x ∷ [])
words_one x h = record { count = refl; fit = fit }
  where
    fit : (i : ℕ) → SFits w16 (at (x ∷ []) i)
    fit zero = h
    fit (suc i) = zero_fits

pub words_append : {m n : ℕ} (xs ys : List ℤ) → Words m xs → Words n ys → Words (m + n) (xs ++ ys)
words_append xs ys v w = record { count = length-append xs ys ∙ rw (v.count, w.count); fit = each_append (SFits w16) zero_fits xs ys v.fit w.fit }

pub words_drop : {n : ℕ} (k : ℕ) (xs : List ℤ) → Words n xs → Words (n - k) (drop k xs)
words_drop k xs w = record { count = length-drop k xs ∙ rw w.count; fit = each_drop (SFits w16) zero_fits k xs w.fit }

pub words_take : {n : ℕ} (k : ℕ) (xs : List ℤ) → k ≤ n → Words n xs → Words k (take k xs)
words_take k xs h w = record { count = length-take k xs ∙ rw w.count (omega arith); fit = each_take (SFits w16) zero_fits k xs w.fit }

-- of every k of the indices below n
pub words_tab : (f : ℕ → ℤ) (n : ℕ) → ((k : ℕ) → SFits w16 (f k)) → Words n (tab f n)
words_tab f n p = record { count = length_tab f n; fit = each_tab (SFits w16) zero_fits f n p }

pub words_map : {n : ℕ} (f : ℤ → ℤ) → ((x : ℤ) → SFits w16 (f x)) → (xs : List ℤ) → length xs ≡ n → Words n (map f xs)
words_map f p xs e = record { count = length-map xs f ∙ e; fit = each_map (SFits w16) zero_fits f p xs }

pub words_pairwise : {n : ℕ} (f : ℤ → ℤ → ℤ) → ((x y : ℤ) → SFits w16 (f x y)) → (xs ys : List ℤ) → length xs ≡ n → length ys ≡ n → Words n (pairwise f xs ys)
words_pairwise f p xs ys e k = record { count = length_pairwise f xs ys (omega (arith, e, k)) ∙ e; fit = each_pairwise (SFits w16) zero_fits f p xs ys }

quartered_fit : (xs : List ℤ) → ((i : ℕ) → SFits w16 (at xs i)) → (i : ℕ) → SFits w16 (at (quartered xs) i)
quartered_fit [] f i = zero_fits
quartered_fit (x ∷ xs) f zero = asr_same w16 x 2 (f 0)
quartered_fit (x ∷ xs) f (suc i) = quartered_fit xs (λ j. f (suc j)) i

pub words_quartered : {n : ℕ} (xs : List ℤ) → Words n xs → Words n (quartered xs)
words_quartered xs w = record { count = length-map xs (λ (x : ℤ). shr x (pos 2)) ∙ w.count; fit = quartered_fit xs w.fit }
