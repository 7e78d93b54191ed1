-- A signed local is its bits (`of_z`), an array's list has numbers. What crosses a local comes back as `to_z w (of_z w z)`.
use Rattle.std.proofs.Common.{ℕ, zero, suc, ◌<◌, ◌^◌, ◌≡◌, ◌∙◌, List, [], ◌∷◌, ℤ, pow_pos, SFits, to_z, of_z, to_z-of_z}
use Rattle.std.specs.Int.Signed.{mag}
use Rattle.std.specs.Int.{Width}
use mir.Val.{Val, hbits}
use denote.Array.{each}
use denote.Shadow.{shadow}
use denote.Signed.{SInt}
use Rattle.lists.specs.Lists.{at}

-- what was put into a local is what it reads back as. The range is at hand as `c.fits.x.sfits` (of a parameter) and `c.f.ok` (of a call's result)
pub back : (w : Width) {z : ℤ} → mag z < 2 ^ hbits w → to_z w (of_z w z) ≡ z
back w h = to_z-of_z (record { sfits = h })

-- the same of a call's result, of which the callee says what it is
pub got : (w : Width) {z r : ℤ} → mag z < 2 ^ hbits w → z ≡ r → to_z w (of_z w z) ≡ r
got w h e = back w h ∙ e

-- ---- the range of an array's entries, from what owning the array tells
pub each_in : (w : Width) (xs : List ℤ) (us : List Val) → shadow (each ℤ (SInt w).own_val xs us) → (i : ℕ) → mag (at xs i) < 2 ^ hbits w
each_in w [] us p i = pow_pos (hbits w)
each_in w (x ∷ xs) [] p i = absurd p
each_in w (x ∷ xs) (u ∷ us) p zero = p.0.1
each_in w (x ∷ xs) (u ∷ us) p (suc i) = each_in w xs us p.1 i

-- the same as a record, which `search (rules, entry_fits)` finds
pub entry_fits : (w : Width) (xs : List ℤ) (us : List Val) (i : ℕ) → shadow (each ℤ (SInt w).own_val xs us) → SFits w (at xs i)
entry_fits w xs us i p = record { sfits = each_in w xs us p i }
