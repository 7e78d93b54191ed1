-- Log2: by its test, and of a number above 0 that its position lies in a table of 33 numbers.
use Rattle.std.proofs.Common.{◌≡◌, true, false, List, lit≤, ℤ, pos, ◌<ℤ◌, w32, SFits}
use lib.Signed.{le_z}
use Rattle.basicop.specs.Ops.{sub, l_shl, l_shr, extract_h, norm_l}
use Rattle.basicop.specs.Interpolation.{interpolated}
use Rattle.basicop.proofs.Norm.{normalised}
use Rattle.basicop.proofs.Tables.{Within, normal_within}
use Rattle.logarithm.specs.Log2.{log_position, log2}

pub log_none : (table : List ℤ) (x : ℤ) → le_z x (pos 0) ≡ true → record { exponent = pos 0; fraction = pos 0 } ≡ log2 table x
unfolding log2
log_none table x e = rw e

pub log_found : (table : List ℤ) (x b : ℤ) → le_z x (pos 0) ≡ false → b ≡ interpolated table (log_position x) → record { exponent = sub (pos 30) (norm_l x); fraction = extract_h b } ≡ log2 table x
unfolding log2
log_found table x b e h = rw (e, ← h)

-- the index is 0 to 31
pub log_within : (x : ℤ) → pos 0 <ℤ x → SFits w32 x → Within 32 (pos 32) (l_shr (l_shl x (norm_l x)) (pos 9))
log_within x p f =
    let h = normalised x p f in
    rw (h.1.count, h.1.shifted) (normal_within 32 _ (lit≤ tt) h.1.from h.1.below)
