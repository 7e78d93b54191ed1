-- Pow2 of a fraction that is not negative: its position lies in a table of 33 numbers, and what it gives where those lie in 0..=32767.
use Rattle.std.proofs.Common.{◌≡◌, refl, sym, List, ℕ, ◌+◌, ◌/◌, ◌%◌, ◌<◌, ◌≤◌, div-add-mod', mod-lt, arith, lit<, lit≤, ℤ, pos, negsuc, ◌+ℤ◌, ◌≤ℤ◌, ◌<ℤ◌}
use native.Mathlib.Nat.{div-div-eq-div-mul}
use borrow.Author.Differences.{sum_is_lem}
use Rattle.lists.specs.Lists.{at, entry}
use Rattle.basicop.specs.Ops.{asr, sub, l_mult, l_shr_r, clamp}
use Rattle.basicop.specs.Interpolation.{interpolated}
use Rattle.basicop.proofs.Ints.{arith_ℤ, le_in}
use Rattle.basicop.proofs.Naturals.{l_mult_pos}
use Rattle.basicop.proofs.Tables.{Within, within, Between, step}
use Rattle.logarithm.specs.Pow2.{power_position, pow2}

-- the index is 0 to 31
pub power_within : (fraction : ℤ) → pos 0 ≤ℤ fraction → fraction ≤ℤ pos 32767 → Within 32 (pos 0) (l_mult fraction (pos 32))
power_within (pos f) h l =
    let s : f ≤ 32767 = omega arith_ℤ in
    rw (l_mult_pos f 32) (within 0 32 _ (omega arith) (omega arith) (lit≤ tt))
power_within (negsuc f) h l = absurd h.le

pub power_found : (table : List ℤ) (exponent fraction b : ℤ) → b ≡ interpolated table (power_position fraction) → l_shr_r b (sub (pos 30) exponent) ≡ pow2 table exponent fraction
unfolding pow2
power_found table exponent fraction b h = rw h

-- ---- of a table whose numbers lie in 0..=32767
abbrev pub Entries : List ℤ → Type 0
Entries table = (k : ℕ) → k < 33 → (pos 0 ≤ℤ at table k) × (at table k ≤ℤ pos 32767)

module _ (table : List ℤ) (r : Entries table) where
  entry_in : (i : ℤ) → pos 0 ≤ℤ i → i <ℤ pos 33 → (pos 0 ≤ℤ entry table i) × (entry table i ≤ℤ pos 32767)
  entry_in (pos i) h l = r i (omega arith_ℤ)
  entry_in (negsuc i) h l = absurd h.le

  -- the way between two entries lies between them, as high words
  between_in : (fraction : ℤ) → pos 0 ≤ℤ fraction → fraction ≤ℤ pos 32767 → Between (entry table (power_position fraction).index) (entry table ((power_position fraction).index +ℤ pos 1)) (power_position fraction).fraction
  between_in fraction h l =
      let w = power_within fraction h l in
      let i = (power_position fraction).index in
      let a = entry_in i w.from (omega (arith_ℤ, w.below)) in
      let b = entry_in (i +ℤ pos 1) (omega (arith_ℤ, w.from, sum_is_lem i (pos 1))) (omega (arith_ℤ, w.below, sum_is_lem i (pos 1))) in
      step _ _ _ a.0 a.1 b.0 b.1 w.fraction_from w.fraction_to

-- 2 to the power of 14 and a fraction, a shift by 16: the half that is added never leads past 32767
rounded : (b : ℤ) → pos 0 ≤ℤ b → b ≤ℤ pos 2147418112 → (pos 0 ≤ℤ l_shr_r b (pos 16)) × (l_shr_r b (pos 16) ≤ℤ pos 32767)
unfolding l_shr_r asr
rounded (pos b) h l =
    let q = b / 32768 in
    let s : b ≤ 2147418112 = omega arith_ℤ in
    let e : b / 65536 ≡ q / 2 = sym (div-div-eq-div-mul b 32768 2) in
    let t : q / 2 + q % 2 ≤ 32767 = omega (arith, div-add-mod' b 32768, div-add-mod' q 2, mod-lt q {m = 2} (lit< tt)) in
    (le_in (omega arith), le_in (omega (arith, e, t)))
rounded (negsuc b) h l = absurd h.le

shift_16 : sub (pos 30) (pos 14) ≡ pos 16
unfolding sub clamp
shift_16 = refl

pub power_in : (table : List ℤ) → Entries table → (fraction : ℤ) → pos 0 ≤ℤ fraction → fraction ≤ℤ pos 32767 → (pos 0 ≤ℤ pow2 table (pos 14) fraction) × (pow2 table (pos 14) fraction ≤ℤ pos 32767)
unfolding pow2
power_in table r fraction h l =
    let b = between_in table r fraction h l in
    rw shift_16 (rounded _ b.least b.most)
