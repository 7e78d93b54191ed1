-- Where the inverse root has a form of the language for an operator, it is the operator (L_shr: `asr_read` of Tests).
use Rattle.std.proofs.Common.{◌≡◌, refl, sym, ap, ◌∙◌, ℕ, suc, ◌+◌, ◌*◌, ◌-◌, ◌/◌, ◌%◌, ◌^◌, ◌<◌, mod-eq_of_lt, mod-lt, arith, bit_and, pow_pos, pow-add, lit<, ℤ, pos, negsuc, ◌+ℤ◌, ◌≤ℤ◌, w16, w32, SFits, of_z, to_z, to_z-of_z}
use borrow.Author.Differences.{sum_is_lem}
use Rattle.std.specs.Int.Bits.{and_mask}
use Rattle.std.proofs.Math.Pow.{low, mod-pow-add, mod-mod-pow}
use Rattle.std.specs.Int.Signed.{shr_z}
use Rattle.std.specs.Int.{Width}
use mir.Val.{bits, hbits}
use Rattle.std.proofs.Math.Facts.{to_z_pos}
use Rattle.basicop.specs.Ops.{asr, mod_z, low_bits, add, extract_l, l_deposit_h}
use Rattle.basicop.proofs.Clamp.{clamp_id}
use Rattle.basicop.proofs.Ints.{arith_ℤ, sfits_by}
use Rattle.basicop.proofs.Shift.{mod_z_lt, shr_is, sfits_shr_same}
use Rattle.basicop.proofs.Wrap.{halves, wrap_fits, wrap_mod}

-- ---- a mask: the low k bits of z, for any width
-- those of the low j + k are those of z
low_low : (z : ℤ) (j k : ℕ) → mod_z z (2 ^ (j + k)) % 2 ^ k ≡ mod_z z (2 ^ k)
low_low (pos a) j k = mod-mod-pow a j k
low_low (negsuc a) j k =
    let d = 2 ^ j - suc (a / 2 ^ k % 2 ^ j) in
    let e : d + suc (a / 2 ^ k % 2 ^ j) ≡ 2 ^ j = omega (arith, mod-lt (a / 2 ^ k) (pow_pos j)) in
    let whole : 2 ^ (j + k) - suc (a % 2 ^ (j + k)) ≡ d * 2 ^ k + (2 ^ k - suc (a % 2 ^ k)) =
    omega (arith, mod-pow-add a j k, pow-add 2 j k, ap (λ (n : ℕ). n * 2 ^ k) e, mod-lt a (pow_pos k)) in
    rw whole (low d k (omega (arith, pow_pos k)))

-- a local's bits
bits_are : (w : Width) (z : ℤ) → SFits w z → of_z w z ≡ mod_z z (2 ^ bits w)
bits_are w (pos a) f = sym (mod-eq_of_lt (omega (arith, halves w, f.sfits)))
bits_are w (negsuc a) f = ap (λ (n : ℕ). 2 ^ bits w - suc n) (sym (mod-eq_of_lt {n = a} {m = 2 ^ bits w} (omega (arith, halves w, f.sfits))))

pub masked : (w : Width) (j k : ℕ) (z : ℤ) → bits w ≡ j + k → SFits w z → bit_and (of_z w z) (2 ^ k - 1) ≡ mod_z z (2 ^ k)
masked w j k z e f = rw (bits_are w z f, and_mask (mod_z z (2 ^ bits w)) k, e) (low_low z j k)

-- of what extract_l gave: the low 15 bits of what it was given
pub fraction_is : {r : ℤ} (z : ℤ) → r ≡ extract_l z → to_z w16 (bit_and (of_z w16 r) 32767) ≡ low_bits 15 z
fraction_is z e =
    let same : mod_z (extract_l z) 32768 ≡ mod_z z 32768 =
    sym (low_low (extract_l z) 1 15) ∙ ap (λ (n : ℕ). n % 32768) (wrap_mod w16 z) ∙ low_low z 1 15 in
    rw (e, masked w16 1 15 (extract_l z) refl (wrap_fits w16 z), same) (to_z_pos w16 (mod_z_lt z 32768 (pow_pos 15)))

-- ---- half the exponent, and 1
pub half_and_one : (e : ℤ) → SFits w16 e → to_z w16 (of_z w16 (to_z w16 (of_z w16 (shr_z (to_z w16 (of_z w16 e)) 2)) +ℤ pos 1)) ≡ add (asr e 1) (pos 1)
unfolding asr add
half_and_one e f =
    let s = sfits_shr_same w16 e 2 f in
    let t : SFits w16 (shr_z e 2 +ℤ pos 1) = sfits_by (omega (arith_ℤ, sum_is_lem (shr_z e 2) (pos 1), shr_is e 2 (lit< tt), f)) in
    rw (to_z-of_z f, to_z-of_z s, to_z-of_z t) (sym (clamp_id w16 (shr_z e 2 +ℤ pos 1) t))

-- ---- a shift to the left that loses no digit, for any width, and so L_deposit_h of an entry of the table
shifted : (w : Width) (k a : ℕ) → a * 2 ^ k < 2 ^ hbits w → to_z w (a * 2 ^ k % 2 ^ bits w) ≡ pos (a * 2 ^ k)
shifted w k a h = rw (mod-eq_of_lt {n = a * 2 ^ k} {m = 2 ^ bits w} (omega (arith, halves w, h))) (to_z_pos w h)

pub deposited : {r : ℤ} (t : ℤ) → r ≡ t → pos 0 ≤ℤ t → t ≤ℤ pos 32767 → to_z w32 (of_z w32 r * 65536 % 4294967296) ≡ l_deposit_h t
unfolding l_deposit_h
deposited (pos t) e h l = rw e (shifted w32 16 t (omega arith_ℤ))
deposited (negsuc t) e h l = absurd h.le
