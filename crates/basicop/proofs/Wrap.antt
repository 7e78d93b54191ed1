-- The low bits read as signed, proved over the modulus, for any width: what `wrap` gives is in range, is z up to a multiple of 2 ^ w, and is the only such number.
use Rattle.std.proofs.Common.{◌≡◌, refl, sym, ap, ◌∙◌, Bool, true, false, ℕ, suc, ◌*◌, ◌-◌, ◌%◌, ◌^◌, ◌<◌, ◌≤◌, mod-eq_of_lt, arith, lt-ltb, le-ltb, ltb-true, ltb-false, ltb, pow_pos, ℤ, pos, negsuc, ◌-ℤ◌, w8, w16, w32, w64, SFits, to_z}
use Rattle.std.specs.Int.{Width, w128}
use mir.Val.{bits, hbits}
use Rattle.std.proofs.Math.Facts.{to_z_pos, to_z-neg}
use Rattle.basicop.specs.Ops.{wrap, mod_z}
use Rattle.basicop.proofs.Ints.{arith_ℤ, sub_ℤ_is}
use Rattle.basicop.proofs.Shift.{mod_z_lt}

-- a width's range is half of its modulus
pub halves : (w : Width) → 2 ^ bits w ≡ 2 * 2 ^ hbits w
halves w8 = refl
halves w16 = refl
halves w32 = refl
halves w64 = refl
halves w128 = refl

-- by its test
pub wrap_low : (w : Width) (z : ℤ) → mod_z z (2 ^ bits w) < 2 ^ hbits w → wrap w z ≡ pos (mod_z z (2 ^ bits w))
unfolding wrap
wrap_low w z h = rw (lt-ltb _ _ h)

pub wrap_high : (w : Width) (z : ℤ) → 2 ^ hbits w ≤ mod_z z (2 ^ bits w) → wrap w z ≡ pos (mod_z z (2 ^ bits w)) -ℤ pos (2 ^ bits w)
unfolding wrap
wrap_high w z h = rw (le-ltb _ _ h)

less : (m b : ℕ) → m < b → pos m -ℤ pos b ≡ negsuc (b - suc m)
less m b h = omega (arith_ℤ, sub_ℤ_is (pos m) (pos b))

-- in range
pub wrap_fits : (w : Width) (z : ℤ) → SFits w (wrap w z)
wrap_fits w z = go (ltb (mod_z z (2 ^ bits w)) (2 ^ hbits w)) refl
  where
    go : (t : Bool) → ltb (mod_z z (2 ^ bits w)) (2 ^ hbits w) ≡ t → SFits w (wrap w z)
    go true e = let h = ltb-true _ _ e in rw (wrap_low w z h) (record { sfits = h })
    go false e =
        let h = ltb-false _ _ e in
        rw (wrap_high w z h, less _ _ (mod_z_lt z (2 ^ bits w) (pow_pos (bits w)))) (record { sfits = omega (arith, halves w, h, mod_z_lt z (2 ^ bits w) (pow_pos (bits w))) })

-- the same remainder
pub wrap_mod : (w : Width) (z : ℤ) → mod_z (wrap w z) (2 ^ bits w) ≡ mod_z z (2 ^ bits w)
wrap_mod w z = go (ltb (mod_z z (2 ^ bits w)) (2 ^ hbits w)) refl
  where
    small : mod_z z (2 ^ bits w) < 2 ^ bits w
    small = mod_z_lt z (2 ^ bits w) (pow_pos (bits w))

    other : 2 ^ bits w - suc (mod_z z (2 ^ bits w)) < 2 ^ bits w
    other = omega (arith, small)

    go : (t : Bool) → ltb (mod_z z (2 ^ bits w)) (2 ^ hbits w) ≡ t → mod_z (wrap w z) (2 ^ bits w) ≡ mod_z z (2 ^ bits w)
    go true e = rw (wrap_low w z (ltb-true _ _ e)) (mod-eq_of_lt small)
    go false e = rw (wrap_high w z (ltb-false _ _ e), less _ _ small, mod-eq_of_lt other) (omega (arith, small))

-- there is no other number in range with that remainder
pub wrap_only : (w : Width) (y z : ℤ) → SFits w y → mod_z y (2 ^ bits w) ≡ mod_z z (2 ^ bits w) → wrap w z ≡ y
wrap_only w (pos n) z f e =
    let l : n % 2 ^ bits w ≡ n = mod-eq_of_lt (omega (arith, halves w, f.sfits)) in
    let h : mod_z z (2 ^ bits w) ≡ n = sym e ∙ l in
    wrap_low w z (omega (arith, h, f.sfits)) ∙ ap pos h
wrap_only w (negsuc n) z f e =
    let l : n % 2 ^ bits w ≡ n = mod-eq_of_lt (omega (arith, halves w, f.sfits)) in
    let h : mod_z z (2 ^ bits w) ≡ 2 ^ bits w - suc n = sym e ∙ ap (λ (k : ℕ). 2 ^ bits w - suc k) l in
    wrap_high w z (omega (arith, halves w, h, f.sfits)) ∙ less (mod_z z (2 ^ bits w)) (2 ^ bits w) (omega (arith, halves w, h, f.sfits)) ∙ ap negsuc (omega (arith, halves w, h, f.sfits))

pub wrap_id : (w : Width) (z : ℤ) → SFits w z → wrap w z ≡ z
wrap_id w z f = wrap_only w z z f refl

-- what std reads of the low bits
pub wrap_read : (w : Width) (z : ℤ) → to_z w (mod_z z (2 ^ bits w)) ≡ wrap w z
wrap_read w z = go (ltb (mod_z z (2 ^ bits w)) (2 ^ hbits w)) refl
  where
    m : ℕ
    m = mod_z z (2 ^ bits w)

    small : m < 2 ^ bits w
    small = mod_z_lt z (2 ^ bits w) (pow_pos (bits w))

    go : (t : Bool) → ltb m (2 ^ hbits w) ≡ t → to_z w m ≡ wrap w z
    go true e = let h = ltb-true _ _ e in to_z_pos w h ∙ sym (wrap_low w z h)
    go false e =
        let h = ltb-false _ _ e in
        let k = 2 ^ bits w - suc m in
        ap (to_z w) {x = m} {y = 2 ^ bits w - suc k} (omega (arith, small)) ∙ to_z-neg w k (omega (arith, halves w, h, small)) ∙ sym (wrap_high w z h ∙ less m (2 ^ bits w) small)
