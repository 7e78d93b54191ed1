-- The steps of Inv_sqrt, for a positive number: what each gives, its range, and as the code has it.
use Rattle.std.proofs.Common.{◌≡◌, refl, ap, ◌∙◌, true, false, ℕ, ◌+◌, ◌-◌, ◌/◌, ◌<◌, ◌≤◌, div-lt_iff_lt-mul, div-add-mod', mod-lt, arith, eq-eqb, ne_eqb, bit_and, eqb, lit<, lit≤, ℤ, pos, negsuc, ◌+ℤ◌, ◌≤ℤ◌, ◌<ℤ◌, w16, w32, SFits, of_z}
use Rattle.std.proofs.lemmas.Bool.{lt-leb}
use Rattle.std.specs.Int.Signed.{le_z, le_z_yes}
use Rattle.lists.specs.Lists.{eq_z, entry}
use Rattle.basicop.specs.Ops.{asr, low_bits, sub, l_shl, l_shr, norm_l}
use Rattle.basicop.specs.Interpolation.{interpolated}
use Rattle.basicop.proofs.Ints.{arith_ℤ, sfits_by, le_in, lt_in, ≤ℤ_trans}
use Rattle.basicop.proofs.Naturals.{asr_pos, add_pos, sub_pos}
use Rattle.basicop.proofs.Norm.{Normalised, normalised}
use Rattle.basicop.proofs.Tables.{Within, normal_within, Between, step}
use Rattle.energy.specs.Root.{inverse_table, root_scaled, root_position, root_shift, inverse_root}
use Rattle.energy.proofs.Tests.{either}
use Rattle.energy.proofs.root.Forms.{masked}
use Rattle.energy.proofs.root.Table.{entry_of}

-- ---- halved where the exponent is even
pub record Scaled (y : ℤ) : Type 0 where
  pub from : pos 536870912 ≤ℤ y
  pub below : y <ℤ pos 2147483648

pub root_scaled_fits : {y : ℤ} → Scaled y → SFits w32 y
root_scaled_fits {y} s = sfits_by (omega (arith_ℤ, s.from, s.below))

halved : (y : ℤ) → pos 1073741824 ≤ℤ y → y <ℤ pos 2147483648 → Scaled (asr y 1)
halved (pos y) h l =
    rw (asr_pos y 1) (record { from = le_in (omega (arith_ℤ, div-add-mod' y 2, mod-lt y {m = 2} (lit< tt))); below = lt_in (omega (arith_ℤ, div-add-mod' y 2)) })
halved (negsuc y) h l = absurd h.le

pub scaled_in : (x : ℤ) (n : ℕ) → Normalised x n → Scaled (root_scaled x (pos n))
unfolding root_scaled
scaled_in x n r =
    rw r.shifted (either Scaled (eq_z (low_bits 1 (sub (pos 30) (pos n))) (pos 0)) (halved _ r.from r.below) (record { from = ≤ℤ_trans (le_z_yes tt) r.from; below = r.below }))

-- ---- its position: below 48, in a table of 49 entries
pub positioned : (y : ℤ) → Scaled y → Within 48 (pos 16) (l_shr y (pos 9))
positioned y s = normal_within 16 y (lit≤ tt) s.from s.below

-- between its entry and the next no step clamps
abbrev pub low_of : ℤ → ℤ
low_of y = entry inverse_table (root_position y).index

abbrev pub next_of : ℤ → ℤ
next_of y = entry inverse_table ((root_position y).index +ℤ pos 1)

pub between_in : (y : ℤ) → Scaled y → Between (low_of y) (next_of y) (root_position y).fraction
between_in y s =
    let p = positioned y s in
    let e = entry_of (root_position y).index p.from p.below in
    step _ _ _ (≤ℤ_trans (le_z_yes tt) e.0.from) e.0.to (≤ℤ_trans (le_z_yes tt) e.1.from) e.1.to p.fraction_from p.fraction_to

-- ---- the last shift, 1 to 16
pub exponent_is : (n : ℕ) → n ≤ 30 → sub (pos 30) (pos n) ≡ pos (30 - n)
exponent_is n h = sub_pos 30 n h ∙ ap pos (omega arith)

half_less : (n : ℕ) → (30 - n) / 2 < 16
half_less n = (div-lt_iff_lt-mul {k = 2} {x = 30 - n} {y = 16} (lit< tt)).1 (omega arith)

pub shift_is : (n : ℕ) → n ≤ 30 → root_shift (pos n) ≡ pos ((30 - n) / 2 + 1)
shift_is n h = rw (exponent_is n h, asr_pos (30 - n) 1) (add_pos ((30 - n) / 2) 1 ∙ ap pos (omega (arith, half_less n)))

pub shift_most : (n : ℕ) → (30 - n) / 2 + 1 ≤ 16
shift_most n = omega (arith, half_less n)

-- ---- as the code has it: the exponent's lowest bit decides
even : (n : ℤ) → SFits w16 (sub (pos 30) n) → eq_z (low_bits 1 (sub (pos 30) n)) (pos 0) ≡ eqb (bit_and (of_z w16 (sub (pos 30) n)) 1) 0
even n f = rw (masked w16 15 1 (sub (pos 30) n) refl f)

pub scaled_even : (x n : ℤ) → SFits w16 (sub (pos 30) n) → bit_and (of_z w16 (sub (pos 30) n)) 1 ≡ 0 → asr (l_shl x n) 1 ≡ root_scaled x n
unfolding root_scaled
scaled_even x n f e = rw (even n f, eq-eqb _ 0 e)

pub scaled_odd : (x n : ℤ) → SFits w16 (sub (pos 30) n) → (bit_and (of_z w16 (sub (pos 30) n)) 1 ≡ 0 → ⊥) → l_shl x n ≡ root_scaled x n
unfolding root_scaled
scaled_odd x n f e = rw (even n f, ne_eqb _ 0 e)

above : (x : ℤ) → pos 0 <ℤ x → le_z x (pos 0) ≡ false
above (pos a) p = lt-leb a 0 (omega arith_ℤ)
above (negsuc a) p = absurd p.lt

pub root_none : (x : ℤ) → le_z x (pos 0) ≡ true → pos 1073741823 ≡ inverse_root x
unfolding inverse_root
root_none x e = rw e

pub root_found : (x : ℤ) → pos 0 <ℤ x → l_shr (interpolated inverse_table (root_position (root_scaled x (norm_l x)))) (root_shift (norm_l x)) ≡ inverse_root x
unfolding inverse_root
root_found x p = rw (above x p) refl

-- what a positive number is scaled to
pub scaled_normal : (x : ℤ) → pos 0 <ℤ x → SFits w32 x → Scaled (root_scaled x (norm_l x))
scaled_normal x p f = let h = normalised x p f in rw h.1.count (scaled_in x h.0 h.1)

-- its index, as a natural number
pub index_is : (y : ℤ) → Scaled y → (k : ℕ) × ((root_position y).index ≡ pos k) × (k < 48)
index_is y s = let w = positioned y s in go (root_position y).index refl w.from w.below
  where
    go : (i : ℤ) → (root_position y).index ≡ i → pos 0 ≤ℤ i → i <ℤ pos 48 → (k : ℕ) × ((root_position y).index ≡ pos k) × (k < 48)
    go (pos k) e h l = (k, e, omega arith_ℤ)
    go (negsuc k) e h l = absurd h.le
