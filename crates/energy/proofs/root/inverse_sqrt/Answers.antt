-- `inverse_sqrt` meets its contract: line by line it is the definition, and the index of a positive number has an entry after it.
use Rattle.std.proofs.Common.{◌≡◌, ap, ap₂, ◌∙◌, ℕ, ◌+◌, ◌<◌, arith, ℤ, pos, ◌<ℤ◌, w16, w32, SFits, of_z, to_z, to_z-of_z}
use Rattle.std.specs.Int.Signed.{le_z_yes}
use Rattle.lists.specs.Lists.{at}
use Rattle.lists.proofs.Signed.{got}
use Rattle.basicop.specs.Ops.{asr, sub, l_sub, l_mult, l_shl, norm_l, extract_h, extract_l}
use Rattle.basicop.specs.Interpolation.{interpolated}
use Rattle.basicop.proofs.Ints.{le_in, lt_in, ≤ℤ_trans}
use Rattle.basicop.proofs.Shift.{asr_same}
use Rattle.basicop.proofs.Tests.{at_most_no}
use Rattle.energy.specs.Root.{inverse_table, root_scaled, root_position}
use Rattle.energy.proofs.Tests.{asr_read}
use Rattle.energy.proofs.root.Forms.{fraction_is, half_and_one, deposited}
use Rattle.energy.proofs.root.Table.{entry_of, table_fits}
use Rattle.energy.proofs.root.Steps.{Scaled, root_scaled_fits, root_none, root_found, scaled_even, scaled_odd, scaled_normal, index_is}
use Rattle.energy.proofs.root.inverse_sqrt.Goals as goal
use Rattle.energy.proofs.root.inverse_sqrt.Goals.{After-sub-exponent, After-extract_h, After-sub-index, After-l_msu-y, then-exponent-eq0, else-exponent-eq0}

pub returns-then-value-le0 : goal.returns-then-value-le0
returns-then-value-le0 c = root_none c.args.value (rw (to_z-of_z c.ranges.value) at c.if-value-le0.true)

-- ---- L_x normalised, exp, and L_x before the shift by 9
exponent : (c : After-sub-exponent)
    → (c.l_shl-x.result ≡ l_shl c.args.value (norm_l c.args.value)) × (c.sub-exponent.result ≡ sub (pos 30) (norm_l c.args.value))
    × SFits w16 (sub (pos 30) (norm_l c.args.value))
exponent c =
    let v = to_z-of_z c.ranges.value in
    let n = rw v at (got w16 c.norm_l-exponent.type_inv c.norm_l-exponent.ensures) in
    let e = rw n at c.sub-exponent.ensures in
    (rw (v, n) at c.l_shl-x.ensures, e, record { sfits = rw e at c.sub-exponent.type_inv })

abbrev scaled : After-extract_h → ℤ
scaled c = root_scaled c.args.value (norm_l c.args.value)

scaled_is : (c : After-extract_h) → to_z w32 c.if-exponent-eq0.x-bits ≡ scaled c
scaled_is c =
    let fits : SFits w32 c.l_shl-x.result = record { sfits = c.l_shl-x.type_inv } in
    let h = exponent c.before.before in
    elim c.if-exponent-eq0.branch [
      | then-exponent-eq0 w ↦ w.x-is ∙ rw (to_z-of_z fits, asr_read w32 1 fits, h.0) (scaled_even c.args.value _ h.2 (rw h.1 at w.if-exponent-eq0.true))
      | else-exponent-eq0 w ↦ w.x-is ∙ rw (to_z-of_z fits, h.0) (scaled_odd c.args.value _ h.2 (rw h.1 at w.if-exponent-eq0.false))
    ]

above : (c : After-extract_h) → pos 0 <ℤ c.args.value
above c = at_most_no c.args.value (pos 0) (rw (to_z-of_z c.ranges.value) at c.if-value-le0.false)

normal : (c : After-extract_h) → Scaled (scaled c)
normal c = scaled_normal c.args.value (above c) c.ranges.value

-- ---- i: the definition's, from 0 to 47
index : (c : After-sub-index) → (k : ℕ) × ((root_position (scaled c.before)).index ≡ pos k) × (k < 48) × (to_z w16 (of_z w16 c.sub-index.result) ≡ pos k)
index c =
    let y = scaled c.before in
    let fits = root_scaled_fits (normal c.before) in
    let high : to_z w16 (of_z w16 c.extract_h.result) ≡ extract_h (asr y 9) =
    got w16 c.extract_h.type_inv (c.extract_h.ensures ∙ rw (scaled_is c.before) (ap extract_h (asr_read w32 9 fits))) in
    let h = index_is y (normal c.before) in
    (h.0, h.1, h.2, got w16 c.sub-index.type_inv (c.sub-index.ensures ∙ rw high h.1))

pub overflow_cast-index : goal.overflow_cast-index
overflow_cast-index c = let h = index c in rw h.3 (tt, record { fits = omega (arith, h.2) })

pub bounds-table-index : goal.bounds-table-index
bounds-table-index c = let h = index c.before in rw h.3 (omega (arith, h.2))

pub bounds-table-index-2 : goal.bounds-table-index-2
bounds-table-index-2 c = let h = index c.before.before in rw h.3 (omega (arith, h.2))

pub bounds-table-index-3 : goal.bounds-table-index-3
bounds-table-index-3 c = let h = index c.before.before.before in rw h.3 (omega (arith, h.2))

-- ---- L_y: the way from the entry to the next
abbrev at_index : After-l_msu-y → After-sub-index
at_index c = c.before.before.before.before.before.before

way : (c : After-l_msu-y) → to_z w32 (of_z w32 c.l_msu-y.result) ≡ interpolated inverse_table (root_position (scaled (at_index c).before))
unfolding inverse_table
way c =
    let b = (at_index c).before in
    let y = scaled b in
    let fits = root_scaled_fits (normal b) in
    let h = index (at_index c) in
    let e = entry_of (pos h.0) (le_in (omega arith)) (lt_in (omega (arith, h.2))) in
    let low = to_z-of_z (table_fits e.0) in
    let step : to_z w16 (of_z w16 c.sub-step.result) ≡ sub (at inverse_table h.0) (at inverse_table (h.0 + 1)) =
    got w16 c.sub-step.type_inv (c.sub-step.ensures ∙ rw h.3 (ap₂ sub low (to_z-of_z (table_fits e.1)))) in
    let x : c.extract_l-fraction.result ≡ extract_l (asr (asr y 9) 1) =
    c.extract_l-fraction.ensures ∙ rw (scaled_is b, asr_read w32 9 fits) (ap extract_l (asr_read w32 1 (asr_same w32 y 9 fits))) in
    let high = deposited (at inverse_table h.0) low (≤ℤ_trans (le_z_yes tt) e.0.from) e.0.to in
    rw h.1 (got w32 c.l_msu-y.type_inv (c.l_msu-y.ensures ∙ ap₂ l_sub (rw h.3 high) (ap₂ l_mult step (fraction_is (asr (asr y 9) 1) x))))

pub returns : goal.returns
returns c =
    let b = (at_index c.before).before in
    let h = exponent b.before.before in
    rw (h.1, half_and_one _ h.2, way c.before) at (got w32 c.l_shr.type_inv c.l_shr.ensures) ∙ root_found c.args.value (above b)
