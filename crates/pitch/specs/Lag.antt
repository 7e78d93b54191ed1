-- Lags: Dec_lag3 of TS 26.073, and the range that its caller Decoder_amr hands it, for MR74 (TS 26.090, 6.1); and Decoder_amr's own of an erased frame.
use Rattle.std.specs.Prelude.{if◌then◌else◌, ℤ, pos, negsuc}
use Rattle.std.specs.Int.Signed.{lt_z}
use Rattle.basicop.specs.Ops.{add, sub, mult}
use Rattle.pitch.specs.declared.Fraction.{Fraction}
use Rattle.pitch.specs.declared.Fraction.TheVariants.{MinusThird, Zero, PlusThird}
use Rattle.pitch.specs.declared.PitchLag.{PitchLag}

-- a lag of whole samples, T0, and thirds, T0_frac
pub record Lag : Type 0 where
  pub samples : ℤ
  pub thirds : ℤ

abbrev pub triple : ℤ → ℤ
triple x = add (add x x) x

-- subframes 0 and 2, of the index n
unfoldable pub absolute : ℤ → Lag
absolute n =
    let t = add (mult (add n (pos 2)) (pos 10923)) (pos 19) in
    if lt_z (sub n (pos 197)) (pos 0)
    then record { samples = t; thirds = add (sub n (triple t)) (pos 58) }
    else record { samples = sub n (pos 112); thirds = pos 0 }

-- t0_min, the least lag of subframes 1 and 3: five below the lag t before it, raised to 20, and lowered to 134 so that nine more is at most 143
abbrev pub raised_20 : ℤ → ℤ
raised_20 m = if lt_z (sub m (pos 20)) (pos 0) then pos 20 else m

abbrev pub lowered_134 : ℤ → ℤ
lowered_134 m = if lt_z (pos 0) (sub (add m (pos 9)) (pos 143)) then sub (pos 143) (pos 9) else m

unfoldable pub lag_min : ℤ → ℤ
lag_min t = lowered_134 (raised_20 (sub t (pos 5)))

-- subframes 1 and 3, after the lag t
unfoldable pub relative : ℤ → ℤ → Lag
relative n t =
    let i = sub (mult (add n (pos 2)) (pos 10923)) (pos 1) in
    record { samples = add i (lag_min t); thirds = sub (sub n (pos 2)) (triple i) }

-- ---- a subframe of an erased frame, after the lag t: old_T0 grows by one while it is below PIT_MAX, and T0_frac is 0 (Decoder_amr, bfi)
unfoldable pub concealed_lag : ℤ → Lag
concealed_lag t = record { samples = if lt_z (sub t (pos 143)) (pos 0) then add t (pos 1) else t; thirds = pos 0 }

-- ---- the code's lag, and the thirds of each fraction
abbrev pub thirds_of : Fraction → ℤ
thirds_of MinusThird = negsuc 0
thirds_of Zero = pos 0
thirds_of PlusThird = pos 1

abbrev pub lag_of : PitchLag → Lag
lag_of l = record { samples = pos l.samples; thirds = thirds_of l.fraction }
