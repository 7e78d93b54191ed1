-- What agc2 and agc give: as many samples, each of 16 bits, and a gain in range.
use Rattle.std.proofs.Common.{◌≡◌, refl, sym, ap, Bool, true, false, List, [], ◌∷◌, ℕ, suc, ℤ, pos, length, ◌≤ℤ◌, ◌<ℤ◌, w16, w32, SFits}
use Rattle.std.proofs.Math.ListN.{length-map}
use Rattle.std.specs.Int.Signed.{le_z, le_z_yes}
use Rattle.lists.specs.Lists.{eq_z, at}
use Rattle.lists.proofs.Entries.{length_tab, each_tab}
use Rattle.basicop.specs.Ops.{asr, div_s, l_mult}
use Rattle.basicop.proofs.Words.{zero_fits}
use Rattle.basicop.proofs.Range.{sfits_wider}
use Rattle.basicop.proofs.Clamp.{clamp_fits}
use Rattle.basicop.proofs.Fits.{l_mult_fits, l_shl_fits, extract_h_fits}
use Rattle.basicop.proofs.Tests.{at_most_yes, at_most_no}
use Rattle.basicop.proofs.Division.{div_s_is}
use Rattle.energy.specs.Energy.{squares, energy}
use Rattle.energy.specs.Gain.{gain_out, gain_in, energy_gain, scaled_by, target, smoothed, controlled, agc2, agc}
use Rattle.energy.specs.declared.Controlled.{Controlled}
use Rattle.energy.proofs.Tests.{eq_z_yes, not_zero}
use Rattle.energy.proofs.Sums.{Energetic, energy_range, energy_none}
use Rattle.energy.proofs.Gains.{Gain, gain_divides_lem, gain_from_in, gain_none, gain_some}
use Rattle.energy.proofs.control.Smoothing.{Goal, target_in, smoothed_in, smoothed_top, smoothed_forty}
use Rattle.energy.proofs.control.Controls.{agc2_none, agc2_some, agc_none, agc_some}

-- ---- the gain between two energies is in 0..=32767, and the goal of the smoothing in 0..=3275
quotient_fits : (n d : ℤ) → (pos 0 ≤ℤ n) × (n ≤ℤ d) × (pos 0 <ℤ d) → SFits w32 (div_s n d).value
quotient_fits n d h = rw (← div_s_is n d h.0 h.1 h.2) (sfits_wider w32 _ 32768 (clamp_fits w16 _).sfits tt)

pub energy_gain_in : (out into : ℤ) → pos 0 <ℤ out → SFits w32 out → Energetic into → Gain (energy_gain out into).value
energy_gain_in out into p f e = go (eq_z into (pos 0)) refl
  where
    go : (t : Bool) → eq_z into (pos 0) ≡ t → Gain (energy_gain out into).value
    go true z = rw (← gain_none out into (eq_z_yes into (pos 0) z)) (record { from = le_z_yes tt; to = le_z_yes tt })
    go false z =
        let q = not_zero into e.from z in
        rw (← gain_some out into q) (gain_from_in out into _ (quotient_fits (gain_out out) (gain_in into) (gain_divides_lem out into p f q e.fits)))

abbrev pub goal_of : List ℤ → List ℤ → ℤ
goal_of into out = target (energy_gain (energy out) (energy into)).value

pub goal_in : (into out : List ℤ) → pos 0 <ℤ energy out → Goal (goal_of into out)
goal_in into out p = target_in _ (energy_gain_in (energy out) (energy into) p (energy_range out).fits (energy_range into))

-- ---- by the output's energy, which is 0 or above 0
energy_case : (P : Type 0) (out : List ℤ) → (energy out ≡ pos 0 → P) → (pos 0 <ℤ energy out → P) → P
energy_case P out silent loud = go (le_z (energy out) (pos 0)) refl
  where
    go : (t : Bool) → le_z (energy out) (pos 0) ≡ t → P
    go true e = silent (energy_none out (at_most_yes e))
    go false e = loud (at_most_no (energy out) (pos 0) e)

-- ---- the samples
scaled_fits : (gain x : ℤ) → SFits w16 (scaled_by gain x)
scaled_fits gain x = extract_h_fits _ (l_shl_fits (l_mult x gain) (pos 3) (l_mult_fits x gain))

pub agc2_length : (into out : List ℤ) → length (agc2 into out).value ≡ length out
agc2_length into out =
    energy_case (length (agc2 into out).value ≡ length out) out (λ h. sym (ap length (agc2_none into out h)))
    (λ p. rw (← agc2_some into out p) (length-map out (scaled_by _)))

pub agc_length : (gain : ℤ) (into out : List ℤ) → length (agc gain into out).value.samples ≡ length out
unfolding controlled
agc_length gain into out =
    energy_case (length (agc gain into out).value.samples ≡ length out) out (λ h. rw (← agc_none gain into out h) refl)
    (λ p. rw (← agc_some gain into out p) (length_tab _ (length out)))

pub agc_fits : (gain : ℤ) (into out : List ℤ) → ((i : ℕ) → SFits w16 (at out i)) → (i : ℕ) → SFits w16 (at (agc gain into out).value.samples i)
unfolding controlled
agc_fits gain into out f i =
    energy_case (SFits w16 (at (agc gain into out).value.samples i)) out (λ h. rw (← agc_none gain into out h) (f i))
    (λ p. rw (← agc_some gain into out p) (each_tab (SFits w16) zero_fits _ (length out) (λ k. scaled_fits _ _) i))

-- ---- the gain that agc leaves
abbrev pub gain_after : ℤ → List ℤ → List ℤ → ℤ
gain_after gain into out = (agc gain into out).value.control.previous_gain

-- from a gain in 0..=32767: the gain of each sample lies in 0..=32765
pub gain_of_sample : (gain : ℤ) → Gain gain → (into out : List ℤ) → pos 0 <ℤ energy out → (k : ℕ) → (pos 0 ≤ℤ smoothed (goal_of into out) (suc k) gain) × (smoothed (goal_of into out) (suc k) gain ≤ℤ pos 32765)
gain_of_sample gain from into out p k = ((smoothed_in _ gain (goal_in into out p) from (suc k)).from, smoothed_top _ gain (goal_in into out p) from k)

module _ (gain : ℤ) (from : Gain gain) (into out : List ℤ) where
  none : energy out ≡ pos 0 → pos 0 ≡ gain_after gain into out
  none h = ap (λ (c : Controlled). c.control.previous_gain) (agc_none gain into out h)

  some : (p : pos 0 <ℤ energy out) → smoothed (goal_of into out) (length out) gain ≡ gain_after gain into out
  unfolding controlled
  some p = ap (λ (c : Controlled). c.control.previous_gain) (agc_some gain into out p)

  -- the next gain is one again, and not negative
  pub gain_after_in : Gain (gain_after gain into out)
  gain_after_in =
      energy_case (Gain (gain_after gain into out)) out (λ h. rw (← none h) (record { from = le_z_yes tt; to = le_z_yes tt }))
      (λ p. rw (← some p) (smoothed_in _ gain (goal_in into out p) from (length out)))

  -- after forty samples
  pub gain_after_forty : length out ≡ 40 → gain_after gain into out ≤ℤ pos 32748
  gain_after_forty l =
      energy_case (gain_after gain into out ≤ℤ pos 32748) out (λ h. rw (← none h) (le_z_yes tt))
      (λ p. rw (← some p, l) (smoothed_forty _ gain (goal_in into out p) from))

-- after any number
empty : energy [] ≡ pos 0
unfolding energy squares asr
empty = refl

pub gain_after_top : (gain : ℤ) → Gain gain → (into out : List ℤ) → gain_after gain into out ≤ℤ pos 32765
gain_after_top gain from into [] = rw (← none gain from into [] empty) (le_z_yes tt)
gain_after_top gain from into (x ∷ xs) =
    energy_case (gain_after gain into (x ∷ xs) ≤ℤ pos 32765) (x ∷ xs) (λ h. rw (← none gain from into (x ∷ xs) h) (le_z_yes tt))
    (λ p. rw (← some gain from into (x ∷ xs) p) (gain_of_sample gain from into (x ∷ xs) p (length xs)).1)
