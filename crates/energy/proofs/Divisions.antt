-- agc2 and agc tell one quotient where `gain_divides` says so, and else none.
use Rattle.std.proofs.Common.{◌≡◌, refl, ◌∙◌, Bool, true, false, cond, not, ◌&&◌, List, [], ℕ, arith, ℤ, pos, length, length-append}
use Rattle.lists.specs.Lists.{eq_z, one_if}
use Rattle.basicop.specs.Divided.{Divided, undivided, after}
use Rattle.energy.specs.Energy.{energy}
use Rattle.energy.specs.Gain.{energy_gain, agc2, agc}
use Rattle.energy.specs.Divisions.{gain_divides}

-- how many quotients there are
abbrev pub quotient_count : {A : Type 0} → Divided A → ℕ
quotient_count m = length m.quotients

gain_divisions : (out into : ℤ) → quotient_count (energy_gain out into) ≡ one_if (not (eq_z into (pos 0)))
unfolding energy_gain one_if
gain_divisions out into = go (eq_z into (pos 0)) refl
  where
    go : (t : Bool) → eq_z into (pos 0) ≡ t → quotient_count (energy_gain out into) ≡ one_if (not t)
    go true e = rw e refl
    go false e = rw e refl

module _ (into out : List ℤ) where
  -- one value at an output energy of 0, else another after the gain, whatever the two are
  by_energy : {A : Type 0} (none some : A) → quotient_count (cond (eq_z (energy out) (pos 0)) (undivided none) (after (energy_gain (energy out) (energy into)) (λ (g : ℤ). undivided some))) ≡ one_if (gain_divides into out)
  unfolding one_if
  by_energy none some = go (eq_z (energy out) (pos 0))
    where
      go : (t : Bool) → quotient_count (cond t (undivided none) (after (energy_gain (energy out) (energy into)) (λ (g : ℤ). undivided some))) ≡ one_if (not t && not (eq_z (energy into) (pos 0)))
      go true = refl
      go false = length-append (energy_gain (energy out) (energy into)).quotients [] ∙ omega (arith, gain_divisions (energy out) (energy into))

  pub agc2_divisions : quotient_count (agc2 into out) ≡ one_if (gain_divides into out)
  unfolding agc2
  agc2_divisions = by_energy _ _

  pub agc_divisions : (gain : ℤ) → quotient_count (agc gain into out) ≡ one_if (gain_divides into out)
  unfolding agc
  agc_divisions gain = by_energy _ _
