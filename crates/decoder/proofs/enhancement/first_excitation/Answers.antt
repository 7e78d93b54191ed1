-- `decoder::first_excitation` meets its contract: the difference from 16384, clamped, is above 0 just where the doubled sharpening is above 16384.
use Rattle.std.proofs.Common.{◌≡◌, ap, ◌∙◌, true, false, List, rules, ℤ, pos, w16, SFits, to_z-of_z}
use Rattle.std.specs.Int.Signed.{lt_z}
use Rattle.basicop.specs.Ops.{sub, shl}
use Rattle.basicop.proofs.Clamp.{clamp_above}
use Rattle.energy.specs.Gain.{agc2}
use Rattle.excitation.specs.Excitation.{sharpening}
use Rattle.decoder.specs.Enhance.{enhanced, first_excitation}
use Rattle.decoder.proofs.enhancement.first_excitation.Goals as goal
use Rattle.decoder.proofs.enhancement.first_excitation.Goals.{After-doubled-doubled}

module _ (v : List ℤ) (pitch : ℤ) (exc : List ℤ) {g : ℤ} (e : g ≡ shl (sharpening pitch) (pos 1)) where
  above : lt_z (pos 16384) g ≡ true → (agc2 exc (enhanced g pitch exc v)).value ≡ (first_excitation v pitch exc).value
  unfolding first_excitation sub
  above t = rw (← e, clamp_above w16 g (pos 16384), t)

  within : lt_z (pos 16384) g ≡ false → exc ≡ (first_excitation v pitch exc).value
  unfolding first_excitation sub
  within t = rw (← e, clamp_above w16 g (pos 16384), t)

-- the doubled sharpening, and its range
doubled_is : (c : After-doubled-doubled) → c.doubled-doubled.result.0 ≡ shl (sharpening c.args.pitch.0) (pos 1)
doubled_is c = c.doubled-doubled.ensures ∙ ap (λ (z : ℤ). shl z (pos 1)) c.next_sharpening.ensures

pub returns-then-strong : goal.returns-then-strong
returns-then-strong c =
    let d = c.before.before.before.before.before in
    let f : SFits w16 c.doubled-doubled.result.0 = search rules in
    c.match_energy.ensures
    ∙ rw c.enhanced.ensures (above c.args.adaptive c.args.pitch.0 c.args.feedback (doubled_is d) (rw (to_z-of_z f) at c.if-strong.true))

pub returns : goal.returns
returns c =
    let d = c.before.before.before in
    let f : SFits w16 c.doubled-doubled.result.0 = search rules in
    within c.args.adaptive c.args.pitch.0 c.args.feedback (doubled_is d) (rw (to_z-of_z f) at c.if-strong.false)
