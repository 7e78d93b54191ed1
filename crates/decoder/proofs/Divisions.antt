-- A subframe tells one quotient where `enhancement_divides` says so, and else none; the subframes of a frame tell as many together.
use Rattle.std.proofs.Common.{◌≡◌, refl, sym, ap₂, ◌∙◌, Bool, true, false, cond, ◌&&◌, List, [], ◌∷◌, ℕ, min, ◌+◌, ◌<◌, arith, lit<, ℤ, pos, negsuc, ◌*ℤ◌, length, length-append, ◌≤ℤ◌, ◌<ℤ◌, w16}
use mathlib.Core.List.{flat_map}
use Rattle.std.specs.Int.Signed.{lt_z}
use Rattle.lists.specs.Lists.{one_if, count}
use Rattle.basicop.specs.Ops.{clamp, sub, shl}
use Rattle.basicop.specs.Divided.{undivided}
use Rattle.basicop.proofs.Clamp.{clamp_pos, clamp_neg, clamp_above}
use borrow.Author.Differences.{product_is}
use Rattle.basicop.proofs.Ints.{arith_ℤ}
use Rattle.basicop.proofs.Tests.{less_yes, less_no, yes_less, no_less}
use Rattle.adaptive.specs.Predict.{predicted}
use Rattle.excitation.specs.Excitation.{sharpening}
use Rattle.energy.specs.Gain.{agc2}
use Rattle.energy.specs.Divisions.{gain_divides}
use Rattle.energy.proofs.Divisions.{quotient_count, agc2_divisions}
use Rattle.decoder.specs.declared.Core.{Core}
use Rattle.decoder.specs.Inputs.{SubframeInputs, FrameInputs}
use Rattle.decoder.specs.Enhance.{enhanced, first_excitation}
use Rattle.decoder.specs.Core.{excitations, subframe_result, subframe_results, quotients_of, row_list, opened_core, core_result}
use Rattle.decoder.specs.Divisions.{enhancement_divides, enhancements_divide}

-- ---- the new sharpening, doubled, is above 16384 just where the pitch gain is above 8192
-- two tests that agree
alike : (a b c d : ℤ) → (a <ℤ b → c <ℤ d) → (b ≤ℤ a → d ≤ℤ c) → lt_z c d ≡ lt_z a b
alike a b c d f g = go (lt_z a b) refl
  where
    go : (t : Bool) → lt_z a b ≡ t → lt_z c d ≡ t
    go true e = yes_less c d (f (less_yes e))
    go false e = no_less c d (g (less_no e))

above_clamped : (k : ℕ) → k < 32767 → (z : ℤ) → lt_z (pos k) (clamp w16 z) ≡ lt_z (pos k) z
above_clamped k h (pos n) = rw (clamp_pos w16 n) (alike (pos k) (pos n) (pos k) (pos (min n 32767)) (λ p. omega arith_ℤ) (λ p. omega arith_ℤ))
above_clamped k h (negsuc n) = rw (clamp_neg w16 n) refl

doubled_above : (z : ℤ) → lt_z (pos 16384) (shl z (pos 1)) ≡ lt_z (pos 8192) z
unfolding shl
doubled_above z =
    above_clamped 16384 (lit< tt) (z *ℤ pos 2)
    ∙ alike (pos 8192) z (pos 16384) (z *ℤ pos 2) (λ p. omega (arith_ℤ, product_is z (pos 2))) (λ p. omega (arith_ℤ, product_is z (pos 2)))

sharpening_above : (z : ℤ) → lt_z (pos 8192) (sharpening z) ≡ lt_z (pos 8192) z
unfolding sharpening sub
sharpening_above z = rw (clamp_above w16 z (pos 13017)) (go (lt_z (pos 13017) z) refl)
  where
    go : (t : Bool) → lt_z (pos 13017) z ≡ t → lt_z (pos 8192) (cond t (pos 13017) z) ≡ lt_z (pos 8192) z
    go true e = sym (yes_less (pos 8192) z (omega (arith_ℤ, less_yes {a = pos 13017} {b = z} e)))
    go false e = refl

pub enhances : (pitch : ℤ) → lt_z (pos 0) (sub (shl (sharpening pitch) (pos 1)) (pos 16384)) ≡ lt_z (pos 8192) pitch
unfolding sub
enhances pitch = clamp_above w16 (shl (sharpening pitch) (pos 1)) (pos 16384) ∙ doubled_above (sharpening pitch) ∙ sharpening_above pitch

-- ---- a subframe
module _ (past : List ℤ) (p : SubframeInputs) (exc : List ℤ) where
  abbrev brought : List ℤ
  brought = enhanced (shl (sharpening p.pitch) (pos 1)) p.pitch exc (predicted past p.lag)

  by_gain : (t : Bool) → quotient_count (cond t (agc2 exc brought) (undivided exc)) ≡ one_if (t && gain_divides exc brought)
  unfolding one_if
  by_gain true = agc2_divisions exc brought
  by_gain false = refl

  first_divisions : quotient_count (first_excitation (predicted past p.lag) p.pitch exc) ≡ one_if (enhancement_divides past p exc)
  unfolding first_excitation
  first_divisions = rw (enhances p.pitch) (by_gain (lt_z (pos 8192) p.pitch))

module _ (c : Core) (row : List ℤ) (p : SubframeInputs) where
  pub subframe_divisions : length (subframe_result c row p).quotients ≡ one_if (enhancement_divides c.past p (subframe_result c row p).input.feedback)
  unfolding subframe_result excitations
  subframe_divisions =
      let exc = (subframe_result c row p).input.feedback in
      length-append (first_excitation (predicted c.past p.lag) p.pitch exc).quotients [] ∙ omega (arith, first_divisions c.past p exc)

-- ---- the subframes of a frame
results_divisions : (c : Core) (rows : List (List ℤ)) (ps : List SubframeInputs) → length (quotients_of (subframe_results c rows ps)) ≡ count (enhancements_divide c.past ps (subframe_results c rows ps))
unfolding subframe_results flat_map
results_divisions c [] [] = refl
results_divisions c [] (p ∷ ps) = refl
results_divisions c (row ∷ rows) [] = refl
results_divisions c (row ∷ rows) (p ∷ ps) =
    let t = subframe_result c row p in
    length-append t.quotients (quotients_of (subframe_results t.next rows ps))
    ∙ ap₂ (λ (m n : ℕ). m + n) (subframe_divisions c row p) (results_divisions t.next rows ps)

pub core_divisions : (c : Core) (f : FrameInputs) → length (quotients_of (core_result c f).subframes) ≡ count (enhancements_divide c.past f.subframes (core_result c f).subframes)
unfolding core_result
core_divisions c f = results_divisions (opened_core c f) (row_list (core_result c f).rows) f.subframes
