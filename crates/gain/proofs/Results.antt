-- What the definitions of the gains and of the call come to, of what each of their steps gives.
use Rattle.std.proofs.Common.{◌≡◌, refl, arith, List, ℤ}
use Rattle.std.specs.Prelude.{if◌then◌else◌}
use Rattle.std.specs.Int.{int_max}
use Rattle.std.specs.Int.Signed.{lt_z}
use Rattle.std.proofs.lemmas.Int.{ints}
use Rattle.std.specs.Prelude.{Ok, Err}
use Rattle.lists.specs.Lists.{at}
use Rattle.basicop.specs.declared.Q1.{Q1}
use Rattle.outcome.specs.declared.Refusal.{Refusal}
use Rattle.outcome.specs.Checks.{first_met}
use Rattle.outcome.proofs.Variants.{never_accepted}
use Rattle.logarithm.specs.declared.Logarithm.{Logarithm}
use Rattle.gain_table.specs.Rows.{gain_row}
use Rattle.gain.specs.declared.GainDecoder.{GainDecoder}
use Rattle.gain.specs.declared.DecodedGains.{DecodedGains}
use Rattle.gain.specs.Gain.{predicted_gain, code_gain, min_energy, entered, decoded_gains}
use Rattle.gain.specs.Call.{decode_checks, no_gains, gain_call}

-- at least the least energy, as the code holds it to that
pub at_least : (x : ℤ) → int_max x min_energy ≡ (if lt_z x min_energy then min_energy else x)
at_least x = grind (arith, ints)

pub gains_made : (logs pows : List ℤ) (index : ℤ) (innovation energies : List ℤ) {row : List ℤ} {predicted : Logarithm} {code : Q1} {next : GainDecoder} → row ≡ gain_row index → predicted ≡ predicted_gain logs innovation energies → code.0 ≡ code_gain pows (at row 1) predicted → next.energies ≡ entered (at row 2) energies → record { gains = record { pitch = record { 0 = at row 0 }; code = code }; gain_decoder = next } ≡ decoded_gains logs pows index innovation energies
unfolding decoded_gains
gains_made logs pows index innovation energies r p c n = rw (← r, ← p, ← c, ← n) refl

module _ (logs pows : List ℤ) (index : ℤ) (innovation energies : List ℤ) where
  abbrev decoded : DecodedGains
  decoded = decoded_gains logs pows index innovation energies

  pub call_accepted : first_met (decode_checks logs pows index) ≡ Ok tt → record { outcome = Ok tt; gains = decoded.gains; gain_decoder = decoded.gain_decoder } ≡ gain_call logs pows index innovation energies
  unfolding gain_call
  call_accepted e = rw e

  pub call_refused : {r : Refusal} → first_met (decode_checks logs pows index) ≡ Err r → record { outcome = Err r; gains = (no_gains energies).gains; gain_decoder = (no_gains energies).gain_decoder } ≡ gain_call logs pows index innovation energies
  unfolding gain_call
  call_refused {r} e = rw (e, never_accepted r)
