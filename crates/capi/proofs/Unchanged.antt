-- A frame call of any kind that is not accepted leaves state, output and energies; a call of one index leaves the energies.
use Rattle.std.proofs.Common.{◌≡◌, refl, ap, ◌∙◌, Bool, true, false, List, ℕ, arith, ℤ, length}
use Rattle.outcome.specs.Outcome.{Outcome, is_accepted}
use Rattle.outcome.specs.Checks.{first_met}
use Rattle.outcome.proofs.Variants.{accepted_number, accepted_place}
use Rattle.state.specs.Layout.{state_count}
use Rattle.state.proofs.Numbers.{numbers_of_state}
use Rattle.coding.specs.Bytes.{words, bytes_of, Bytes}
use Rattle.coding.proofs.Bytes.{bytes_back}
use Rattle.coding.proofs.Laid.{bytes_length}
use Rattle.gain.specs.Call.{decode_checks, gain_call}
use Rattle.kinds.specs.Kind.{Kind, call_outcome}
use Rattle.mr74.specs.Frame.{call_trace}
use Rattle.capi.specs.Capi.{state_length, code_of, lent_numbers, state_in, state_bytes}
use Rattle.capi.specs.Frames.{fits, room_in, kind_after, kind_bytes, table_in, LentUnchanged, RefusedUnchanged}
use Rattle.capi.specs.Gains.{gain_fits, gain_bytes, GainUnchanged}
use Rattle.capi.proofs.Codes.{traced_outcome}
use Rattle.capi.proofs.Calls.{Fit, lengths, GainFit, gain_lengths}

-- what is accepted has the code 0
accepted_code : (o : Outcome) → is_accepted o ≡ true → code_of o ≡ 0
accepted_code o e = omega (arith, accepted_number o e, accepted_place o e)

-- the bytes of the state of bytes are those bytes
same_bytes : (state : List ℕ) → length state ≡ state_length → Bytes state → state_bytes (state_in state) ≡ state
same_bytes state l b =
    let back = bytes_back state_count state l b in
    let e = ap length back in
    let k : length (words state) ≡ state_count = omega (arith, e, bytes_length (words state), l) in
    ap bytes_of (numbers_of_state (words state) k) ∙ back

-- ---- a frame call
module _ (kind : Kind) (count : ℕ) (sheet state out rows places energies : List ℕ) (bytes : Bytes state) (energy : Bytes energies) where
  abbrev numbers : List ℤ
  numbers = lent_numbers kind.count sheet

  abbrev o : Outcome
  o = call_outcome kind numbers (state_in state) (length (room_in out))

  after : Fit count (length state) (length rows) (length places) (length energies) → (b : Bool) → is_accepted o ≡ b → LentUnchanged (kind_after kind sheet state out energies) state out energies
  unfolding call_trace
  after f true e = λ n. absurd (n (ap code_of (traced_outcome kind (words energies) numbers (state_in state) (room_in out)) ∙ accepted_code o e))
  after f false e = rw (e, e) (λ n. (same_bytes state f.state_fits bytes, refl, bytes_back count energies f.energies_fit energy))

  left : (b : Bool) → fits count (length state) (length rows) (length places) (length energies) ≡ b
      → LentUnchanged (kind_bytes kind count sheet state out rows places energies) state out energies
  unfolding kind_bytes
  left true e = rw e (after (lengths count (length state) (length rows) (length places) (length energies) e) _ refl)
  left false e = rw e (λ n. (refl, refl, refl))

pub refused_unchanged : RefusedUnchanged
refused_unchanged kind count sheet state out rows places energies bytes energy = left kind count sheet state out rows places energies bytes energy _ refl

-- ---- the call of one index
module _ (index : ℤ) (innovation logs pows energies gains : List ℕ) (energy : Bytes energies) where
  abbrev g : Outcome
  g = first_met (decode_checks (table_in logs) (table_in pows) index)

  kept_energies : GainFit (length innovation) (length energies) (length gains) → (b : Bool) → is_accepted g ≡ b → (code_of g ≡ 0 → ⊥)
      → bytes_of (gain_call (table_in logs) (table_in pows) index (words innovation) (words energies)).gain_decoder.energies ≡ energies
  unfolding gain_call
  kept_energies f true e n = absurd (n (accepted_code g e))
  kept_energies f false e n = rw e (bytes_back 4 energies f.energies_fit energy)

  gain_left : (b : Bool) → gain_fits (length innovation) (length energies) (length gains) ≡ b
      → let left = gain_bytes index innovation logs pows energies gains in
      (left.code ≡ 0 → ⊥) → left.energies ≡ energies
  unfolding gain_bytes gain_call
  gain_left true e = rw e (kept_energies (gain_lengths (length innovation) (length energies) (length gains) e) (is_accepted g) refl)
  gain_left false e = rw e (λ n. refl)

pub gain_unchanged : GainUnchanged
gain_unchanged index innovation logs pows energies gains energy = gain_left index innovation logs pows energies gains energy _ refl
