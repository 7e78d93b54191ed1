-- What is promised of the gains of each kind (docs/BENCH.md, "Gains from an index", "Erased frames"). The theorems are in proofs/GainLaws.antt.
use Rattle.std.specs.Prelude.{◌≡◌, Ok, true, List, [], ◌∷◌, map, ℕ, ◌+◌, ◌<◌, ℤ, pos}
use Rattle.lists.specs.Lists.{at, Every}
use Rattle.pitch.specs.Lag.{Lag}
use Rattle.excitation.specs.Excitation.{sharpened}
use Rattle.decoder.specs.Inputs.{SubframeInputs}
use Rattle.outcome.specs.Outcome.{is_accepted}
use Rattle.gain_table.specs.Rows.{gain_row}
use Rattle.gain.specs.Call.{gain_call}
use Rattle.state.specs.declared.State.{State}
use Rattle.state.specs.State.{WellFormed}
use Rattle.kinds.specs.declared.GainMemory.{GainMemory}
use Rattle.kinds.specs.Sheet.{innovation_at}
use Rattle.kinds.specs.Kind.{frame_kind, index_kind, erased_kind, index_decoded, call_outcome}
use Rattle.kinds.specs.Prepass.{prepared}
use Rattle.kinds.specs.Accepted.{In}

-- after a good frame a frame sheet's own gains are used
pub record OwnGainsUsed (energies sheet : List ℤ) (s : State) : Type 0 where
  pub pitch :
      map (λ (p : SubframeInputs). p.pitch) (prepared frame_kind energies sheet s).inputs.subframes
      ≡ at sheet 14 ∷ at sheet 16 ∷ at sheet 18 ∷ at sheet 20 ∷ []
  pub code :
      map (λ (p : SubframeInputs). p.code) (prepared frame_kind energies sheet s).inputs.subframes
      ≡ at sheet 15 ∷ at sheet 17 ∷ at sheet 19 ∷ at sheet 21 ∷ []

abbrev pub OwnGains : Type 0
OwnGains = (energies sheet : List ℤ) (s : State) → s.concealment.erased ≡ pos 0 → OwnGainsUsed energies sheet s

-- the gains of an accepted index sheet are those of the call of an index, on the subframe's own sharpened innovation
abbrev pub IndexCallGains : Type 0
IndexCallGains =
    (logs pows sheet : List ℤ) (s : State) (room : ℕ)
    → is_accepted (call_outcome (index_kind logs pows) sheet s room) ≡ true
    → (k : ℕ) → k < 4 → (lag : Lag) (m : GainMemory)
    → let decoded = index_decoded logs pows sheet k lag m in
    gain_call logs pows (at sheet (14 + k)) (sharpened (innovation_at 18 sheet k) lag.samples m.sharpening.0) m.gain_decoder.energies
    ≡ record { outcome = Ok tt; gains = decoded.gains; gain_decoder = decoded.gain_decoder }

-- the energies after an index sheet are those of the rows of its subframes, the last one's first
abbrev pub IndexEnergies : Type 0
IndexEnergies =
    (logs pows energies sheet : List ℤ) (s : State)
    → (prepared (index_kind logs pows) energies sheet s).energies
    ≡ at (gain_row (at sheet 17)) 2 ∷ at (gain_row (at sheet 16)) 2 ∷ at (gain_row (at sheet 15)) 2 ∷ at (gain_row (at sheet 14)) 2 ∷ []

-- the gains of an accepted erased sheet lie in 0..=32766, from a state of 16-bit numbers
pub record GainsIn (p : SubframeInputs) : Type 0 where
  pub pitch : In (pos 0) (pos 32766) p.pitch
  pub code : In (pos 0) (pos 32766) p.code

abbrev pub ErasedGains : Type 0
ErasedGains =
    (energies sheet : List ℤ) (s : State) (room : ℕ) → WellFormed s
    → is_accepted (call_outcome erased_kind sheet s room) ≡ true
    → Every GainsIn (prepared erased_kind energies sheet s).inputs.subframes
