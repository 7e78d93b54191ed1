-- The core of a frame: everything up to the synthesis samples (Decoder_amr of TS 26.073, good frame, MR74). It takes and gives the core's part
-- of the state alone: the postfilter's memory is not in it.
use Rattle.std.specs.Prelude.{List, [], ◌∷◌, map, ℕ, ℤ}
use mathlib.Core.List.{flat_map}
use Rattle.basicop.specs.Ops.{Quotient}
use Rattle.basicop.specs.Divided.{Divided, undivided, after}
use Rattle.spectral.specs.Lsp.{lsps_of}
use Rattle.lpc.specs.Rows.{rows_of}
pub use Rattle.lpc.specs.Rows.{row_list}
use Rattle.lpc.specs.declared.Rows.{Rows}
use Rattle.adaptive.specs.Predict.{predicted}
use Rattle.excitation.specs.Excitation.{sharpened, sharpening, feedback}
use Rattle.synthesis.specs.Synthesis.{newest}
use Rattle.decoder.specs.declared.Core.{Core}
use Rattle.decoder.specs.declared.Excitations.{Excitations}
use Rattle.decoder.specs.declared.SubframeOutput.{SubframeOutput}
use Rattle.decoder.specs.declared.CoreOutput.{CoreOutput}
use Rattle.decoder.specs.Inputs.{SubframeInputs, FrameInputs}
use Rattle.decoder.specs.Enhance.{first_excitation}
use Rattle.decoder.specs.Subframe.{SynthesisInput, SynthesisResult, synthesis_result}

-- ---- one subframe, of its row and its inputs
-- feedback and first excitation, from the past and the sharpening that the subframe before left
unfoldable pub excitations : List ℤ → ℤ → SubframeInputs → Divided Excitations
excitations past sharp p =
    let v = predicted past p.lag in
    let code = sharpened p.innovation p.lag.samples sharp in
    let exc = feedback v p.pitch code p.code in
    after (first_excitation v p.pitch exc) (λ (x : List ℤ). undivided (record { feedback = exc; excitation = x }))

-- what the synthesis is fed, the quotients taken on the way, what comes of it, and the state that it leaves
pub record SubframeResult : Type 0 where
  pub input : SynthesisInput
  pub quotients : List Quotient
  pub synthesis : SynthesisResult
  pub next : Core

unfoldable pub subframe_result : Core → List ℤ → SubframeInputs → SubframeResult
subframe_result c row p =
    let e = excitations c.past c.sharpening.0 p in
    let f : SynthesisInput = record { row = row; feedback = e.value.feedback; excitation = e.value.excitation } in
    let s = synthesis_result f c.history c.past in
    record {
      input = f;
      quotients = e.quotients;
      synthesis = s;
      next = record { lsp = c.lsp; past = s.past; sharpening = record { 0 = sharpening p.pitch }; history = newest 10 s.samples };
    }

-- what the code gives of it
abbrev pub subframe_output : SubframeResult → SubframeOutput
subframe_output t = record { place = t.synthesis.place; samples = t.synthesis.samples; next = t.next }

-- ---- the subframes of a frame, of their rows and their inputs
-- each from the state that the one before left
unfoldable pub subframe_results : Core → List (List ℤ) → List SubframeInputs → List SubframeResult
subframe_results c [] ps = []
subframe_results c (row ∷ rows) [] = []
subframe_results c (row ∷ rows) (p ∷ ps) =
    let t = subframe_result c row p in
    t ∷ subframe_results t.next rows ps

-- the state that the last one leaves, c where there is none
abbrev pub core_after : Core → List SubframeResult → Core
core_after c [] = c
core_after c (t ∷ ts) = core_after t.next ts

-- of each, and of all together
abbrev pub places_of : List SubframeResult → List ℕ
places_of ts = map (λ (t : SubframeResult). t.synthesis.place) ts

abbrev pub samples_of : List SubframeResult → List ℤ
samples_of ts = flat_map (λ (t : SubframeResult). t.synthesis.samples) ts

abbrev pub quotients_of : List SubframeResult → List Quotient
quotients_of ts = flat_map (λ (t : SubframeResult). t.quotients) ts

-- ---- the core of a frame, of its inputs
-- rows, subframes, and the state after them
pub record CoreResult : Type 0 where
  pub rows : Rows
  pub subframes : List SubframeResult
  pub next : Core

-- the state as the subframes take it, with the LSPs of the frame
abbrev pub opened_core : Core → FrameInputs → Core
opened_core c f = record { lsp = lsps_of f.lsfs; past = c.past; sharpening = c.sharpening; history = c.history }

-- the rows come from the LSPs of the frame before and the frame's own, which the subframes carry on
unfoldable pub core_result : Core → FrameInputs → CoreResult
core_result c f =
    let rows = rows_of c.lsp (lsps_of f.lsfs) in
    let subframes = subframe_results (opened_core c f) (row_list rows) f.subframes in
    record { rows = rows; subframes = subframes; next = core_after (opened_core c f) subframes }

-- what the code gives of it
abbrev pub core_output : CoreResult → CoreOutput
core_output d = record { rows = d.rows; places = places_of d.subframes; samples = samples_of d.subframes; next = d.next }
