-- Where the first excitation of a subframe divides, by what comes to the subframe: no quotient is asked.
use Rattle.std.specs.Prelude.{Bool, ◌&&◌, List, [], ◌∷◌, ℤ, pos}
use Rattle.std.specs.Int.Signed.{lt_z}
use Rattle.basicop.specs.Ops.{shl}
use Rattle.adaptive.specs.Predict.{predicted}
use Rattle.excitation.specs.Excitation.{sharpening}
use Rattle.energy.specs.Divisions.{gain_divides}
use Rattle.decoder.specs.Inputs.{SubframeInputs}
use Rattle.decoder.specs.Enhance.{enhanced}
use Rattle.decoder.specs.Core.{SubframeResult}

-- enhanced, then `match_energy`, above a pitch gain of 8192 alone (docs/BENCH.md, "Excitation"): of the feedback exc, with the past before the subframe
abbrev pub enhancement_divides : List ℤ → SubframeInputs → List ℤ → Bool
enhancement_divides past p exc =
    let g = shl (sharpening p.pitch) (pos 1) in
    lt_z (pos 8192) p.pitch && gain_divides exc (enhanced g p.pitch exc (predicted past p.lag))

-- of each subframe: the first from this past, each later one from the past that the one before left
abbrev pub enhancements_divide : List ℤ → List SubframeInputs → List SubframeResult → List Bool
enhancements_divide past [] ts = []
enhancements_divide past (p ∷ ps) [] = []
enhancements_divide past (p ∷ ps) (t ∷ ts) = enhancement_divides past p t.input.feedback ∷ enhancements_divide t.next.past ps ts
