-- Enhancement of the excitation: Decoder_amr of TS 26.073, MR74 (TS 26.090, 6.1).
use Rattle.std.specs.Prelude.{if◌then◌else◌, List, ℤ, pos}
use Rattle.std.specs.Int.Signed.{lt_z}
use Rattle.lists.specs.Lists.{pairwise}
use Rattle.basicop.specs.Ops.{add, sub, mult, shl, l_mult, round}
use Rattle.basicop.specs.Divided.{Divided, undivided}
use Rattle.energy.specs.Gain.{agc2}
use Rattle.excitation.specs.Excitation.{sharpening}

-- some of the prediction v is added to a sample of the feedback, by the doubled sharpening g (Q15) and the pitch gain (Q14)
abbrev pub enhanced_at : ℤ → ℤ → ℤ → ℤ → ℤ
enhanced_at g pitch exc v = add exc (round (l_mult (mult v g) pitch))

unfoldable pub enhanced : ℤ → ℤ → List ℤ → List ℤ → List ℤ
enhanced g pitch exc v = pairwise (enhanced_at g pitch) exc v

-- the first excitation: enhanced and brought to the feedback's energy where the new sharpening, doubled, is above 16384; else the feedback itself
unfoldable pub first_excitation : List ℤ → ℤ → List ℤ → Divided (List ℤ)
first_excitation v pitch exc =
    let g = shl (sharpening pitch) (pos 1) in
    if lt_z (pos 0) (sub g (pos 16384)) then agc2 exc (enhanced g pitch exc v) else undivided exc
