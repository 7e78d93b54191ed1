-- `RefusedUnchanged` (capi/specs/Frames.antt) applied to a call of each kind over bytes: to two of a frame sheet, one turned back by its sheet and one by its state,
-- with the places of the first, computed; to one of an index sheet that is lent no table; and to one of an erased sheet of stage 0 whose state is all zeros.
-- `GainUnchanged` (Gains.antt) applied to a call of the index 128.
-- The theorem is `unchanged_applied` in proofs/Capi.antt.
use Rattle.std.specs.Prelude.{◌≡◌, List, [], ◌∷◌, ◌++◌, ℕ, ◌+◌, ◌*◌, pos, replicate}
use Rattle.coding.specs.Bytes.{bytes_of}
use Rattle.capi.specs.Frames.{FrameReturn, frame_bytes, index_bytes, erased_bytes}
use Rattle.capi.specs.Gains.{GainReturn, gain_bytes}
use Rattle.applied.specs.Refusals.{lowest}

-- of a sheet and a state's bytes: the output is 320 bytes of 9, rows and places are zeros
abbrev pub returned : List ℕ → List ℕ → FrameReturn
returned sheet state = frame_bytes sheet state (replicate 320 9) (replicate 88 0) (replicate 4 0)

-- no sheet: 1
abbrev pub unsent : FrameReturn
unsent = returned [] (replicate 426 1)

-- a sheet of zeros but for its LSFs, and a state whose numbers are all -1, its sharpening too: 16
abbrev pub lowest_sheet : List ℕ
lowest_sheet = bytes_of (lowest ++ replicate 172 (pos 0))

abbrev pub unmet : FrameReturn
unmet = returned lowest_sheet (replicate 426 255)

-- an index sheet of zeros but for its LSFs, and tables without a number: 7
abbrev pub untabled : FrameReturn
untabled =
    index_bytes (bytes_of (lowest ++ replicate 168 (pos 0))) (replicate 426 0) (replicate 320 9) (replicate 88 0) (replicate 4 0) [] [] (replicate 8 7)

-- an erased sheet of zeros but for its LSFs, and a state of zeros, whose last lag is 0: 19, with its place 197
abbrev pub lost : FrameReturn
lost = erased_bytes (bytes_of (lowest ++ replicate 161 (pos 0))) (replicate 426 0) (replicate 320 9) (replicate 88 0) (replicate 4 0) (replicate 8 7)

-- the index 128, and tables of zeros: 8
abbrev pub unlisted : GainReturn
unlisted = gain_bytes (pos 128) (replicate 80 0) (replicate 66 0) (replicate 66 0) (replicate 8 7) (replicate 4 9)

pub record UnchangedApplied : Type 0 where
  pub unsent_code : unsent.code ≡ 1
  pub unsent_state : unsent.state ≡ replicate 426 1
  pub unsent_out : unsent.out ≡ replicate 320 9
  -- 40 four times where no subframe was decoded
  pub unsent_places : unsent.places ≡ 40 ∷ 40 ∷ 40 ∷ 40 ∷ []
  pub unmet_code : unmet.code ≡ 16
  pub unmet_state : unmet.state ≡ replicate 426 255
  pub unmet_out : unmet.out ≡ replicate 320 9
  pub untabled_code : untabled.code ≡ 7
  pub untabled_state : untabled.state ≡ replicate 426 0
  pub untabled_out : untabled.out ≡ replicate 320 9
  pub untabled_energies : untabled.energies ≡ replicate 8 7
  pub lost_code : lost.code ≡ 19 + 256 * 197
  pub lost_state : lost.state ≡ replicate 426 0
  pub lost_out : lost.out ≡ replicate 320 9
  pub lost_energies : lost.energies ≡ replicate 8 7
  pub unlisted_code : unlisted.code ≡ 8
  pub unlisted_energies : unlisted.energies ≡ replicate 8 7
  -- gains 0 and 0
  pub unlisted_gains : unlisted.gains ≡ replicate 4 0
