-- The call of one index (GainDecoder::decode): docs/BENCH.md, "Gains from an index".
use Rattle.std.specs.Prelude.{if◌then◌else◌, List, [], ◌∷◌, ◌++◌, ℤ, pos, replicate}
use Rattle.lists.specs.Lists.{minus}
use Rattle.outcome.specs.Outcome.{is_accepted}
use Rattle.outcome.specs.Checks.{Check, first_met}
use Rattle.gain.specs.declared.DecodedGains.{DecodedGains}
use Rattle.gain.specs.declared.GainAnswer.{GainAnswer}
use Rattle.gain.specs.Gain.{decoded_gains}
use Rattle.gain.specs.Checks.{table_checks, index_checks}

-- the past energies of a decoder that has decoded nothing (Q10, newest first)
abbrev pub opening_energies : List ℤ
opening_energies = replicate 4 (minus 14336)

-- in the order 7, 8
abbrev pub decode_checks : List ℤ → List ℤ → ℤ → List Check
decode_checks logs pows index = table_checks logs pows ++ index_checks 1 (index ∷ [])

-- refused: gains 0 and 0, the energies as they came
abbrev pub no_gains : List ℤ → DecodedGains
no_gains energies = record { gains = record { pitch = record { 0 = pos 0 }; code = record { 0 = pos 0 } }; gain_decoder = record { energies = energies } }

unfoldable pub gain_call : List ℤ → List ℤ → ℤ → List ℤ → List ℤ → GainAnswer
gain_call logs pows index innovation energies =
    let o = first_met (decode_checks logs pows index) in
    let d = if is_accepted o then decoded_gains logs pows index innovation energies else no_gains energies in
    record { outcome = o; gains = d.gains; gain_decoder = d.gain_decoder }
