-- `update` meets its contract: both fives take in a number, the pitch gain held to 16384.
use Rattle.std.proofs.Common.{refl, rules, ℕ, pos, ◌≡◌, length, w16, SFits, to_z-of_z}
use Rattle.lists.specs.Lists.{at}
use Rattle.lists.proofs.Signed.{entry_fits}
use Rattle.gain_concealment.specs.Concealment.{held_to}
use Rattle.gain_concealment.proofs.Fives.{five_taking, updated_made}
use Rattle.gain_concealment.proofs.GainConcealment.update.Goals as goal

pub returns : goal.returns
returns c =
    let pitches = c.args.self.pitch_history in
    let codes = c.args.self.code_history in
    let five_pitches : length pitches ≡ 5 = search rules in
    let five_codes : length codes ≡ 5 = search rules in
    let p : (k : ℕ) → SFits w16 (at pitches k) = λ k. search (rules, entry_fits) in
    let q : (k : ℕ) → SFits w16 (at codes k) = λ k. search (rules, entry_fits) in
    let pitch : SFits w16 c.args.gains.pitch.0 = search rules in
    let code : SFits w16 c.args.gains.code.0 = search rules in
    let held : SFits w16 c.min.result = record { sfits = c.min.type_inv } in
    let most = held_to (pos 16384) c.args.gains.pitch.0 in
    rw (to_z-of_z code, to_z-of_z (p 1), to_z-of_z (p 2), to_z-of_z (p 3), to_z-of_z (p 4), to_z-of_z (q 1), to_z-of_z (q 2), to_z-of_z (q 3), to_z-of_z (q 4), to_z-of_z held, to_z-of_z held, c.min.ensures.value, to_z-of_z pitch)
    (updated_made c.args.gains c.args.self (five_taking most pitches five_pitches) (five_taking c.args.gains.code.0 codes five_codes) refl)
