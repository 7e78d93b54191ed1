-- `concealment_numbers` meets its contract: the fives are lists of five.
use Rattle.std.proofs.Common.{◌≡◌, ap₂, List, [], ◌∷◌, ◌++◌, ℕ, ℤ, length, w16, SFits, to_z-of_z, rules}
use Rattle.lists.specs.Lists.{at}
use Rattle.lists.proofs.Signed.{entry_fits}
use Rattle.gain_concealment.proofs.Fives.{five_entries}
use Rattle.state.specs.Layout.{pair_numbers, concealment_numbers}
use Rattle.state.proofs.layout.concealment_numbers.Goals as goal

pub returns : goal.returns
unfolding concealment_numbers
returns c =
    let a = c.args.concealment in
    let g = a.gains in
    let p : (k : ℕ) → SFits w16 (at g.pitch_history k) = λ k. search (rules, entry_fits) in
    let q : (k : ℕ) → SFits w16 (at g.code_history k) = λ k. search (rules, entry_fits) in
    let lp : length g.pitch_history ≡ 5 = search rules in
    let lq : length g.code_history ≡ 5 = search rules in
    let lag : SFits w16 a.last_lag = search rules in
    let mark : SFits w16 a.erased = search rules in
    let past_pitch : SFits w16 g.past.pitch.0 = search rules in
    let past_code : SFits w16 g.past.code.0 = search rules in
    let good_pitch : SFits w16 g.last_good.pitch.0 = search rules in
    let good_code : SFits w16 g.last_good.code.0 = search rules in
    rw (to_z-of_z lag, to_z-of_z (p 0), to_z-of_z (p 1), to_z-of_z (p 2), to_z-of_z (p 3), to_z-of_z (p 4))
    (rw (to_z-of_z (q 0), to_z-of_z (q 1), to_z-of_z (q 2), to_z-of_z (q 3), to_z-of_z (q 4), to_z-of_z past_pitch, to_z-of_z past_code, to_z-of_z good_pitch, to_z-of_z good_code, to_z-of_z mark)
    (ap₂ (λ (xs ys : List ℤ). a.last_lag ∷ (xs ++ (ys ++ (pair_numbers g.past ++ (pair_numbers g.last_good ++ (a.erased ∷ [])))))) (five_entries g.pitch_history lp) (five_entries g.code_history lq)))
