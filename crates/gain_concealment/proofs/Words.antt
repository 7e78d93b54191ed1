-- From gains of 16 bits come gains of 16 bits, five in each of the fives: `concealed_words`, `good_words`.
use Rattle.std.proofs.Common.{Bool, true, false, List, [], ◌∷◌, lit<, ℤ, pos, drop, w16, SFits}
use Rattle.basicop.specs.Ops.{mult}
use Rattle.basicop.specs.Words.{Words}
use Rattle.basicop.proofs.Clamp.{clamp_fits}
use Rattle.basicop.proofs.Words.{words_one, words_append, words_drop}
use Rattle.basicop.specs.declared.Gains.{Gains}
use Rattle.gain_concealment.specs.declared.GainConcealment.{GainConcealment}
use Rattle.gain_concealment.specs.declared.UsedGains.{UsedGains}
use Rattle.gain_concealment.specs.Formed.{PairFormed, GainsFormed}
use Rattle.gain_concealment.specs.Concealment.{taking_in, updated, concealed_gains, held_pair, good_gains}
use Rattle.gain_concealment.proofs.Ranges.{held_either}

-- ---- what has 16 bits
pub record WordsUsed (u : UsedGains) : Type 0 where
  pub gains : PairFormed u.gains
  pub next : GainsFormed u.next

-- ---- the steps
words_taking : (g : ℤ) (xs : List ℤ) → SFits w16 g → Words 5 xs → Words 5 (taking_in g xs)
words_taking g xs f w = words_append (drop 1 xs) (g ∷ []) (words_drop 1 xs w) (words_one g f)

words_updated : (gains : Gains) (c : GainConcealment) → PairFormed gains → GainsFormed c → GainsFormed (updated gains c)
unfolding updated
words_updated gains c n k =
    let pitch = held_either (SFits w16) (pos 16384) gains.pitch.0 (record { sfits = lit< tt }) n.pitch in
    record {
      pitch_history = words_taking _ c.pitch_history pitch k.pitch_history;
      code_history = words_taking _ c.code_history n.code k.code_history;
      past = record { pitch = pitch; code = n.code };
      last_good = k.last_good;
    }

mult_fits : (a b : ℤ) → SFits w16 (mult a b)
unfolding mult
mult_fits a b = clamp_fits w16 _

-- ---- the two calls
pub concealed_words : (stage : ℤ) (c : GainConcealment) → GainsFormed c → WordsUsed (concealed_gains stage c)
unfolding concealed_gains
concealed_words stage c k =
    let gains : PairFormed (concealed_gains stage c).gains = record { pitch = mult_fits _ _; code = mult_fits _ _ } in
    record { gains = gains; next = words_updated _ c gains k }

words_next : (gains : Gains) (c : GainConcealment) → PairFormed gains → GainsFormed c → WordsUsed (good_gains false gains c)
unfolding good_gains
words_next gains c n k =
    let u = words_updated gains c n k in
    record { gains = n; next = record { pitch_history = u.pitch_history; code_history = u.code_history; past = u.past; last_good = n } }

pub good_words : (erased : Bool) (gains : Gains) (c : GainConcealment) → PairFormed gains → GainsFormed c → WordsUsed (good_gains erased gains c)
unfolding good_gains
good_words false gains c n k = words_next gains c n k
good_words true gains c n k =
    let held : PairFormed (held_pair c.last_good gains) = record {
      pitch = held_either (SFits w16) c.last_good.pitch.0 gains.pitch.0 k.last_good.pitch n.pitch;
      code = held_either (SFits w16) c.last_good.code.0 gains.code.0 k.last_good.code n.code;
    } in
    words_next (held_pair c.last_good gains) c held k
