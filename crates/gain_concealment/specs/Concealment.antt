-- ec_gain_pitch and ec_gain_code of TS 26.073, and ec_gain_pitch_update and ec_gain_code_update (TS 26.091): the gains of erased frames, and of a good frame
-- after one. pbuf and gbuf are the two fives, past_gain_pit and past_gain_code the past gains, prev_gp and prev_gc the last good ones: docs/BENCH.md, "Erased frames".
use Rattle.std.specs.Prelude.{Bool, if◌then◌else◌, List, [], ◌∷◌, ◌++◌, ℤ, pos, drop}
use Rattle.std.specs.Int.Signed.{lt_z}
use Rattle.lists.specs.Lists.{entry}
use Rattle.basicop.specs.Ops.{mult}
use Rattle.basicop.specs.declared.Gains.{Gains}
use Rattle.gain_concealment.specs.declared.GainConcealment.{GainConcealment}
use Rattle.gain_concealment.specs.declared.UsedGains.{UsedGains}
use Rattle.gain_concealment.specs.Median.{median}

-- ---- the two tables, an entry for each attenuation stage (Q15)
abbrev pub pdown : List ℤ
pdown = pos 32767 ∷ pos 32112 ∷ pos 32112 ∷ pos 26214 ∷ pos 9830 ∷ pos 6553 ∷ pos 6553 ∷ []

abbrev pub cdown : List ℤ
cdown = pos 32767 ∷ pos 32112 ∷ pos 32112 ∷ pos 32112 ∷ pos 32112 ∷ pos 32112 ∷ pos 22937 ∷ []

-- ---- one gain
-- at most the limit
abbrev pub held_to : ℤ → ℤ → ℤ
held_to limit gain = if lt_z limit gain then limit else gain

-- ec_gain_pitch, ec_gain_code: the median of the five, at most the past gain, scaled by the stage's entry
abbrev pub concealed_gain : List ℤ → List ℤ → ℤ → ℤ → ℤ
concealed_gain down history past stage = mult (held_to past (median history)) (entry down stage)

-- a five takes in a gain, its oldest leaving
abbrev pub taking_in : ℤ → List ℤ → List ℤ
taking_in gain history = drop 1 history ++ (gain ∷ [])

-- ---- both
-- the updates: the gains become the past ones, the pitch gain at most 16384 (1.0), and these enter the fives
unfoldable pub updated : Gains → GainConcealment → GainConcealment
updated gains c =
    let pitch = held_to (pos 16384) gains.pitch.0 in
    record {
      pitch_history = taking_in pitch c.pitch_history;
      code_history = taking_in gains.code.0 c.code_history;
      past = record { pitch = record { 0 = pitch }; code = gains.code };
      last_good = c.last_good;
    }

-- a subframe of an erased frame (bfi 1): its gains, and what goes on
unfoldable pub concealed_gains : ℤ → GainConcealment → UsedGains
concealed_gains stage c =
    let gains : Gains = record {
      pitch = record { 0 = concealed_gain pdown c.pitch_history c.past.pitch.0 stage };
      code = record { 0 = concealed_gain cdown c.code_history c.past.code.0 stage };
    } in
    record { gains = gains; next = updated gains c }

-- each gain at most that of the other pair
abbrev pub held_pair : Gains → Gains → Gains
held_pair limits gains = record { pitch = record { 0 = held_to limits.pitch.0 gains.pitch.0 }; code = record { 0 = held_to limits.code.0 gains.code.0 } }

-- of a good frame (bfi 0): where the frame before was erased (prev_bf), the gains are first held to the last good ones; then they become these
unfoldable pub good_gains : Bool → Gains → GainConcealment → UsedGains
good_gains erased gains c =
    let used = if erased then held_pair c.last_good gains else gains in
    let next = updated used c in
    record {
      gains = used;
      next = record { pitch_history = next.pitch_history; code_history = next.code_history; past = next.past; last_good = used };
    }
