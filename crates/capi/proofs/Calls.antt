-- The calls over bytes, case by case.
use Rattle.std.proofs.Common.{◌≡◌, refl, true, List, ℕ, ◌*◌, ℤ, length, eqb, eq-eqb, ne_eqb, eqb-true}
use Rattle.std.proofs.lemmas.Bool.{and_parts, false_from_ne_true}
use Rattle.state.specs.declared.State.{State}
use Rattle.outcome.specs.Outcome.{Outcome}
use Rattle.record.specs.declared.Answer.{Answer}
use Rattle.record.specs.Record.{read_result, read_call, write_result, write_call}
use Rattle.gain.specs.declared.GainDecoder.{GainDecoder}
use Rattle.gain.specs.declared.GainAnswer.{GainAnswer}
use Rattle.gain.specs.Call.{gain_call}
use Rattle.coding.specs.Bytes.{words, bytes_of}
use Rattle.kinds.specs.Kind.{Kind}
use Rattle.mr74.specs.declared.EnergiesAnswer.{EnergiesAnswer}
use Rattle.mr74.specs.Inner.{kind_call}
use Rattle.capi.specs.Capi.{state_length, unfit, code_of, lent_numbers, state_in, state_bytes, read_return, read_bytes, write_return, write_bytes}
use Rattle.capi.specs.Frames.{rows_length, places_length, energy_count, fits, room_in, out_after, row_bytes, frame_return, kind_after, kind_bytes, table_in}
use Rattle.capi.specs.Gains.{innovation_length, gains_length, gain_fits, gain_pair_bytes, gain_return, gain_bytes}

-- ---- a frame call of any kind
-- state, rows, places and energies have their lengths
pub record Fit (count state rows places energies : ℕ) : Type 0 where
  pub state_fits : state ≡ state_length
  pub rows_fit : rows ≡ rows_length
  pub places_fit : places ≡ places_length
  pub energies_fit : energies ≡ 2 * count

pub lengths : (count state rows places energies : ℕ) → fits count state rows places energies ≡ true → Fit count state rows places energies
lengths count state rows places energies h =
    let p = and_parts (eqb state state_length) _ h in
    let q = and_parts (eqb rows rows_length) _ p.1 in
    let r = and_parts (eqb places places_length) _ q.1 in
    record { state_fits = eqb-true state state_length p.0; rows_fit = eqb-true rows rows_length q.0; places_fit = eqb-true places places_length r.0; energies_fit = eqb-true energies (2 * count) r.1 }

-- what a call leaves, of its answer
pub frame_left : (kind : Kind) (sheet state out energies : List ℕ)
    → {numbers : List ℤ} {s : State} {d : GainDecoder} {a : EnergiesAnswer} {code : ℕ} {state' out' rows' places' energies' : List ℕ}
    → numbers ≡ lent_numbers kind.count sheet → s ≡ state_in state → d.energies ≡ words energies
    → a ≡ (kind_call kind d.energies numbers s (room_in out)).answer
    → out' ≡ out_after a.frame.outcome (kind_call kind d.energies numbers s (room_in out)).lent out
    → code ≡ code_of a.frame.outcome → state' ≡ state_bytes a.frame.next → rows' ≡ row_bytes a.frame.rows → places' ≡ a.frame.places → energies' ≡ bytes_of a.gain_decoder.energies
    → frame_return code state' out' rows' places' energies' ≡ kind_after kind sheet state out energies
unfolding kind_call
frame_left kind sheet state out energies en es ed ea eo ec et er ep ee = rw (ec, et, er, ep, ee, eo, ea, ed, es, en) refl

module _ (kind : Kind) (count : ℕ) (sheet state out rows places energies : List ℕ) where
  pub frame_unfit : {state' rows' places' energies' : List ℕ} → state' ≡ state → rows' ≡ rows → places' ≡ places → energies' ≡ energies
      → (Fit count (length state) (length rows) (length places) (length energies) → ⊥)
      → frame_return unfit state' out rows' places' energies' ≡ kind_bytes kind count sheet state out rows places energies
  unfolding kind_bytes
  frame_unfit es er ep ee n = rw (es, er, ep, ee, false_from_ne_true _ (λ e. n (lengths count (length state) (length rows) (length places) (length energies) e))) refl

  pub frame_given : Fit count (length state) (length rows) (length places) (length energies) → kind_after kind sheet state out energies ≡ kind_bytes kind count sheet state out rows places energies
  unfolding kind_bytes
  frame_given f = rw (eq-eqb _ _ f.state_fits, eq-eqb _ _ f.rows_fit, eq-eqb _ _ f.places_fit, eq-eqb _ _ f.energies_fit) refl

-- ---- the reader
module _ (bytes state : List ℕ) (note : ℕ) where
  pub read_unfit : (length state ≡ state_length → ⊥) → read_return unfit state note ≡ read_bytes bytes state note
  unfolding read_bytes
  read_unfit h = rw (ne_eqb _ _ h) refl

  pub read_given : length state ≡ state_length → {a : Answer} {part : List ℕ} → read_result a part ≡ read_call bytes
      → {code : ℕ} {state' : List ℕ} → code ≡ code_of a.outcome → state' ≡ state_bytes a.state → read_return code state' (length part) ≡ read_bytes bytes state note
  unfolding read_bytes
  read_given h e ec et = rw (eq-eqb _ _ h, ec, et, ← e) refl

-- ---- the writer
module _ (state lent : List ℕ) where
  pub write_unfit : (length state ≡ state_length → ⊥) → write_return unfit lent ≡ write_bytes state lent
  unfolding write_bytes
  write_unfit h = rw (ne_eqb _ _ h) refl

  pub write_given : length state ≡ state_length → {s : State} {o : Outcome} {code : ℕ} {last : List ℕ}
      → s ≡ state_in state → write_result o last ≡ write_call s lent → code ≡ code_of o → write_return code last ≡ write_bytes state lent
  unfolding write_bytes
  write_given h es e ec = rw (eq-eqb _ _ h, ec, ← es, ← e) refl

-- ---- the call of one gain index
pub record GainFit (innovation energies gains : ℕ) : Type 0 where
  pub innovation_fits : innovation ≡ innovation_length
  pub energies_fit : energies ≡ 2 * energy_count
  pub gains_fit : gains ≡ gains_length

pub gain_lengths : (innovation energies gains : ℕ) → gain_fits innovation energies gains ≡ true → GainFit innovation energies gains
gain_lengths innovation energies gains h =
    let p = and_parts (eqb innovation innovation_length) _ h in
    let q = and_parts (eqb energies (2 * energy_count)) _ p.1 in
    record { innovation_fits = eqb-true innovation innovation_length p.0; energies_fit = eqb-true energies (2 * energy_count) q.0; gains_fit = eqb-true gains gains_length q.1 }

module _ (index : ℤ) (innovation logs pows energies gains : List ℕ) where
  pub gain_unfit : {energies' gains' : List ℕ} → energies' ≡ energies → gains' ≡ gains → (GainFit (length innovation) (length energies) (length gains) → ⊥)
      → gain_return unfit energies' gains' ≡ gain_bytes index innovation logs pows energies gains
  unfolding gain_bytes
  gain_unfit ee eg n = rw (ee, eg, false_from_ne_true _ (λ e. n (gain_lengths (length innovation) (length energies) (length gains) e))) refl

  pub gain_given : GainFit (length innovation) (length energies) (length gains)
      → {sharpened : List ℕ} {opened : GainDecoder} {a : GainAnswer} {code : ℕ} {energies' gains' : List ℕ}
      → sharpened ≡ innovation → opened.energies ≡ words energies
      → a ≡ gain_call (table_in logs) (table_in pows) index (words sharpened) opened.energies
      → code ≡ code_of a.outcome → energies' ≡ bytes_of a.gain_decoder.energies → gains' ≡ gain_pair_bytes a.gains
      → gain_return code energies' gains' ≡ gain_bytes index innovation logs pows energies gains
  unfolding gain_bytes
  gain_given f es ed ea ec ee eg = rw (eq-eqb _ _ f.innovation_fits, eq-eqb _ _ f.energies_fit, eq-eqb _ _ f.gains_fit, ec, ee, eg, ea, es, ed) refl
