-- What is promised of each kind of sheet, at the sheets and calls of specs/Promised.antt: `accepted_exactly`, `own_gains`, `index_call_gains`, `index_energies`,
-- `sharpening_is_core`, `answers_traced`, `next_accepted` and `next_well_formed`, applied.
use Rattle.std.proofs.Common.{ℕ, zero, suc, ◌<◌, ◌≡◌, refl, ap, ◌∙◌, true, List, [], ◌∷◌, ◌++◌, arith, lit<, ℤ, pos, length, replicate, ◌≤ℤ◌, w16, SFits}
use Rattle.std.proofs.lemmas.List.{get_or-replicate}
use lib.Signed.{le_z_yes}
use Rattle.std.specs.Prelude.{Ok, Err}
use Rattle.lists.specs.Lists.{minus, at, iter}
use Rattle.lists.proofs.Entries.{stretch_at}
use Rattle.basicop.specs.declared.Q14.{Q14}
use Rattle.basicop.specs.Ops.{clamp, asr, wrap, add, sub, mult, shl, l_add, l_sub, l_mult, l_shl, l_shr_r, l_deposit_h, doublings, norm_l, l_extract, mpy_32_16}
use Rattle.pitch.specs.Lag.{absolute, lag_min, relative, concealed_lag}
use Rattle.excitation.specs.Excitation.{sharpened, sharpening}
use Rattle.energy.specs.Energy.{squares}
use Rattle.outcome.specs.declared.Refusal.TheVariants.{Table, Stage}
use Rattle.outcome.specs.Outcome.{is_accepted}
use Rattle.outcome.specs.Checks.{first_met, first_outside, first_close}
use Rattle.logarithm.specs.Log2.{log2}
use Rattle.logarithm.specs.Pow2.{pow2}
use Rattle.gain_table.specs.Rows.{gain_table, gain_row}
use Rattle.gain.specs.declared.GainAnswer.{GainAnswer}
use Rattle.gain.specs.Gain.{predicted_gain, code_gain, decoded_gains, average_energy}
use Rattle.gain.specs.Call.{opening_energies}
use Rattle.gain.specs.Checks.{is_table}
use Rattle.gain_concealment.specs.Median.{inserted, sorted}
use Rattle.gain_concealment.specs.Concealment.{updated, concealed_gains, good_gains}
use Rattle.state.specs.declared.State.{State}
use Rattle.state.specs.State.{state_outcome}
use Rattle.state.specs.Layout.{core_of, post_of, concealment_of, state_of}
use Rattle.kinds.specs.Checks.{lsf_checks}
use Rattle.kinds.specs.Kind.{SheetKind, FrameSheet, IndexSheet, ErasedSheet, kind_of, frame_kind, erased_kind, call_outcome, index_decoded}
use Rattle.kinds.specs.Prepass.{prepared, prepared_after}
use Rattle.kinds.specs.Accepted.{PitchIndices, GainsKept, GainIndices, OwnKept, CallKept}
use Rattle.kinds.proofs.Groups.{lsfs_range, gaps_accept}
use Rattle.kinds.proofs.Accepted.{accepted_exactly}
use Rattle.kinds.proofs.GainLaws.{own_gains, index_call_gains, index_energies}
use Rattle.mr74.proofs.Sharpening.{sharpening_is_core}
use Rattle.mr74.specs.Frame.{CallResult, EnergiesResult, Trace, energies_result_of, call_trace}
use Rattle.calls.specs.Calls.{trace_of}
use Rattle.calls.proofs.Answers.{answers_traced}
use Rattle.calls.proofs.Calls.{next_accepted, next_well_formed}
use Rattle.applied.specs.Examples.{silent, loud, call, Seen, lag}
use Rattle.applied.specs.Gains.{log_table, pow_table}
use Rattle.applied.specs.Refusals.{lowest}
use Rattle.applied.specs.Indexed.{index_sheet, out, tabled_call, tableless_call}
use Rattle.applied.specs.Erased.{erased_sheet, stage_7}
use Rattle.applied.specs.Retries.{loud_energies, loud_index, loud_index_call, voiced, loud_erased, loud_erased_call}
use Rattle.applied.specs.Held.{still_good, still_erased, changing_sheet, after_steady, after_missed, lowered_numbers, lowered}
use Rattle.applied.specs.Promised.{Facts, PitchFacts, FrameAccepted, standard, IndexAccepted, ErasedAccepted, OwnApplied, answered, IndexGainsApplied, SharpeningApplied, Told, AnswersApplied, NextApplied}
use Rattle.applied.proofs.Accepting.{SheetPasses, Opens, left_by, sharpenings_are}
use Rattle.applied.proofs.Concrete.{fits_by, words_by, numbers_well_formed}
use Rattle.applied.proofs.Examples.{example}
use Rattle.applied.proofs.Indexed.{indexed_values}
use Rattle.applied.proofs.Erased.{erased_values}
use Rattle.applied.proofs.Retries.{index_retries, erased_retries}
use Rattle.applied.proofs.Held.{opens, changing_passes, changing_fits, missed_passes, missed_fits, steady_opens, missed_opens, steady_left, missed_left, steady_is, missed_is}

-- ---- AcceptedExactly
module _ (kind : SheetKind) (sheet : List ℤ) (s : State) (room : ℕ) (h : is_accepted (call_outcome (kind_of kind) sheet s room) ≡ true) where
  kept : CallKept kind sheet s room
  kept = (accepted_exactly kind sheet s room).shown h

  facts : Facts (kind_of kind).count sheet s room
  facts =
      let k = kept in
      let c = k.state.concealment in
      record {
        count = k.count;
        lent = k.lent;
        first = (k.gaps.first, (k.lsfs 0 (lit< tt)).1);
        last = k.lsfs 9 (lit< tt);
        gaps = (k.gaps.later 0 (lit< tt), k.gaps.later 8 (lit< tt));
        sharpening = (k.state.from, k.state.to);
        gain = k.state.gain;
        fives = (c.gains.pitch_history, c.gains.code_history);
        past = (c.gains.past.pitch, c.gains.past.code);
        good = (c.gains.last_good.pitch, c.gains.last_good.code);
        mark = c.mark;
        lag = (c.from, c.to);
      }

pitch_facts : (sheet : List ℤ) → PitchIndices sheet → PitchFacts sheet
pitch_facts sheet k = record { a = k.a; b = k.b; c = k.c; d = k.d }

-- what is asked beside a kind's own, of sheets that begin with the lowest LSFs, on the state `silent`
lowest_passes : (rest : List ℤ) → is_accepted (first_met (lsf_checks (lowest ++ rest))) ≡ true
unfolding first_met first_outside first_close
lowest_passes rest = refl

is_enough : (kind : SheetKind) (rest : List ℤ) → length (lowest ++ rest) ≡ (kind_of kind).count → OwnKept kind (lowest ++ rest) → call_outcome (kind_of kind) (lowest ++ rest) silent 160 ≡ Ok tt
is_enough kind rest e own =
    let p = lowest_passes rest in
    let silent_kept = kept ErasedSheet (erased_sheet (pos 0)) silent 160 (ap is_accepted erased_values.accepted) in
    (accepted_exactly kind (lowest ++ rest) silent 160).enough
    (record { count = e; lent = refl; lsfs = lsfs_range (lowest ++ rest) p; gaps = gaps_accept (lowest ++ rest) p; own = own; state = silent_kept.state })

-- zeros are in any range from 0
zero_from : (n k : ℕ) → k < n → pos 0 ≤ℤ at (replicate n (pos 0)) k
zero_from n k l = rw (get_or-replicate n k (pos 0) (pos 0) l) (le_z_yes tt)

zero_to : (n k : ℕ) → k < n → at (replicate n (pos 0)) k ≤ℤ pos 127
zero_to n k l = rw (get_or-replicate n k (pos 0) (pos 0) l) (le_z_yes tt)

module _ (n : ℤ) (h : pos 0 ≤ℤ n) where
  module _ (l : n ≤ℤ pos 255) (g : ℤ) (f : pos 0 ≤ℤ g) where
    eight : (k : ℕ) → k < 8 → pos 0 ≤ℤ at (g ∷ replicate 7 (pos 0)) k
    eight zero l = f
    eight (suc k) l = zero_from 7 k (omega (arith, l))

    gains_from : GainsKept (lowest ++ (n ∷ pos 0 ∷ pos 0 ∷ pos 0 ∷ g ∷ replicate 167 (pos 0)))
    gains_from k l = rw (stretch_at (lowest ++ (n ∷ pos 0 ∷ pos 0 ∷ pos 0 ∷ g ∷ replicate 167 (pos 0))) 14 8 k l) (eight k l)

    frame_enough : call_outcome frame_kind (lowest ++ (n ∷ pos 0 ∷ pos 0 ∷ pos 0 ∷ g ∷ replicate 167 (pos 0))) silent 160 ≡ Ok tt
    frame_enough =
        is_enough FrameSheet (n ∷ pos 0 ∷ pos 0 ∷ pos 0 ∷ g ∷ replicate 167 (pos 0)) refl
        (record { a = (h, l); b = (le_z_yes tt, le_z_yes tt); c = (le_z_yes tt, le_z_yes tt); d = (le_z_yes tt, le_z_yes tt) }, gains_from)

  module _ (l : n ≤ℤ pos 127) where
    four : (k : ℕ) → k < 4 → (pos 0 ≤ℤ at (n ∷ replicate 3 (pos 0)) k) × (at (n ∷ replicate 3 (pos 0)) k ≤ℤ pos 127)
    four zero b = (h, l)
    four (suc k) b = (zero_from 3 k (omega (arith, b)), zero_to 3 k (omega (arith, b)))

    indices_in : GainIndices (lowest ++ (pos 0 ∷ pos 0 ∷ pos 0 ∷ pos 0 ∷ n ∷ replicate 163 (pos 0)))
    indices_in k b = rw (stretch_at (lowest ++ (pos 0 ∷ pos 0 ∷ pos 0 ∷ pos 0 ∷ n ∷ replicate 163 (pos 0))) 14 4 k b) (four k b)

    index_enough : call_outcome standard (lowest ++ (pos 0 ∷ pos 0 ∷ pos 0 ∷ pos 0 ∷ n ∷ replicate 163 (pos 0))) silent 160 ≡ Ok tt
    index_enough =
        let own = (kept (IndexSheet log_table pow_table) index_sheet silent 160 (ap is_accepted indexed_values.accepted)).own in
        is_enough (IndexSheet log_table pow_table) (pos 0 ∷ pos 0 ∷ pos 0 ∷ pos 0 ∷ n ∷ replicate 163 (pos 0)) refl
        (record { a = (le_z_yes tt, le_z_yes tt); b = (le_z_yes tt, le_z_yes tt); c = (le_z_yes tt, le_z_yes tt); d = (le_z_yes tt, le_z_yes tt) }, (own.1.0, (own.1.1.0, indices_in)))

pub frame_accepted : FrameAccepted
frame_accepted =
    record {
      facts = facts FrameSheet;
      pitch = λ sheet s room h. pitch_facts sheet (kept FrameSheet sheet s room h).own.0;
      gains = λ sheet s room h. let g = (kept FrameSheet sheet s room h).own.1 in (g 0 (lit< tt), g 7 (lit< tt));
      enough = λ n g h l f. frame_enough n h l g f;
    }

pub index_accepted : IndexAccepted
index_accepted =
    record {
      facts = facts (IndexSheet log_table pow_table);
      pitch = λ sheet s room h. pitch_facts sheet (kept (IndexSheet log_table pow_table) sheet s room h).own.0;
      indices = λ sheet s room h. let i = (kept (IndexSheet log_table pow_table) sheet s room h).own.1.1.1 in (i 0 (lit< tt), i 3 (lit< tt));
      tables =
          λ u v x y logs pows sheet s room h.
          let o = (kept (IndexSheet (u ∷ v ∷ logs) (x ∷ y ∷ pows)) sheet s room h).own in
          (omega (arith, o.1.0.count), omega (arith, o.1.1.0.count), (o.1.0.range 0 (lit< tt)).0, o.1.0.rises 0 (lit< tt), (o.1.0.range 1 (lit< tt)).1, o.1.1.0.rises 0 (lit< tt));
      enough = index_enough;
    }

pub erased_accepted : ErasedAccepted
erased_accepted =
    record {
      facts = facts ErasedSheet;
      stage = λ sheet s room h. (kept ErasedSheet sheet s room h).own;
      enough = λ stage innovation h l e. is_enough ErasedSheet (stage ∷ innovation) (omega (arith, e)) (h, l);
    }

-- ---- OwnGains
unmarked : silent.concealment.erased ≡ pos 0
unfolding silent state_of concealment_of
unmarked = refl

pub own_applied : OwnApplied
unfolding loud
own_applied =
    record { pitch = λ energies. (own_gains energies loud silent unmarked).pitch; code = λ energies. (own_gains energies loud silent unmarked).code }

-- ---- IndexCallGains, IndexEnergies
abbrev index_answer : ℕ → List ℤ → ℕ → GainAnswer
index_answer k energies q =
    let d = index_decoded log_table pow_table index_sheet k (lag 21 (pos 0)) (record { sharpening = record { 0 = pos q }; gain_decoder = record { energies = energies }; concealment = silent.concealment.gains }) in
    record { outcome = Ok tt; gains = d.gains; gain_decoder = d.gain_decoder }

first_computed : index_answer 0 opening_energies 0 ≡ answered 21318 32767 (pos 5816 ∷ minus 14336 ∷ minus 14336 ∷ minus 14336 ∷ [])
unfolding iter clamp asr wrap add sub mult shl l_add l_sub l_mult l_shl l_shr_r l_deposit_h doublings norm_l l_extract mpy_32_16 sharpened squares log2 pow2 gain_table gain_row predicted_gain code_gain decoded_gains index_sheet log_table pow_table
first_computed = refl

second_computed :
    index_answer 1 (pos 5816 ∷ minus 14336 ∷ minus 14336 ∷ minus 14336 ∷ []) 13017
    ≡ answered 10300 1413 (pos 12853 ∷ pos 5816 ∷ minus 14336 ∷ minus 14336 ∷ [])
unfolding iter clamp asr wrap add sub mult shl l_add l_sub l_mult l_shl l_shr_r l_deposit_h doublings norm_l l_extract mpy_32_16 sharpened squares log2 pow2 gain_table gain_row predicted_gain code_gain decoded_gains index_sheet log_table pow_table
second_computed = refl

energies_left_is : (trace_of silent tabled_call).energies ≡ (prepared standard opening_energies index_sheet silent).energies
unfolding call_trace
energies_left_is = rw indexed_values.accepted refl

pub index_gains_applied : IndexGainsApplied
unfolding index_sheet gain_table gain_row
index_gains_applied =
    let found = index_call_gains log_table pow_table index_sheet silent 160 (ap is_accepted indexed_values.accepted) in
    let gains = silent.concealment.gains in
    record {
      first = found 0 (lit< tt) (lag 21 (pos 0)) (record { sharpening = record { 0 = pos 0 }; gain_decoder = record { energies = opening_energies }; concealment = gains }) ∙ first_computed;
      second =
          found 1 (lit< tt) (lag 21 (pos 0)) (record { sharpening = record { 0 = pos 13017 }; gain_decoder = record { energies = pos 5816 ∷ minus 14336 ∷ minus 14336 ∷ minus 14336 ∷ [] }; concealment = gains })
          ∙ second_computed;
      any = λ lag m. ap (λ (a : GainAnswer). a.outcome) (found 3 (lit< tt) lag m);
      energies = λ logs pows energies s. index_energies logs pows energies index_sheet s;
      left = energies_left_is ∙ index_energies log_table pow_table opening_energies index_sheet silent;
    }

-- ---- SharpeningIsCore: the sharpenings before the core, computed
index_passes : SheetPasses standard index_sheet
unfolding index_sheet log_table pow_table first_met first_outside first_close is_table
index_passes = record { lengths = refl; lsfs = refl; own = refl }

index_fits : (k : ℕ) → SFits w16 (at index_sheet k)
unfolding index_sheet
index_fits = fits_by index_sheet refl

lowered_opens : Opens lowered
unfolding lowered state_of core_of post_of concealment_of state_outcome first_met first_outside
lowered_opens = record { formed = numbers_well_formed lowered_numbers (words_by lowered_numbers 213 refl refl); passes = refl }

frame_left : (q r : Q14) → left_by frame_kind [] changing_sheet q (missed_left r) ≡ pos 8000 ∷ pos 7000 ∷ pos 7000 ∷ pos 7000 ∷ []
unfolding silent still_good still_erased changing_sheet state_of core_of post_of concealment_of iter clamp asr add sub mult absolute lag_min relative concealed_lag average_energy inserted sorted updated concealed_gains good_gains prepared_after sharpening
frame_left q r = refl

erased_left : (q : Q14) → left_by erased_kind opening_energies still_erased q steady_left ≡ pos 7839 ∷ pos 7682 ∷ pos 7528 ∷ pos 7377 ∷ []
unfolding silent still_good still_erased state_of core_of post_of concealment_of iter clamp asr add sub mult absolute lag_min relative concealed_lag average_energy inserted sorted updated concealed_gains good_gains prepared_after sharpening
erased_left q = refl

index_left : left_by standard opening_energies index_sheet silent.core.sharpening silent.concealment ≡ pos 13017 ∷ pos 10300 ∷ pos 13017 ∷ pos 13017 ∷ []
unfolding silent index_sheet state_of core_of post_of concealment_of iter clamp asr add sub mult absolute lag_min relative gain_table gain_row decoded_gains updated good_gains sharpening
index_left = refl

held_left : left_by standard opening_energies index_sheet lowered.core.sharpening lowered.concealment ≡ pos 1000 ∷ pos 1000 ∷ pos 1000 ∷ pos 1000 ∷ []
unfolding lowered index_sheet state_of core_of post_of concealment_of iter clamp asr add sub mult absolute lag_min relative gain_table gain_row decoded_gains updated good_gains sharpening
held_left = refl

pub sharpening_applied : SharpeningApplied
sharpening_applied =
    record {
      opened = λ energies s. ap (λ (q : Q14). q.0) (sharpening_is_core FrameSheet energies [] s).opened;
      frame =
          sharpenings_are FrameSheet [] changing_sheet changing_passes changing_fits after_missed missed_opens
          ∙ ap (left_by frame_kind [] changing_sheet after_missed.core.sharpening) missed_is
          ∙ frame_left after_missed.core.sharpening after_steady.core.sharpening;
      index = sharpenings_are (IndexSheet log_table pow_table) opening_energies index_sheet index_passes index_fits silent opens ∙ index_left;
      held = sharpenings_are (IndexSheet log_table pow_table) opening_energies index_sheet index_passes index_fits lowered lowered_opens ∙ held_left;
      erased =
          sharpenings_are ErasedSheet opening_energies still_erased missed_passes missed_fits after_steady steady_opens
          ∙ ap (left_by erased_kind opening_energies still_erased after_steady.core.sharpening) steady_is
          ∙ erased_left after_steady.core.sharpening;
    }

-- ---- AnswersTraced
told : (r : EnergiesResult) (t : Trace) → r ≡ energies_result_of t → Told r t
told r t e =
    record {
      outcome = ap (λ (r : EnergiesResult). r.answer.frame.outcome) e;
      rows = ap (λ (r : EnergiesResult). r.answer.frame.rows) e;
      places = ap (λ (r : EnergiesResult). r.answer.frame.places) e;
      next = ap (λ (r : EnergiesResult). r.answer.frame.next) e;
      energies = ap (λ (r : EnergiesResult). r.answer.gain_decoder.energies) e;
      lent = ap (λ (r : EnergiesResult). r.lent) e;
    }

loud_accepted : call_outcome frame_kind loud silent 160 ≡ Ok tt
unfolding call_outcome first_met first_outside first_close loud silent state_of core_of post_of concealment_of
loud_accepted = refl

loud_outcome : (trace_of silent call).outcome ≡ Ok tt
unfolding call_trace
loud_outcome = rw loud_accepted refl

module _ (s : State) where
  tableless_outcome : (trace_of s tableless_call).outcome ≡ Err (Table 0)
  unfolding call_trace call_outcome first_met first_outside first_close is_table index_sheet
  tableless_outcome = refl

  tableless_energies : (trace_of s tableless_call).energies ≡ pos 1 ∷ pos 100000 ∷ []
  unfolding call_trace call_outcome first_met first_outside first_close is_table index_sheet
  tableless_energies = refl

  staged_outcome : (trace_of s stage_7).outcome ≡ Err Stage
  unfolding call_trace call_outcome first_met first_outside first_close erased_sheet
  staged_outcome = refl

  staged_energies : (trace_of s stage_7).energies ≡ pos 100000 ∷ []
  unfolding call_trace call_outcome first_met first_outside first_close erased_sheet
  staged_energies = refl

pub answers_applied : AnswersApplied
answers_applied =
    let frame = (answers_traced [] [] [] loud silent out).frame in
    let index = told _ (trace_of silent loud_index_call) (answers_traced log_table pow_table loud_energies loud_index silent out).index in
    let erased = told _ (trace_of voiced loud_erased_call) (answers_traced [] [] opening_energies loud_erased voiced out).erased in
    let tableless = λ (s : State). told _ (trace_of s tableless_call) (answers_traced [] [] (pos 1 ∷ pos 100000 ∷ []) index_sheet s out).index in
    let staged = λ (s : State). told _ (trace_of s stage_7) (answers_traced [] [] (pos 100000 ∷ []) (erased_sheet (pos 7)) s out).erased in
    record {
      outcome = ap (λ (r : CallResult). r.answer.outcome) frame ∙ loud_outcome;
      places = ap (λ (r : CallResult). r.answer.places) frame ∙ ap (λ (e : Seen). e.places) example.call;
      rows = ap (λ (r : CallResult). r.answer.rows) frame;
      next = ap (λ (r : CallResult). r.answer.next) frame;
      lent = ap (λ (r : CallResult). r.lent) frame;
      unread = λ energies s. ap (λ (r : CallResult). r.answer.outcome) (answers_traced [] [] energies [] s []).frame;
      index = index;
      index_places = index.places ∙ ap (λ (e : Seen). e.places) index_retries.call;
      index_energies = index.energies ∙ index_retries.energies;
      erased = erased;
      erased_places = erased.places ∙ ap (λ (e : Seen). e.places) erased_retries.call;
      erased_energies = erased.energies ∙ erased_retries.energies;
      tableless = tableless;
      tableless_outcome = λ s. (tableless s).outcome ∙ tableless_outcome s;
      tableless_energies = λ s. (tableless s).energies ∙ tableless_energies s;
      staged = staged;
      staged_outcome = λ s. (staged s).outcome ∙ staged_outcome s;
      staged_energies = λ s. (staged s).energies ∙ staged_energies s;
    }

-- ---- NextAccepted, NextWellFormed
not_frame : (logs pows : List ℤ) → IndexSheet logs pows ≡ FrameSheet → ⊥
not_frame logs pows e = cc

nor_erased : ErasedSheet ≡ FrameSheet → ⊥
nor_erased e = cc

pub next_applied : NextApplied
next_applied =
    record {
      index_accepted = next_accepted silent loud_index_call example.well_formed index_retries.list.accepted_call.accepts;
      erased_accepted = next_accepted voiced loud_erased_call erased_retries.well_formed erased_retries.list.accepted_call.accepts;
      index_formed = λ logs pows energies sheet lent. next_well_formed silent _ example.well_formed (λ e. absurd (not_frame logs pows e));
      erased_formed = λ energies sheet lent. next_well_formed voiced _ erased_retries.well_formed (λ e. absurd (nor_erased e));
    }
