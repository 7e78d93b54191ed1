-- The held frames of specs/Held.antt: that each is accepted on the state before it comes from its own sheet, and the gains are computed from the concealment before it.
use Rattle.std.proofs.Common.{ℕ, ◌≡◌, refl, ap, ◌∙◌, [], ◌∷◌, ◌++◌, pos, w16, SFits}
use Rattle.std.specs.Prelude.{Ok}
use Rattle.lists.specs.Lists.{minus, at, iter}
use Rattle.basicop.specs.declared.Q14.{Q14}
use Rattle.basicop.specs.Ops.{clamp, asr, wrap, add, sub, mult, shl, l_add, l_sub, l_mult, l_shl, l_shr_r, l_deposit_h, doublings, norm_l, l_extract, mpy_32_16}
use Rattle.pitch.specs.Lag.{absolute, lag_min, relative, concealed_lag}
use Rattle.excitation.specs.Excitation.{sharpened, sharpening}
use Rattle.energy.specs.Energy.{squares}
use Rattle.outcome.specs.Outcome.{is_accepted}
use Rattle.outcome.specs.Checks.{first_met, first_outside, first_close}
use Rattle.logarithm.specs.Log2.{log2}
use Rattle.logarithm.specs.Pow2.{pow2}
use Rattle.gain_table.specs.Rows.{gain_table, gain_row}
use Rattle.gain.specs.Gain.{predicted_gain, code_gain, decoded_gains, average_energy}
use Rattle.gain.specs.Call.{opening_energies}
use Rattle.gain.specs.Checks.{is_table}
use Rattle.gain_concealment.specs.Median.{inserted, sorted}
use Rattle.gain_concealment.specs.Concealment.{updated, concealed_gains, good_gains}
use Rattle.state.specs.declared.Concealment.{Concealment}
use Rattle.state.specs.Layout.{core_of, post_of, concealment_numbers, concealment_of, state_of}
use Rattle.kinds.specs.Kind.{FrameSheet, ErasedSheet, frame_kind, index_kind, erased_kind, call_outcome}
use Rattle.kinds.specs.Prepass.{prepared, prepared_after}
use Rattle.mr74.specs.Indexed.{decoded_sheet}
use Rattle.mr74.proofs.Indexed.{index_is_frame}
use Rattle.applied.specs.Examples.{silent, lag}
use Rattle.applied.specs.Gains.{log_table, pow_table}
use Rattle.applied.specs.Indexed.{index_sheet, out}
use Rattle.applied.specs.Erased.{subframe, subframes}
use Rattle.applied.specs.Held.{still_good, still_erased, changing_sheet, steady, after_steady, after_missed, after_changing, HeldGains, lowered, lowered_sheet, HeldIndex, LastLags}
use Rattle.applied.proofs.Accepting.{SheetPasses, Opens, comes_to, call_accepted, next_opens, next_concealment, conceals}
use Rattle.applied.proofs.Concrete.{fits_by}
use Rattle.applied.proofs.Examples.{example}

-- ---- each call is accepted where it comes
pub steady_passes : SheetPasses frame_kind steady.sheet
unfolding still_good first_met first_outside first_close
steady_passes = record { lengths = refl; lsfs = refl; own = refl }

pub missed_passes : SheetPasses erased_kind still_erased
unfolding still_erased first_met first_outside first_close
missed_passes = record { lengths = refl; lsfs = refl; own = refl }

pub changing_passes : SheetPasses frame_kind changing_sheet
unfolding changing_sheet still_good first_met first_outside first_close
changing_passes = record { lengths = refl; lsfs = refl; own = refl }

pub steady_fits : (k : ℕ) → SFits w16 (at steady.sheet k)
unfolding still_good
steady_fits = fits_by steady.sheet refl

pub missed_fits : (k : ℕ) → SFits w16 (at still_erased k)
unfolding still_erased
missed_fits = fits_by still_erased refl

pub changing_fits : (k : ℕ) → SFits w16 (at changing_sheet k)
unfolding changing_sheet still_good
changing_fits = fits_by changing_sheet refl

pub opens : Opens silent
opens = record { formed = example.well_formed; passes = example.state }

pub steady_opens : Opens after_steady
steady_opens = next_opens FrameSheet [] steady.sheet steady_passes steady_fits silent opens

pub missed_opens : Opens after_missed
missed_opens = next_opens ErasedSheet opening_energies still_erased missed_passes missed_fits after_steady steady_opens

-- ---- the concealments between them
abbrev pub steady_left : Concealment
steady_left = (comes_to frame_kind [] steady.sheet silent.core.sharpening silent.concealment).concealment

abbrev pub missed_left : Q14 → Concealment
missed_left sharpening = (comes_to erased_kind opening_energies still_erased sharpening steady_left).concealment

abbrev changing_left : Q14 → Q14 → Concealment
changing_left sharpening before = (comes_to frame_kind [] changing_sheet sharpening (missed_left before)).concealment

pub steady_is : after_steady.concealment ≡ steady_left
steady_is = next_concealment FrameSheet [] steady.sheet steady_passes steady_fits silent opens

pub missed_is : after_missed.concealment ≡ missed_left after_steady.core.sharpening
missed_is =
    next_concealment ErasedSheet opening_energies still_erased missed_passes missed_fits after_steady steady_opens
    ∙ conceals ErasedSheet opening_energies still_erased missed_passes missed_fits after_steady steady_opens steady_is

changing_is : after_changing.concealment ≡ changing_left after_missed.core.sharpening after_steady.core.sharpening
changing_is =
    next_concealment FrameSheet [] changing_sheet changing_passes changing_fits after_missed missed_opens
    ∙ conceals FrameSheet [] changing_sheet changing_passes changing_fits after_missed missed_opens missed_is

-- ---- computed, whatever the sharpening
missed_used : (q : Q14) → subframes (comes_to erased_kind opening_energies still_erased q steady_left) ≡ subframe 21 7839 293 ∷ subframe 22 7682 287 ∷ subframe 23 7528 281 ∷ subframe 24 7377 275 ∷ []
unfolding silent still_good still_erased state_of core_of post_of concealment_of iter clamp asr add sub mult absolute lag_min relative concealed_lag average_energy inserted sorted updated concealed_gains good_gains prepared_after
missed_used q = refl

missed_numbers : (q : Q14) →
    concealment_numbers (missed_left q)
    ≡ pos 24
    ∷ ((pos 8000 ∷ pos 7839 ∷ pos 7682 ∷ pos 7528 ∷ pos 7377 ∷ [])
    ++ ((pos 300 ∷ pos 293 ∷ pos 287 ∷ pos 281 ∷ pos 275 ∷ [])
    ++ (pos 7377 ∷ pos 275 ∷ pos 8000 ∷ pos 300 ∷ pos 1 ∷ [])))
unfolding silent still_good still_erased state_of core_of post_of concealment_of concealment_numbers iter clamp asr add sub mult absolute lag_min relative concealed_lag average_energy inserted sorted updated concealed_gains good_gains prepared_after
missed_numbers q = refl

changing_used : (r q : Q14) → subframes (comes_to frame_kind [] changing_sheet r (missed_left q)) ≡ subframe 20 8000 200 ∷ subframe 20 7000 200 ∷ subframe 20 7000 100 ∷ subframe 20 7000 50 ∷ []
unfolding silent still_good still_erased changing_sheet state_of core_of post_of concealment_of iter clamp asr add sub mult absolute lag_min relative concealed_lag average_energy inserted sorted updated concealed_gains good_gains prepared_after
changing_used r q = refl

changing_numbers : (r q : Q14) →
    concealment_numbers (changing_left r q)
    ≡ pos 20
    ∷ ((pos 7377 ∷ pos 8000 ∷ pos 7000 ∷ pos 7000 ∷ pos 7000 ∷ [])
    ++ ((pos 275 ∷ pos 200 ∷ pos 200 ∷ pos 100 ∷ pos 50 ∷ [])
    ++ (pos 7000 ∷ pos 50 ∷ pos 7000 ∷ pos 50 ∷ pos 0 ∷ [])))
unfolding silent still_good still_erased changing_sheet state_of core_of post_of concealment_of concealment_numbers iter clamp asr add sub mult absolute lag_min relative concealed_lag average_energy inserted sorted updated concealed_gains good_gains prepared_after
changing_numbers r q = refl

own_used : (t r q : Q14) → subframes (comes_to frame_kind [] changing_sheet t (changing_left r q)) ≡ subframe 20 9000 200 ∷ subframe 20 7000 400 ∷ subframe 20 9000 100 ∷ subframe 20 8000 50 ∷ []
unfolding silent still_good still_erased changing_sheet state_of core_of post_of concealment_of iter clamp asr add sub mult absolute lag_min relative concealed_lag average_energy inserted sorted updated concealed_gains good_gains prepared_after
own_used t r q = refl

pub held_gains : HeldGains
held_gains =
    record {
      steady_accepted = call_accepted FrameSheet [] steady.sheet steady_passes steady_fits silent opens;
      missed_accepted = call_accepted ErasedSheet opening_energies still_erased missed_passes missed_fits after_steady steady_opens;
      changing_accepted = call_accepted FrameSheet [] changing_sheet changing_passes changing_fits after_missed missed_opens;
      missed_subframes = ap (λ (c : Concealment). subframes (comes_to erased_kind opening_energies still_erased after_steady.core.sharpening c)) steady_is ∙ missed_used _;
      missed_fields = ap (λ (c : Concealment). concealment_numbers c) missed_is ∙ missed_numbers _;
      held = ap (λ (c : Concealment). subframes (comes_to frame_kind [] changing_sheet after_missed.core.sharpening c)) missed_is ∙ changing_used _ _;
      held_fields = ap (λ (c : Concealment). concealment_numbers c) changing_is ∙ changing_numbers _ _;
      own = ap (λ (c : Concealment). subframes (comes_to frame_kind [] changing_sheet after_changing.core.sharpening c)) changing_is ∙ own_used _ _ _;
    }

-- ---- the index frame, and the last lags
record Lowered : Type 0 where
  accepted : call_outcome (index_kind log_table pow_table) index_sheet lowered 160 ≡ Ok tt
  decoded : decoded_sheet log_table pow_table opening_energies index_sheet lowered ≡ lowered_sheet
  held :
      subframes (prepared (index_kind log_table pow_table) opening_energies index_sheet lowered)
      ≡ record { lag = lag 21 (minus 1); pitch = pos 1000; code = pos 32767 }
      ∷ record { lag = lag 21 (pos 1); pitch = pos 1000; code = pos 1802 }
      ∷ record { lag = lag 25 (pos 1); pitch = pos 1000; code = pos 1802 }
      ∷ record { lag = lag 27 (minus 1); pitch = pos 1000; code = pos 1802 }
      ∷ []
  energies : (prepared (index_kind log_table pow_table) opening_energies index_sheet lowered).energies ≡ pos 9221 ∷ pos 7413 ∷ pos 12853 ∷ pos 5816 ∷ []

computed : Lowered
unfolding iter clamp asr wrap add sub mult shl l_add l_sub l_mult l_shl l_shr_r l_deposit_h doublings norm_l l_extract mpy_32_16 absolute lag_min relative sharpened sharpening squares log2 pow2 gain_table gain_row predicted_gain code_gain decoded_gains is_table state_of core_of post_of concealment_of updated good_gains prepared_after first_met first_outside first_close call_outcome lowered lowered_sheet index_sheet log_table pow_table
computed = record { accepted = refl; decoded = refl; held = refl; energies = refl }

-- the frame itself stays shut
pub held_index : HeldIndex
held_index =
    let same = index_is_frame log_table pow_table opening_energies index_sheet lowered out (ap is_accepted computed.accepted) in
    record {
      accepted = computed.accepted;
      decoded = computed.decoded;
      held = computed.held;
      frame_accepted = rw computed.decoded at same.accepted;
      trace = rw computed.decoded at same.trace;
      energies = computed.energies;
    }

pub last_lags : LastLags
unfolding iter clamp asr add sub mult concealed_lag average_energy inserted sorted updated concealed_gains prepared_after state_of core_of post_of concealment_of first_met first_outside first_close call_outcome still_erased
last_lags = record { accepted = refl; from_141 = refl; from_143 = refl; from_144 = refl; last_143 = refl; last_144 = refl }
