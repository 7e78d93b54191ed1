-- `read_back`, `same_outcome`, `same_rest`, `record_back` and `read_formed` at concrete records: the reader stays shut, and its premises are computed from
-- the state or from the bytes; and `in_range` and its converse at states of any sharpening, gains, lag and mark.
use Rattle.std.proofs.Common.{◌≡◌, refl, sym, ap, ◌∙◌, true, List, [], ◌∷◌, ◌++◌, ℕ, zero, suc, ℤ, pos, take, replicate, ◌≤ℤ◌}
use lib.Signed.{le_z_yes}
use Rattle.lists.specs.Lists.{minus, Every}
use Rattle.basicop.specs.Words.{Words}
use Rattle.std.specs.Prelude.{Ok, Err}
use Rattle.outcome.specs.declared.Refusal.TheVariants.{Sharpening, SmoothedGain, GainField, LastLag}
use Rattle.outcome.specs.Outcome.{is_accepted}
use Rattle.outcome.specs.Checks.{first_met, first_outside}
use Rattle.state.specs.declared.State.{State}
use Rattle.state.specs.State.{WellFormed, state_outcome}
use Rattle.state.proofs.Checks.{in_range, in_range_accepted}
use Rattle.state.specs.Layout.{core_numbers, core_of, post_numbers, post_of, concealment_numbers, concealment_of, numbers_of, state_of}
use Rattle.coding.specs.Body.{missing}
use Rattle.coding.specs.Bytes.{bytes_of, Bytes}
use Rattle.record.specs.Record.{ReadResult, first, versions, trailer_of, trailer_bytes, read_result, version_of, read_call, encoded}
use Rattle.record.specs.Handover.{rest_by}
use Rattle.record.proofs.Handover.{read_back, same_outcome, first_read, first_outcome, same_rest, record_back, written_back, read_formed}
use Rattle.calls.specs.Calls.{state_after}
use Rattle.applied.specs.Examples.{silent, calls}
use Rattle.applied.specs.Handover.{silent_record, note, Read, ReadApplied, signal_with, state_with, losing_numbers, state_losing, TurnedBack, first_record, FirstApplied, RestApplied, BackApplied, AcceptedApplied}
use Rattle.applied.specs.Listing.{zero_record}
use Rattle.applied.proofs.Concrete.{all_fit, words_by, numbers_well_formed, bytes_by}
use Rattle.applied.proofs.Examples.{example}
use Rattle.applied.proofs.Calls.{calls_applied}

-- ---- read_back
written : encoded silent ≡ silent_record
unfolding encoded bytes_of numbers_of core_numbers post_numbers concealment_numbers silent state_of core_of post_of concealment_of silent_record
written = refl

module _ (s : State) (w : WellFormed s) (a : state_outcome s ≡ Ok tt) (n : List ℕ) where
  read_of : Read (n ++ encoded s) s n
  read_of =
      let e = read_back s w a n in
      record {
        outcome = ap (λ (r : ReadResult). r.answer.outcome) e;
        state = ap (λ (r : ReadResult). r.answer.state) e;
        note = ap (λ (r : ReadResult). r.note) e;
      }

bare : Read silent_record silent []
bare = rw written at (read_of silent example.well_formed example.state [])

noted : Read (note ++ silent_record) silent note
noted = rw written at (read_of silent example.well_formed example.state note)

pub read_applied : ReadApplied
read_applied =
    record {
      written = written;
      bare = bare;
      noted = noted;
      later = read_of (state_after silent calls) calls_applied.list_well_formed calls_applied.list_accepted note;
    }

-- ---- same_outcome
turned : (numbers : List ℤ) → Words 213 numbers → (n : List ℕ) → (read_call (n ++ encoded (state_of numbers))).answer.outcome ≡ state_outcome (state_of numbers)
turned numbers f n = same_outcome (state_of numbers) (numbers_well_formed numbers f) n

with_signal : (x g : ℤ) → all_fit (signal_with x g ++ missing) ≡ true → (n : List ℕ) → (read_call (n ++ encoded (state_with x g))).answer.outcome ≡ state_outcome (state_with x g)
unfolding state_with
with_signal x g e n = turned (signal_with x g ++ missing) (words_by _ 213 refl e) n

losing : (lag pitch code mark : ℤ) → all_fit (losing_numbers lag pitch code mark) ≡ true → (n : List ℕ)
    → (read_call (n ++ encoded (state_losing lag pitch code mark))).answer.outcome ≡ state_outcome (state_losing lag pitch code mark)
unfolding state_losing
losing lag pitch code mark e n = turned (losing_numbers lag pitch code mark) (words_by _ 213 refl e) n

-- what the state's checks come to
record Outcomes : Type 0 where
  sharp : state_outcome (state_with (pos 13018) (pos 0)) ≡ Err Sharpening
  low : state_outcome (state_with (pos 13017) (minus 1)) ≡ Err SmoothedGain
  two : state_outcome (state_with (minus 1) (minus 1)) ≡ Err Sharpening
  both : state_outcome (state_with (pos 13018) (minus 1)) ≡ Err Sharpening
  none : state_outcome (state_with (pos 13017) (pos 32767)) ≡ Ok tt
  good : state_outcome (state_losing (pos 145) (pos 0) (minus 1) (pos 2)) ≡ Err (GainField 211)
  mark : state_outcome (state_losing (pos 145) (pos 0) (pos 0) (pos 2)) ≡ Err (GainField 212)
  lag : state_outcome (state_losing (pos 145) (pos 0) (pos 0) (pos 1)) ≡ Err LastLag
  lost : state_outcome (state_losing (pos 144) (pos 32767) (pos 32767) (pos 1)) ≡ Ok tt

outcomes : Outcomes
unfolding state_with state_losing state_of core_of post_of concealment_of state_outcome first_met first_outside
outcomes = record { sharp = refl; low = refl; two = refl; both = refl; none = refl; good = refl; mark = refl; lag = refl; lost = refl }

pub turned_back : TurnedBack
turned_back =
    record {
      sharpening = with_signal (pos 13018) (pos 0) refl note ∙ outcomes.sharp;
      gain = with_signal (pos 13017) (minus 1) refl [] ∙ outcomes.low;
      both = with_signal (minus 1) (minus 1) refl [] ∙ outcomes.two;
      neither = with_signal (pos 13017) (pos 32767) refl note ∙ outcomes.none;
      good = losing (pos 145) (pos 0) (minus 1) (pos 2) refl [] ∙ outcomes.good;
      mark = losing (pos 145) (pos 0) (pos 0) (pos 2) refl note ∙ outcomes.mark;
      lag = losing (pos 145) (pos 0) (pos 0) (pos 1) refl [] ∙ outcomes.lag;
      lost = losing (pos 144) (pos 32767) (pos 32767) (pos 1) refl note ∙ outcomes.lost;
    }

-- ---- first_read, first_outcome
zeros_are : first_record (pos 0) (pos 0) ≡ zero_record
unfolding first_record bytes_of
zeros_are = refl

as_first : (x g : ℤ) → first_record x g ≡ bytes_of (signal_with x g) ++ trailer_bytes first
unfolding first_record bytes_of
as_first x g = refl

first_of : (n : List ℕ) → Read (n ++ zero_record) silent n
unfolding silent
first_of n =
    let e = first_read (signal_with (pos 0) (pos 0)) (words_by _ 197 refl refl) example.state n in
    let f : read_call (n ++ zero_record) ≡ read_result (record { outcome = Ok tt; state = silent }) n =
    ap (λ (b : List ℕ). read_call (n ++ b)) (sym zeros_are ∙ as_first (pos 0) (pos 0)) ∙ e in
    record {
      outcome = ap (λ (r : ReadResult). r.answer.outcome) f;
      state = ap (λ (r : ReadResult). r.answer.state) f;
      note = ap (λ (r : ReadResult). r.note) f;
    }

pub first_applied : FirstApplied
unfolding state_with
first_applied =
    record {
      zeros = zeros_are;
      bare = first_of [];
      noted = first_of note;
      sharpening =
          ap (λ (b : List ℕ). (read_call (note ++ b)).answer.outcome) (as_first (pos 13018) (minus 1))
          ∙ first_outcome (signal_with (pos 13018) (minus 1)) (words_by _ 197 refl refl) note
          ∙ outcomes.both;
    }

-- ---- same_rest
rest_bytes : Bytes silent_record
unfolding silent_record
rest_bytes = bytes_by silent_record refl

noted_bytes : Bytes (note ++ silent_record)
unfolding silent_record
noted_bytes = bytes_by (note ++ silent_record) refl

versions_same : version_of (note ++ silent_record) ≡ version_of silent_record
unfolding silent_record
versions_same = refl

pub rest_applied : RestApplied
rest_applied =
    same_rest (note ++ silent_record) silent_record noted_bytes rest_bytes
    (ap is_accepted noted.outcome)
    (ap is_accepted bare.outcome)
    versions_same
    (noted.state ∙ sym bare.state)

-- ---- record_back, written_back, read_formed
first_bytes : Bytes (note ++ zero_record)
first_bytes = bytes_by (note ++ zero_record) refl

as_written : version_of (note ++ silent_record) ≡ 2
unfolding silent_record
as_written = refl

as_one : version_of (note ++ zero_record) ≡ 1
as_one = refl

first_trailer : trailer_bytes first ≡ 0x4D ∷ 0x37 ∷ 1 ∷ 0 ∷ 0x8A ∷ 1 ∷ 0xC5 ∷ 0 ∷ []
unfolding bytes_of
first_trailer = refl

pub back_applied : BackApplied
back_applied =
    let y = ap is_accepted (first_of note).outcome in
    let f = read_formed (note ++ zero_record) first_bytes y in
    let r = read_call (note ++ zero_record) in
    record {
      written = written_back (note ++ silent_record) noted_bytes (ap is_accepted noted.outcome) as_written;
      first =
          ap (λ (t : List ℕ). r.note ++ (bytes_of (take 197 (numbers_of r.answer.state)) ++ t)) (sym first_trailer)
          ∙ ap (λ (v : ℕ). r.note ++ rest_by (trailer_of v versions) r.answer.state) (sym as_one)
          ∙ record_back (note ++ zero_record) first_bytes y;
      formed = f.0;
      accepted = f.1;
    }

-- ---- in_range, in_range_accepted
-- what is 0 everywhere else
zeros_from : (n : ℕ) → Every (λ (g : ℤ). pos 0 ≤ℤ g) (replicate n (pos 0))
zeros_from zero = tt
zeros_from (suc n) = (le_z_yes tt, zeros_from n)

pub accepted_applied : AcceptedApplied
unfolding state_with state_losing state_of core_of post_of concealment_of state_outcome
accepted_applied =
    record {
      signal = λ x g h. let k = in_range (state_with x g) h in (k.from, (k.to, k.gain));
      signal_so = λ x g p q r. in_range_accepted (state_with x g) (record {
        from = p;
        to = q;
        gain = r;
        concealment = record {
          gains = record {
            pitch_history = zeros_from 5;
            code_history = zeros_from 5;
            past = record { pitch = le_z_yes tt; code = le_z_yes tt };
            last_good = record { pitch = le_z_yes tt; code = le_z_yes tt };
          };
          mark = (le_z_yes tt, le_z_yes tt);
          from = le_z_yes tt;
          to = le_z_yes tt;
        };
      });
      losing = λ lag p c m h.
          let k = (in_range (state_losing lag p c m) h).concealment in
          (k.from, (k.to, (k.gains.last_good.pitch, (k.gains.last_good.code, k.mark))));
      losing_so = λ lag p c m a b d e f g. in_range_accepted (state_losing lag p c m) (record {
        from = le_z_yes tt;
        to = le_z_yes tt;
        gain = le_z_yes tt;
        concealment = record {
          gains = record {
            pitch_history = zeros_from 5;
            code_history = zeros_from 5;
            past = record { pitch = le_z_yes tt; code = le_z_yes tt };
            last_good = record { pitch = d; code = e };
          };
          mark = (f, g);
          from = a;
          to = b;
        };
      });
    }
