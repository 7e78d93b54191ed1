-- One call, of any kind: what it gives, and what it keeps.
use Rattle.std.proofs.Common.{◌≡◌, refl, sym, ap, ◌∙◌, subst, Bool, true, false, length, get_or}
use lib.ListN.{length-map}
use Rattle.lists.specs.Lists.{Every}
use Rattle.basicop.specs.Words.{Words}
use Rattle.decoder.specs.Subframe.{flag_of}
use Rattle.decoder.proofs.Retry.{Small}
use Rattle.state.specs.declared.State.{State}
use Rattle.std.specs.Prelude.{Ok}
use Rattle.outcome.specs.Outcome.{Outcome, is_accepted}
use Rattle.state.specs.State.{SignalFormed, ConcealmentFormed, WellFormed, state_outcome}
use Rattle.state.proofs.Checks.{InRange, in_range, in_range_accepted}
use Rattle.kinds.specs.Kind.{kind_of, call_outcome}
use Rattle.kinds.specs.Prepass.{PreparedFrame, prepared}
use Rattle.kinds.proofs.Passed.{passed}
use Rattle.kinds.proofs.Usable.{UsablePrepared, usable}
use Rattle.kinds.proofs.Formed.{formed}
use Rattle.mr74.specs.Frame.{Trace, core_result_of, accepted_trace, refused_trace, call_trace}
use Rattle.calls.specs.Calls.{Call, trace_of, next_state, accepted, NextAccepted, SheetFits, NextWellFormed}
use Rattle.calls.proofs.Frames.{NextFacts, FrameFacts, frame_facts}

-- by cases
pub decided : {P : Type 0} (b : Bool) → (b ≡ true → P) → (b ≡ false → P) → P
decided true f g = f refl
decided false f g = g refl

-- ---- an accepted call: its trace is that of usable inputs, the state's checks let its state pass, and its concealment stays one of 16 bits
pub record Accepts (s : State) (c : Call) : Type 0 where
  pub outcome : Outcome
  pub frame : PreparedFrame
  pub usable : UsablePrepared frame
  pub state : InRange s
  pub trace : trace_of s c ≡ accepted_trace outcome frame s
  pub formed : ConcealmentFormed s.concealment → SheetFits c → ConcealmentFormed frame.concealment

-- a refused one gives the state back, and has no subframe
pub record Refuses (s : State) (c : Call) : Type 0 where
  pub outcome : Outcome
  pub trace : trace_of s c ≡ refused_trace outcome c.energies s c.out

module _ (s : State) (c : Call) where
  abbrev o : Outcome
  o = call_outcome (kind_of c.kind) c.sheet s (length c.out)

  by_accepted : is_accepted o ≡ true → trace_of s c ≡ accepted_trace o (prepared (kind_of c.kind) c.energies c.sheet s) s
  unfolding call_trace
  by_accepted e = rw e refl

  by_refused : is_accepted o ≡ false → trace_of s c ≡ refused_trace o c.energies s c.out
  unfolding call_trace
  by_refused e = rw e refl

  -- a trace is accepted exactly when no check turns the call back
  accepted_is : accepted (trace_of s c) ≡ is_accepted o
  accepted_is = decided (is_accepted o) (λ e. ap accepted (by_accepted e)) (λ e. ap accepted (by_refused e))

  pub accepts : accepted (trace_of s c) ≡ true → Accepts s c
  accepts e =
      let a = sym accepted_is ∙ e in
      record {
        outcome = o;
        frame = prepared (kind_of c.kind) c.energies c.sheet s;
        usable = usable c.kind c.energies c.sheet s (length c.out) a;
        state = in_range s (passed c.kind c.sheet s (length c.out) a).state;
        trace = by_accepted a;
        formed = λ w h. formed c.kind c.energies c.sheet s (length c.out) a h w;
      }

  pub refuses : accepted (trace_of s c) ≡ false → Refuses s c
  refuses e = record { outcome = o; trace = by_refused (sym accepted_is ∙ e) }

pub next_refused : (s : State) (c : Call) → accepted (trace_of s c) ≡ false → next_state s c ≡ s
next_refused s c e = ap (λ (t : Trace). t.next) (refuses s c e).trace

-- ---- what an accepted call leaves, from a well-formed state
-- all 154 past excitations in -8192..=8191
abbrev pub SmallPast : State → Type 0
SmallPast s = (length s.core.past ≡ 154) × Every Small s.core.past

module _ (s : State) (c : Call) (w : SignalFormed s) (e : accepted (trace_of s c) ≡ true) where
  result : FrameFacts (accepts s c e).frame s
  result = let a = accepts s c e in frame_facts a.frame s a.usable w a.state

  -- 160 samples of 16 bits, and four places
  pub accepted_samples : Words 160 (trace_of s c).output
  accepted_samples = subst (λ (t : Trace). Words 160 t.output) (sym (accepts s c e).trace) result.samples

  pub accepted_places : length (trace_of s c).places ≡ 4
  accepted_places = subst (λ (t : Trace). length t.places ≡ 4) (sym (accepts s c e).trace) (length-map (core_result_of (accepts s c e).frame.inputs s).subframes _ ∙ result.core.four)

  pub next_facts : NextFacts (next_state s c)
  next_facts = subst (λ (t : Trace). NextFacts t.next) (sym (accepts s c e).trace) result.next

  -- the state's checks accept it
  pub next_passes : state_outcome (next_state s c) ≡ Ok tt
  next_passes = in_range_accepted (next_state s c) next_facts.passes

  -- after a retried last subframe
  pub next_small : flag_of (get_or (trace_of s c).places 3 40) ≡ true → SmallPast (next_state s c)
  next_small =
      subst (λ (t : Trace). flag_of (get_or t.places 3 40) ≡ true → SmallPast t.next) (sym (accepts s c e).trace)
      (λ f. (result.next.formed.past.count, result.core.small f))

pub next_accepted : NextAccepted
next_accepted s c w e = next_passes s c w.signal e

-- what goes from call to call of any sheets, and what of sheets of 16-bit numbers
pub next_formed : (s : State) (c : Call) → SignalFormed s → SignalFormed (next_state s c)
next_formed s c w = decided (accepted (trace_of s c)) (λ e. (next_facts s c w e).formed) (λ e. subst SignalFormed (sym (next_refused s c e)) w)

pub next_well_formed : NextWellFormed
next_well_formed s c w h =
    decided (accepted (trace_of s c))
    (λ e.
    let a = accepts s c e in
    record { signal = next_formed s c w.signal; concealment = subst (λ (t : Trace). ConcealmentFormed t.next.concealment) (sym a.trace) (a.formed w.concealment h) })
    (λ e. subst WellFormed (sym (next_refused s c e)) w)
