-- One call beside the machine of whole numbers.
use Rattle.std.proofs.Common.{ℕ, ◌≤◌, ◌≡◌, refl, sym, subst, true, false, lit≤, pos}
use Rattle.lists.proofs.Entries.{every_map}
use Rattle.basicop.specs.Ops.{Quotient}
use Rattle.basicop.specs.Divided.{Divides}
use Rattle.basicop.proofs.Ints.{arith_ℤ}
use Rattle.state.specs.declared.State.{State}
use Rattle.outcome.specs.Outcome.{Outcome}
use Rattle.state.specs.State.{SignalFormed}
use Rattle.state.proofs.Checks.{InRange}
use Rattle.kinds.specs.Prepass.{PreparedFrame}
use Rattle.mr74.specs.Frame.{Trace, accepted_trace}
use Rattle.kinds.proofs.Usable.{UsablePrepared}
use Rattle.calls.specs.Calls.{Call, trace_of, next_state, accepted}
use Rattle.calls.proofs.Frames.{held, frame_facts, frame_divisors}
use Rattle.calls.proofs.Calls.{decided, accepts, refuses}
use Rattle.measure.specs.Machine.{Machine, machine_after_subframes}
use Rattle.measure.specs.CallList.{opening, machine_after_call, AcceptedCall, RefusedCall}
use Rattle.measure.proofs.Machine.{core_beside, core_machine}

not_zero : (n : ℕ) → 1 ≤ n → (q : Quotient) → Divides n q → ¬ (q.divisor ≡ pos 0)
not_zero n h q d e = omega (arith_ℤ, d.from, e)

-- the frame that a usable sheet comes to
frame_in : (p : PreparedFrame) (s : State) → UsablePrepared p → SignalFormed s → InRange s → (o : Outcome) → AcceptedCall (accepted_trace o p s) (opening s)
frame_in p s u w k o =
    let r = frame_facts p s u w k in
    let h = held p s u w k in
    record {
      tilts = (r.post.tilts, r.post.range);
      divisors = every_map (not_zero 512 (lit≤ tt)) (accepted_trace o p s).quotients (frame_divisors p s u w k o);
      four = r.core.four;
      places = refl;
      rows = r.core.rows;
      subframes = core_beside s.core p.inputs u.inputs h;
      next = sym (core_machine s.core p.inputs u.inputs h);
    }

pub call_refused : (s : State) (c : Call) (m : Machine) → accepted (trace_of s c) ≡ false → RefusedCall s (trace_of s c) m
unfolding machine_after_subframes
call_refused s c m e = subst (λ (t : Trace). RefusedCall s t m) (sym (refuses s c e).trace) (record { none = refl; no_tilt = refl; no_quotient = refl; machine = refl; state = refl })

module _ (s : State) (c : Call) (w : SignalFormed s) where
  -- an accepted call, as measured
  pub call_in : accepted (trace_of s c) ≡ true → AcceptedCall (trace_of s c) (opening s)
  call_in e = let a = accepts s c e in subst (λ (t : Trace). AcceptedCall t (opening s)) (sym a.trace) (frame_in a.frame s a.usable w a.state a.outcome)

  -- the machine goes on with the history and the past of the state given back
  pub next_machine : machine_after_call (opening s) (trace_of s c) ≡ opening (next_state s c)
  unfolding machine_after_subframes
  next_machine =
      decided (accepted (trace_of s c))
      (λ e. sym (call_in e).next)
      (λ e. subst (λ (t : Trace). machine_after_call (opening s) t ≡ opening t.next) (sym (refuses s c e).trace) refl)
