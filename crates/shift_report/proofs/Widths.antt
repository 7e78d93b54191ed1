-- The widths of the totals of a list of calls from a well-formed state, by the count of calls.
use Rattle.std.proofs.Common.{◌≤◌, sym, subst, List, [], ◌∷◌, arith}
use Rattle.state.specs.declared.State.{State}
use Rattle.state.specs.State.{SignalFormed}
use Rattle.calls.specs.Calls.{Call, trace_of, next_state, run_calls, accepted}
use Rattle.calls.proofs.Calls.{accepted_samples, accepted_places, next_formed}
use Rattle.calls.proofs.Lists.{run_length}
use Rattle.shift_report.specs.Totals.{totals_of}
use Rattle.shift_report.specs.Steps.{sheets_counted, Bounded, TotalsBounded, TotalsWithin}
use Rattle.shift_report.proofs.Plus.{totals_append, counts}
use Rattle.shift_report.proofs.Shares.{one_share}
use Rattle.shift_report.proofs.Bounds.{share_bounded, bounded_zeros, bounded_plus}

one_bounded : (s : State) (c : Call) → SignalFormed s → Bounded (totals_of (trace_of s c ∷ []))
one_bounded s c w =
    let t = trace_of s c in
    subst Bounded (sym (one_share t)) (share_bounded (accepted t) t.places t.output (λ e. (accepted_places s c w e, accepted_samples s c w e)))

list_bounded : (s : State) (cs : List Call) → SignalFormed s → Bounded (totals_of (run_calls s cs))
unfolding run_calls
list_bounded s [] w = bounded_zeros
list_bounded s (c ∷ cs) w =
    let ts = run_calls (next_state s c) cs in
    subst Bounded (sym (totals_append (trace_of s c ∷ []) ts)) (bounded_plus (totals_of (trace_of s c ∷ [])) (totals_of ts) (one_bounded s c w) (list_bounded (next_state s c) cs (next_formed s c w)))

pub totals_bounded : TotalsBounded
totals_bounded s cs w = list_bounded s cs w.signal

pub totals_within : TotalsWithin
totals_within s cs w l =
    let b = totals_bounded s cs w in
    let n : sheets_counted (totals_of (run_calls s cs)) ≤ 65535 = omega (arith, counts (run_calls s cs), run_length s cs, l) in
    (omega (arith, b.squares, n), omega (arith, b.peaks, n))
