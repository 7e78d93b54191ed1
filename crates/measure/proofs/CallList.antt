-- Every list of calls is as measured: the claim of specs/CallList.antt.
use Rattle.std.proofs.Common.{sym, subst, true≢false, List, [], ◌∷◌, pos}
use lib.Signed.{le_z_yes}
use Rattle.basicop.proofs.Ints.{≤ℤ_trans}
use Rattle.state.specs.declared.State.{State}
use Rattle.state.specs.State.{SignalFormed, WellFormed}
use Rattle.calls.specs.Calls.{Call, next_state}
use Rattle.calls.proofs.Calls.{next_facts, next_formed}
use Rattle.calls.proofs.Lists.{once, latest}
use Rattle.measure.specs.Machine.{Machine}
use Rattle.measure.specs.CallList.{In, opening, EachCall, ListAsMeasured, EveryListAsMeasured}
use Rattle.measure.proofs.Calls.{call_in, call_refused, next_machine}

-- in each call
each : (cs : List Call) (s : State) → SignalFormed s → EachCall s (opening s) cs
each [] s w = tt
each (c ∷ cs) s w =
    (call_in s c w, (call_refused s c (opening s), subst (λ (m : Machine). EachCall (next_state s c) m cs) (sym (next_machine s c w)) (each cs (next_state s c) (next_formed s c w))))

-- it needs no accepted state: from one that is turned back no call is accepted
pub list_as_measured : (s : State) → WellFormed s → (cs : List Call) → ListAsMeasured s cs
list_as_measured s w cs =
    record {
      sharpening = once (λ (t : State). In (pos 0) (pos 13017) t.core.sharpening.0) (λ s c w e. let k = (next_facts s c w e).passes in (k.from, k.to)) cs s w.signal;
      gain = once (λ (t : State). In (pos 0) (pos 32765) t.post.gain.previous_gain) (λ s c w e. let l = next_facts s c w e in (l.passes.gain, ≤ℤ_trans l.gain (le_z_yes tt))) cs s w.signal;
      past = latest cs s 40 w.signal (λ e. absurd (true≢false (sym e)));
      calls = each cs s w.signal;
    }

pub every_list_as_measured : EveryListAsMeasured
every_list_as_measured s w a cs = list_as_measured s w cs
