-- Lists of calls.
use Rattle.std.proofs.Common.{◌≡◌, refl, sym, ap, ◌∙◌, subst, Bool, true, cond, ◌||◌, true≢false, List, [], ◌∷◌, ◌++◌, ℕ, suc, length, get_or}
use Rattle.decoder.specs.Subframe.{flag_of}
use Rattle.state.specs.declared.State.{State}
use Rattle.std.specs.Prelude.{Ok}
use Rattle.lists.specs.Lists.{Every}
use Rattle.state.specs.State.{SignalFormed, WellFormed, state_outcome}
use Rattle.mr74.specs.Frame.{Trace}
use Rattle.calls.specs.Calls.{Call, trace_of, next_state, run_calls, state_after, accepted, any_accepted, latest_place, SheetFits}
use Rattle.calls.proofs.Calls.{decided, next_refused, next_formed, next_passes, next_well_formed, SmallPast, next_small}

-- ---- one list after another
pub after_append : (cs ds : List Call) (s : State) → state_after s (cs ++ ds) ≡ state_after (state_after s cs) ds
unfolding state_after
after_append [] ds s = refl
after_append (c ∷ cs) ds s = after_append cs ds (next_state s c)

pub run_append : (cs ds : List Call) (s : State) → run_calls s (cs ++ ds) ≡ run_calls s cs ++ run_calls (state_after s cs) ds
unfolding state_after run_calls
run_append [] ds s = refl
run_append (c ∷ cs) ds s = ap (λ (ts : List Trace). trace_of s c ∷ ts) (run_append cs ds (next_state s c))

-- a trace for each call
pub run_length : (s : State) (cs : List Call) → length (run_calls s cs) ≡ length cs
unfolding run_calls
run_length s [] = refl
run_length s (c ∷ cs) = ap suc (run_length (next_state s c) cs)

-- ---- what every accepted call brings about
module _ (P : State → Type 0) (after : (s : State) (c : Call) → SignalFormed s → accepted (trace_of s c) ≡ true → P (next_state s c)) where
  stays : (s : State) (c : Call) → SignalFormed s → P s → P (next_state s c)
  stays s c w h = decided (accepted (trace_of s c)) (after s c w) (λ e. subst P (sym (next_refused s c e)) h)

  -- holds to the end where it holds at the start,
  pub always : (cs : List Call) (s : State) → SignalFormed s → P s → P (state_after s cs)
  unfolding state_after
  always [] s w h = h
  always (c ∷ cs) s w h = always cs (next_state s c) (next_formed s c w) (stays s c w h)

  -- and from the first accepted call on
  pub once : (cs : List Call) (s : State) → SignalFormed s → any_accepted (run_calls s cs) ≡ true → P (state_after s cs)
  unfolding state_after run_calls any_accepted
  once [] s w h = absurd (true≢false (sym h))
  once (c ∷ cs) s w h =
      decided (accepted (trace_of s c))
      (λ e. always cs (next_state s c) (next_formed s c w) (after s c w e))
      (λ e. once cs (next_state s c) (next_formed s c w) (sym (ap (λ (b : Bool). b || any_accepted (run_calls (next_state s c) cs)) e) ∙ h))

-- from a well-formed state every list of sheets of 16-bit numbers leads to one, and from an accepted one any list to an accepted one
pub list_well_formed : (cs : List Call) (s : State) → WellFormed s → Every SheetFits cs → WellFormed (state_after s cs)
unfolding state_after
list_well_formed [] s w h = w
list_well_formed (c ∷ cs) s w h = list_well_formed cs (next_state s c) (next_well_formed s c w h.0) h.1

pub list_accepted : (cs : List Call) (s : State) → WellFormed s → state_outcome s ≡ Ok tt → state_outcome (state_after s cs) ≡ Ok tt
list_accepted cs s w = always (λ (s : State). state_outcome s ≡ Ok tt) next_passes cs s w.signal

-- ---- after the latest accepted call, its last subframe retried
latest_step : (s : State) (c : Call) (n : ℕ) → SignalFormed s → (flag_of n ≡ true → SmallPast s) → flag_of (cond (accepted (trace_of s c)) (get_or (trace_of s c).places 3 40) n) ≡ true → SmallPast (next_state s c)
latest_step s c n w h e =
    decided (accepted (trace_of s c))
    (λ a. next_small s c w a (sym (ap (λ (t : Bool). flag_of (cond t (get_or (trace_of s c).places 3 40) n)) a) ∙ e))
    (λ a. subst SmallPast (sym (next_refused s c a)) (h (sym (ap (λ (t : Bool). flag_of (cond t (get_or (trace_of s c).places 3 40) n)) a) ∙ e)))

pub latest : (cs : List Call) (s : State) (n : ℕ) → SignalFormed s → (flag_of n ≡ true → SmallPast s) → flag_of (latest_place n (run_calls s cs)) ≡ true → SmallPast (state_after s cs)
unfolding state_after run_calls latest_place
latest [] s n w h e = h e
latest (c ∷ cs) s n w h e = latest cs (next_state s c) _ (next_formed s c w) (latest_step s c n w h) e
