-- What `every_list_as_measured` gives of the list `calls` from the state `silent`. Nothing here is said by a statement of measure/specs/CallList.antt:
-- each of its clauses is written out, with its premise met. The theorems are in proofs/CallList.antt.
use Rattle.std.specs.Prelude.{◌≡◌, true, false, List, [], ◌∷◌, map, ℕ, ◌≤◌, ℤ, pos, negsuc, length, ◌≤ℤ◌}
use Rattle.lists.specs.Lists.{at, Every}
use Rattle.basicop.specs.Ops.{Quotient}
use Rattle.synthesis.specs.Whole.{whole_samples, retried, retried_at}
use Rattle.decoder.specs.Subframe.{flag_of}
use Rattle.decoder.specs.Core.{SubframeResult}
use Rattle.state.specs.declared.State.{State}
use Rattle.mr74.specs.Frame.{Trace}
use Rattle.calls.specs.Calls.{Call, trace_of, next_state, run_calls, state_after, accepted, latest_place}
use Rattle.measure.specs.Machine.{Machine, held_samples, quarters, takes_in, machine_after_subframe, machine_after_subframes}
use Rattle.applied.specs.Examples.{silent, call, empty_call, calls}

-- ---- the two calls, and the machine of whole numbers beside them
abbrev pub first : Trace
first = trace_of silent call

abbrev pub second : Trace
second = trace_of first.next empty_call

abbrev pub opened_by : State → Machine
opened_by s = record { history = s.core.history; past = s.core.past }

abbrev pub opened : Machine
opened = opened_by silent

-- after one subframe, and after a call's
abbrev pub after_one : Machine → SubframeResult → Machine
after_one m u = machine_after_subframe u.input m

abbrev pub after_call : Machine → Trace → Machine
after_call m t = machine_after_subframes (map (λ (u : SubframeResult). u.input) t.subframes) m

-- ---- the state after the list
abbrev pub last : State
last = state_after silent calls

pub record AfterList : Type 0 where
  pub sharpening : (pos 0 ≤ℤ last.core.sharpening.0) × (last.core.sharpening.0 ≤ℤ pos 13017)
  pub gain : (pos 0 ≤ℤ last.post.gain.previous_gain) × (last.post.gain.previous_gain ≤ℤ pos 32765)
  pub past : length last.core.past ≡ 154
  pub past_range : Every (λ (z : ℤ). (negsuc 8191 ≤ℤ z) × (z ≤ℤ pos 8191)) last.core.past
  -- what `example` has of them, which the refused call leaves: 13017 and 8191 are reached
  pub sharpening_is : last.core.sharpening.0 ≡ pos 13017
  pub gain_is : last.post.gain.previous_gain ≡ pos 4106
  pub newest_is : at last.core.past 153 ≡ pos 8191

-- ---- a subframe u, with the machine m before it
pub record Lengths (m : Machine) (u : SubframeResult) : Type 0 where
  pub row : length u.input.row ≡ 11
  pub feedback : length u.input.feedback ≡ 40
  pub excitation : length u.input.excitation ≡ 40
  pub history : length m.history ≡ 10
  pub past : length m.past ≡ 154
  pub samples : length u.synthesis.samples ≡ 40

-- its place is n, and the machine's whole numbers leave 32 bits first in sample n, in none where n is 40
pub record Placed (m : Machine) (u : SubframeResult) (n : ℕ) : Type 0 where
  pub within : u.synthesis.place ≤ 40
  pub is : u.synthesis.place ≡ n
  pub whole : retried_at 10 u.input.row u.input.excitation m.history ≡ n

pub record Retried (m : Machine) (u : SubframeResult) (n : ℕ) : Type 0 where
  pub lengths : Lengths m u
  pub place : Placed m u n
  pub flag : retried 10 u.input.row u.input.excitation m.history ≡ true
  pub feedback : u.synthesis.feedback ≡ quarters u.input.feedback
  pub past : u.synthesis.past ≡ takes_in (quarters m.past) (quarters u.input.feedback)
  pub samples : u.synthesis.samples ≡ held_samples u.input.row (quarters u.input.feedback) m.history

pub record Unretried (m : Machine) (u : SubframeResult) : Type 0 where
  pub lengths : Lengths m u
  pub place : Placed m u 40
  pub flag : retried 10 u.input.row u.input.excitation m.history ≡ false
  pub feedback : u.synthesis.feedback ≡ u.input.feedback
  pub past : u.synthesis.past ≡ takes_in m.past u.input.feedback
  pub samples : u.synthesis.samples ≡ whole_samples 10 u.input.row u.input.excitation m.history

-- as its place says, where that is not computed
pub record AsPlaced (m : Machine) (u : SubframeResult) : Type 0 where
  pub retried : flag_of u.synthesis.place ≡ true → Retried m u u.synthesis.place
  pub unretried : flag_of u.synthesis.place ≡ false → Unretried m u

-- ---- what is said of a subframe with the machine before it
abbrev pub Claim : Type 1
Claim = Machine → SubframeResult → Type 0

abbrev pub RetriedIn : ℕ → Claim
RetriedIn n m u = Retried m u n

-- ---- the four subframes of a call, one after another
pub record Subframes (t : Trace) (m : Machine) (A B C D : Claim) : Type 0 where
  pub a : SubframeResult
  pub b : SubframeResult
  pub c : SubframeResult
  pub d : SubframeResult
  pub four : t.subframes ≡ a ∷ b ∷ c ∷ d ∷ []
  pub in_a : A m a
  pub in_b : B (after_one m a) b
  pub in_c : C (after_one (after_one m a) b) c
  pub in_d : D (after_one (after_one (after_one m a) b) c) d

-- ---- an accepted call of any kind, with the machine m before it; its places are ns
pub record AcceptedOne (t : Trace) (m : Machine) (ns : List ℕ) (A B C D : Claim) : Type 0 where
  pub accepts : accepted t ≡ true
  pub tilts : (length t.tilts ≡ 4) × Every (λ (t : ℤ). (pos 0 ≤ℤ t) × (t ≤ℤ pos 26214)) t.tilts
  pub divisors : Every (λ (q : Quotient). ¬ (q.divisor ≡ pos 0)) t.quotients
  pub four : length t.subframes ≡ 4
  pub places : t.places ≡ ns
  pub subframe_places : map (λ (u : SubframeResult). u.synthesis.place) t.subframes ≡ ns
  pub rows : map (λ (u : SubframeResult). u.input.row) t.subframes ≡ t.rows.a ∷ t.rows.b ∷ t.rows.c ∷ t.rows.d ∷ []
  pub subframes : Subframes t m A B C D
  pub history : t.next.core.history ≡ (after_call m t).history
  pub past : t.next.core.past ≡ (after_call m t).past

-- ---- a refused one, on the state s
pub record RefusedOne (s : State) (t : Trace) (m : Machine) : Type 0 where
  pub refuses : accepted t ≡ false
  pub none : t.subframes ≡ []
  pub no_tilt : t.tilts ≡ []
  pub no_quotient : t.quotients ≡ []
  pub machine : after_call m t ≡ m
  pub state : t.next ≡ s

-- ---- the first call, which is accepted: one subframe retried by its sample 8, two not, one retried by its sample 19
pub record FirstCall : Type 0 where
  pub call : AcceptedOne first opened (8 ∷ 40 ∷ 40 ∷ 19 ∷ []) (RetriedIn 8) Unretried Unretried (RetriedIn 19)
  pub flags : map flag_of first.places ≡ true ∷ false ∷ false ∷ true ∷ []
  -- the newest excitation of the machine's own past, which the retry of the last subframe has quartered
  pub newest : at (after_call opened first).past 153 ≡ pos 8191

-- ---- the second, which is refused
abbrev pub SecondCall : Type 0
SecondCall = RefusedOne first.next second (after_call opened first)

-- ---- the same of any list that begins with an accepted call c and a refused one d, of other kinds too (Indexed.antt, Erased.antt, Retries.antt)
pub record TwoCalls (s : State) (c d : Call) (rest : List Call) (ns : List ℕ) (A B C D : Claim) : Type 0 where
  pub accepted_call : AcceptedOne (trace_of s c) (opened_by s) ns A B C D
  pub refused_call : RefusedOne (next_state s c) (trace_of (next_state s c) d) (after_call (opened_by s) (trace_of s c))
  -- the state after the list
  pub sharpening : let after = state_after s (c ∷ d ∷ rest) in (pos 0 ≤ℤ after.core.sharpening.0) × (after.core.sharpening.0 ≤ℤ pos 13017)
  pub gain : let after = state_after s (c ∷ d ∷ rest) in (pos 0 ≤ℤ after.post.gain.previous_gain) × (after.post.gain.previous_gain ≤ℤ pos 32765)
  pub past :
      flag_of (latest_place 40 (run_calls s (c ∷ d ∷ rest))) ≡ true
      → (length (state_after s (c ∷ d ∷ rest)).core.past ≡ 154) × Every (λ (z : ℤ). (negsuc 8191 ≤ℤ z) × (z ≤ℤ pos 8191)) (state_after s (c ∷ d ∷ rest)).core.past
