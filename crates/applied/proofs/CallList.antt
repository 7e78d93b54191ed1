-- `every_list_as_measured` at calls of each kind: its premises are met, and each conclusion is a field of specs/CallList.antt, so that a field that says less, or a premise
-- that asks more, is refused here. The calls stay shut: nothing is computed but what `example` has.
use Rattle.std.proofs.Common.{◌≡◌, refl, sym, ap, ◌∙◌, subst, true, false, List, [], ◌∷◌, map, ℕ, arith, ℤ, length, get_or, eqb-true}
use Rattle.std.proofs.lemmas.Bool.{not-false}
use Rattle.lists.specs.Lists.{at}
use Rattle.decoder.specs.Subframe.{flag_of}
use Rattle.decoder.specs.Core.{SubframeResult, places_of}
use Rattle.mr74.specs.Frame.{Trace}
use Rattle.state.specs.declared.State.{State}
use Rattle.std.specs.Prelude.{Ok}
use Rattle.state.specs.State.{WellFormed, state_outcome}
use Rattle.calls.specs.Calls.{Call, trace_of, next_state, run_calls, state_after, accepted, any_accepted, latest_place}
use Rattle.measure.specs.Machine.{Machine, held_samples}
use Rattle.measure.specs.CallList.{AsMeasured, SubframesAsMeasured, AcceptedCall, RefusedCall, ListAsMeasured}
use Rattle.measure.proofs.CallList.{every_list_as_measured}
use Rattle.applied.specs.Examples.{silent, calls, Seen, expected}
use Rattle.applied.specs.CallList.{first, second, opened, after_call, last, AfterList, Lengths, Placed, Retried, Unretried, AsPlaced, Claim, RetriedIn, AcceptedOne, RefusedOne, FirstCall, SecondCall, TwoCalls}
use Rattle.applied.proofs.Examples.{example, refused_trace_lem}

-- ---- a subframe
module _ (m : Machine) (u : SubframeResult) (k : AsMeasured u.input m u.synthesis) where
  lengths : Lengths m u
  lengths =
      record { row = k.row; feedback = k.input.0; excitation = k.input.1; history = k.machine.0; past = k.machine.1; samples = k.forty }

  placed : (n : ℕ) → u.synthesis.place ≡ n → Placed m u n
  placed n p = record { within = k.within; is = p; whole = sym k.place ∙ p }

  pub retried_one : (n : ℕ) → flag_of n ≡ true → u.synthesis.place ≡ n → Retried m u n
  retried_one n y p =
      let e = ap flag_of p ∙ y in
      let q = k.quartered e in
      record {
        lengths = lengths;
        place = placed n p;
        flag = sym k.flag ∙ e;
        feedback = q.0;
        past = q.1;
        samples = k.retried_samples e ∙ ap (λ (x : List ℤ). held_samples u.input.row x m.history) q.0;
      }

  pub unretried_one : u.synthesis.place ≡ 40 → Unretried m u
  unretried_one p =
      let e = ap flag_of p in
      let n = k.unretried e in
      record { lengths = lengths; place = placed 40 p; flag = sym k.flag ∙ e; feedback = n.0; past = n.1; samples = k.samples e }

  pub as_placed : AsPlaced m u
  as_placed = record { retried = λ y. retried_one u.synthesis.place y refl; unretried = λ n. unretried_one (forty n) }
    where
      forty : flag_of u.synthesis.place ≡ false → u.synthesis.place ≡ 40
      forty n = eqb-true u.synthesis.place 40 (not-false _ n)

-- ---- the four of an accepted call
record Four (us : List SubframeResult) : Type 0 where
  a : SubframeResult
  b : SubframeResult
  c : SubframeResult
  d : SubframeResult
  are : us ≡ a ∷ b ∷ c ∷ d ∷ []

four : (us : List SubframeResult) → length us ≡ 4 → Four us
four [] e = absurd (omega (arith, e))
four (a ∷ []) e = absurd (omega (arith, e))
four (a ∷ b ∷ []) e = absurd (omega (arith, e))
four (a ∷ b ∷ c ∷ []) e = absurd (omega (arith, e))
four (a ∷ b ∷ c ∷ d ∷ []) e = record { a = a; b = b; c = c; d = d; are = refl }
four (a ∷ b ∷ c ∷ d ∷ u ∷ us) e = absurd (omega (arith, e))

-- what the theorem gives of a subframe whose place is n
abbrev pub Holds : Claim → ℕ → Type 0
Holds P n = (m : Machine) (u : SubframeResult) → AsMeasured u.input m u.synthesis → u.synthesis.place ≡ n → P m u

module _ (t : Trace) (m : Machine) (ns : List ℕ) (A B C D : Claim) where
  pub accepted_one : accepted t ≡ true → AcceptedCall t m → t.places ≡ ns → Holds A (get_or ns 0 0) → Holds B (get_or ns 1 0) → Holds C (get_or ns 2 0) → Holds D (get_or ns 3 0) → AcceptedOne t m ns A B C D
  accepted_one y k p ha hb hc hd =
      let f = four t.subframes k.four in
      let us = subst (SubframesAsMeasured m) f.are k.subframes in
      let places = sym k.places ∙ p in
      let e = sym (ap places_of f.are) ∙ places in
      record {
        accepts = y;
        tilts = k.tilts;
        divisors = k.divisors;
        four = k.four;
        places = p;
        subframe_places = places;
        rows = k.rows;
        subframes = record {
          a = f.a;
          b = f.b;
          c = f.c;
          d = f.d;
          four = f.are;
          in_a = ha _ f.a us.0 (ap (λ (ns : List ℕ). get_or ns 0 0) e);
          in_b = hb _ f.b us.1.0 (ap (λ (ns : List ℕ). get_or ns 1 0) e);
          in_c = hc _ f.c us.1.1.0 (ap (λ (ns : List ℕ). get_or ns 2 0) e);
          in_d = hd _ f.d us.1.1.1.0 (ap (λ (ns : List ℕ). get_or ns 3 0) e);
        };
        history = ap (λ (m : Machine). m.history) k.next;
        past = ap (λ (m : Machine). m.past) k.next;
      }

refused_one : (s : State) (t : Trace) (m : Machine) → accepted t ≡ false → RefusedCall s t m → RefusedOne s t m
refused_one s t m n r = record { refuses = n; none = r.none; no_tilt = r.no_tilt; no_quotient = r.no_quotient; machine = r.machine; state = r.state }

pub retried_in : (n : ℕ) → flag_of n ≡ true → Holds (RetriedIn n) n
retried_in n y m u k p = retried_one m u k n y p

pub unretried : Holds Unretried 40
unretried m u k p = unretried_one m u k p

pub by_place : (n : ℕ) → Holds AsPlaced n
by_place n m u k p = as_placed m u k

-- ---- a list that begins with an accepted call and a refused one
module _ (s : State) (w : WellFormed s) (h : state_outcome s ≡ Ok tt) (c d : Call) (rest : List Call) (ns : List ℕ) (A B C D : Claim) where
  pub two_calls : accepted (trace_of s c) ≡ true → accepted (trace_of (next_state s c) d) ≡ false → (trace_of s c).places ≡ ns
      → Holds A (get_or ns 0 0) → Holds B (get_or ns 1 0) → Holds C (get_or ns 2 0) → Holds D (get_or ns 3 0) → TwoCalls s c d rest ns A B C D
  unfolding run_calls any_accepted
  two_calls y n p ha hb hc hd =
      let t = every_list_as_measured s w h (c ∷ d ∷ rest) in
      let any : any_accepted (run_calls s (c ∷ d ∷ rest)) ≡ true = rw y refl in
      record {
        accepted_call = accepted_one (trace_of s c) _ ns A B C D y (t.calls.0 y) p ha hb hc hd;
        refused_call = refused_one _ _ _ n (t.calls.1.1.1.0 n);
        sharpening = t.sharpening any;
        gain = t.gain any;
        past = t.past;
      }

-- the place of the last subframe of the latest accepted call
pub latest_is : (s : State) (c d : Call) (n : ℕ) → accepted (trace_of s c) ≡ true → accepted (trace_of (next_state s c) d) ≡ false → get_or (trace_of s c).places 3 40 ≡ n
    → latest_place 40 (run_calls s (c ∷ d ∷ [])) ≡ n
unfolding run_calls latest_place
latest_is s c d n y r p = rw (y, r) p

-- ---- the two calls of specs/Examples.antt
theorem : ListAsMeasured silent calls
theorem = every_list_as_measured silent example.well_formed example.state calls

first_accepted : accepted first ≡ true
first_accepted = ap (λ (e : Seen). e.accepted) example.call

second_refused : accepted second ≡ false
second_refused = ap (λ (t : Trace). accepted t) (refused_trace_lem first.next)

first_places : first.places ≡ expected.places
first_places = ap (λ (e : Seen). e.places) example.call

accepted_first : AcceptedOne first opened expected.places (RetriedIn 8) Unretried Unretried (RetriedIn 19)
accepted_first =
    accepted_one first opened expected.places (RetriedIn 8) Unretried Unretried (RetriedIn 19) first_accepted (theorem.calls.0 first_accepted) first_places
    (retried_in 8 refl)
    unretried
    unretried
    (retried_in 19 refl)

pub first_call : FirstCall
first_call =
    record {
      call = accepted_first;
      flags = ap (map flag_of) first_places;
      newest = ap (λ (xs : List ℤ). at xs 153) (sym accepted_first.past) ∙ ap (λ (e : Seen). e.newest) example.call;
    }

pub second_call : SecondCall
second_call = refused_one first.next second (after_call opened first) second_refused (theorem.calls.1.1.1.0 second_refused)

-- ---- the state after the list is that of the first call
last_is : last ≡ first.next
unfolding state_after
last_is = second_call.state

pub after_list : AfterList
after_list =
    let past = theorem.past (ap flag_of example.latest) in
    record {
      sharpening = theorem.sharpening example.any;
      gain = theorem.gain example.any;
      past = past.0;
      past_range = past.1;
      sharpening_is = ap (λ (s : State). s.core.sharpening.0) last_is ∙ ap (λ (e : Seen). e.sharpening) example.call;
      gain_is = ap (λ (s : State). s.post.gain.previous_gain) last_is ∙ ap (λ (e : Seen). e.gain) example.call;
      newest_is = ap (λ (s : State). at s.core.past 153) last_is ∙ ap (λ (e : Seen). e.newest) example.call;
    }
