-- The loops over the samples.
use Rattle.std.proofs.Common.{ℕ, suc, ◌+◌, ◌-◌, ◌<◌, ◌≡◌, refl, sym, ap, ap₂, ◌∙◌, true, false, List, [], ◌∷◌, ◌++◌, add-one, arith, ℤ, pos, ◌+ℤ◌, ◌*ℤ◌, length, set, take, drop, replicate, length-set, length-drop, take-append-drop, drop-cons, length-take-le, take-suc, take-suc-set, take_at, drop_at, drop-set-lt, take_all, w32, SFits}
use Rattle.std.proofs.Math.Seq.{drop-append-le}
use Rattle.lists.specs.Lists.{at}
use Rattle.synthesis.specs.Recursion.{recursion, step_numbers, some_outside, some_list_outside, first_list_outside}
use Rattle.synthesis.specs.Synthesis.{first_samples, sample, unheld, unhelds, overflowed, overflowed_at}
use Rattle.synthesis.specs.Whole.{sum, sums, wholes}
use Rattle.basicop.specs.Ops.{asr}
use Rattle.synthesis.proofs.Flags.{inside_fits, fits_inside, leaves_two, two_none, any_append, at_append, at_none, at_here}
use Rattle.synthesis.proofs.Fed.{length_fed, length_numbers, numbers_append, fed_more}
use Rattle.synthesis.proofs.Agree.{unheld_same, sample_same}

-- ---- history and samples stand in front of the buffer, and zeros after them
pub record Feeding (make : ℤ → List ℤ → ℤ) (x h buf : List ℤ) (n : ℕ) : Type 0 where
  pub source : length x ≡ 40
  pub room : length buf ≡ 50
  pub made : take (n + 10) buf ≡ recursion make (take n x) h
  pub rest : drop (n + 10) buf ≡ replicate (40 - n) (pos 0)

pub feeding_none : {make : ℤ → List ℤ → ℤ} {x h buf : List ℤ} → length x ≡ 40 → length buf ≡ 50 → length h ≡ 10 → buf ≡ h ++ replicate (50 - length h) (pos 0) → Feeding make x h buf 0
unfolding recursion
feeding_none {h = h} lx lb lh f =
    let e = rw lh at f in
    record {
      source = lx;
      room = lb;
      made = rw e (take_at h (replicate 40 (pos 0)) 10 lh);
      rest = rw e (drop_at h (replicate 40 (pos 0)) 10 lh);
    }

pub feeding_more : {make : ℤ → List ℤ → ℤ} {x h buf : List ℤ} {n : ℕ} {v : ℤ} → Feeding make x h buf n → n < 40 → v ≡ make (at x n) (take (n + 10) buf) → Feeding make x h (set buf (n + 10) v) (n + 1)
feeding_more {make} {x} {h} {buf} {n} {v} r l e =
    let k : n + 1 + 10 ≡ suc (n + 10) = omega arith in
    let lb : n + 10 < length buf = omega (arith, r.room) in
    let lx : n < length x = omega (arith, r.source) in
    let z : 40 - n ≡ suc (40 - (n + 1)) = omega arith in
    record {
      source = r.source;
      room = length-set buf (n + 10) v ∙ r.room;
      made = rw k (take-suc-set buf (n + 10) v lb ∙ rw (e, r.made) (rw add-one (sym (fed_more make x h n lx))));
      rest = rw k (drop-set-lt (suc (n + 10)) buf (n + 10) v (omega arith) ∙ ap (drop 1) (sym (drop-cons buf (n + 10) (pos 0) lb) ∙ rw z at r.rest));
    }

pub feeding_done : {make : ℤ → List ℤ → ℤ} {x h buf : List ℤ} {n : ℕ} → Feeding make x h buf n → buf ≡ recursion make (take n x) h ++ replicate (40 - n) (pos 0)
feeding_done {buf = buf} {n = n} r = sym (take-append-drop (n + 10) buf) ∙ ap₂ ◌++◌ r.made r.rest

-- without the history
pub feeding_given : (a : List ℤ) {x h buf : List ℤ} {n : ℕ} → Feeding (sample 10 a) x h buf n → length h ≡ 10 → take 40 (drop 10 buf) ≡ first_samples n 10 a x h
feeding_given a {x} {h} {buf} {n} r l =
    let w = recursion (sample 10 a) (take n x) h in
    let z = replicate (40 - n) (pos 0) in
    let t : take 40 (drop 10 buf) ≡ drop 10 buf = take_all 40 (drop 10 buf) (rw (length-drop 10 buf, r.room) (omega arith)) in
    rw (t, r.source) (ap (drop 10) (feeding_done r) ∙ drop-append-le 10 w z (rw (length_fed (sample 10 a) (take n x) h, l) (omega arith)))

-- ---- the same in whole numbers, where no number has left so far
pub record Passing (a x h buf : List ℤ) (n : ℕ) : Type 0 where
  pub run : Feeding (sample 10 a) x h buf n
  pub none : overflowed 10 a (take n x) h ≡ false

pub passing_none : {a x h buf : List ℤ} → Feeding (sample 10 a) x h buf 0 → Passing a x h buf 0
unfolding step_numbers some_list_outside
passing_none r = record { run = r; none = refl }

-- ---- one sample, of its sum
module _ (a : List ℤ) (x : ℤ) (y : List ℤ) where
  pub sample_some : {s v : ℤ} → some_outside (sums a x y 10) ≡ false → s ≡ sum a x y 10 → SFits w32 (s *ℤ pos 8) → SFits w32 (s *ℤ pos 8 +ℤ pos 32768) → v ≡ asr (s *ℤ pos 8 +ℤ pos 32768) 16 → (some_outside (unheld 10 a x y) ≡ false) × (v ≡ sample 10 a x y)
  sample_some e i f g q =
      let w : some_outside (wholes 10 a x y) ≡ false = leaves_two (sums a x y 10) (sum a x y 10 *ℤ pos 8) (sum a x y 10 *ℤ pos 8 +ℤ pos 32768) ∙ rw (e, fits_inside _ (rw i at f), fits_inside _ (rw i at g)) in
      (unheld_same a x y 10 ∙ w, q ∙ rw i (sym (sample_same a x y 10 w)))

  -- where none of its numbers lies outside
  pub sample_fits_all : some_outside (unheld 10 a x y) ≡ false → (some_outside (sums a x y 10) ≡ false) × (SFits w32 (sum a x y 10 *ℤ pos 8) × SFits w32 (sum a x y 10 *ℤ pos 8 +ℤ pos 32768))
  sample_fits_all e =
      let n = two_none (sums a x y 10) (sum a x y 10 *ℤ pos 8) (sum a x y 10 *ℤ pos 8 +ℤ pos 32768) (sym (unheld_same a x y 10) ∙ e) in
      (n.0, (inside_fits _ n.1.0, inside_fits _ n.1.1))

module _ {a x h buf : List ℤ} {n : ℕ} (r : Passing a x h buf n) (l : n < 40) where
  numbers : step_numbers (sample 10 a) (unheld 10 a) x h ≡ unhelds 10 a (take n x) h ++ unhelds 10 a (drop n x) (take (n + 10) buf)
  numbers = sym (ap (λ (z : List ℤ). unhelds 10 a z h) (take-append-drop n x)) ∙ numbers_append (sample 10 a) (unheld 10 a) (take n x) (drop n x) h ∙ rw r.run.made

  pub passing_more : {v : ℤ} → some_outside (unheld 10 a (at x n) (take (n + 10) buf)) ≡ false → v ≡ sample 10 a (at x n) (take (n + 10) buf) → Passing a x h (set buf (n + 10) v) (n + 1)
  unfolding step_numbers some_list_outside
  passing_more e q =
      let lx : n < length x = omega (arith, r.run.source) in
      record {
        run = feeding_more r.run l q;
        none =
            rw (add-one, take-suc x n (pos 0) lx, numbers_append (sample 10 a) (unheld 10 a) (take n x) (at x n ∷ []) h, any_append (unhelds 10 a (take n x) h) (unheld 10 a (at x n) (recursion (sample 10 a) (take n x) h) ∷ []), r.none, ← r.run.made, e);
      }

  -- the first number outside is of this sample
  pub passing_left : some_outside (unheld 10 a (at x n) (take (n + 10) buf)) ≡ true → n ≡ overflowed_at 10 a x h
  unfolding step_numbers
  passing_left e =
      let lx : n < length x = omega (arith, r.run.source) in
      let y = take (n + 10) buf in
      sym (
      ap first_list_outside numbers
      ∙ at_append (unhelds 10 a (take n x) h) (unhelds 10 a (drop n x) y) r.none
      ∙ rw (length_numbers (sample 10 a) (unheld 10 a) (take n x) h, length-take-le n x (omega arith), drop-cons x n (pos 0) lx, at_here (unheld 10 a (at x n) y) (unhelds 10 a (drop (suc n) x) (y ++ (sample 10 a (at x n) y ∷ []))) e) (omega arith)
      )

pub passing_done : {a x h buf : List ℤ} {n : ℕ} → Passing a x h buf n → n ≡ 40 → n ≡ overflowed_at 10 a x h
passing_done {a} {x} {h} {n = n} r e =
    let t : take n x ≡ x = take_all n x (omega (arith, r.run.source)) in
    sym (at_none (unhelds 10 a x h) (rw t at r.none) ∙ length_numbers (sample 10 a) (unheld 10 a) x h ∙ r.run.source ∙ sym e)
