-- What `count_call` and `step` give: the totals of one call, and of none.
use Rattle.std.proofs.Common.{ℕ, ◌+◌, ◌≡◌, refl, sym, ap, ◌∙◌, subst, Bool, true, cond, List, [], ◌∷◌, map, ℤ, length}
use Rattle.std.specs.List.{count_by, sum_by}
use Rattle.std.proofs.lemmas.List.Sums.{sum_by-cons}
use Rattle.lists.specs.Lists.{one_if, count}
use Rattle.lists.specs.Parts.{total}
use Rattle.decoder.specs.Subframe.{flag_of}
use Rattle.basicop.specs.Words.{Words}
use Rattle.state.specs.declared.State.{State}
use Rattle.std.specs.Prelude.{Ok, Err, Some}
use Rattle.outcome.specs.declared.Refusal.{Refusal}
use Rattle.outcome.specs.Outcome.{Outcome, is_accepted}
use Rattle.outcome.proofs.Variants.{never_accepted}
use Rattle.mr74.specs.declared.FrameAnswer.{FrameAnswer}
use Rattle.mr74.specs.Frame.{CallResult, Trace, call_result}
use Rattle.lines.specs.Lines.{peak_of}
use Rattle.sheets.specs.Sheets.{sheet_call, step_result}
use Rattle.shift_report.specs.declared.Totals.{Totals}
use Rattle.shift_report.specs.Totals.{retried_in, square, square_sum, accepted_count, refused_count, retried_total, square_total, peak_total, totals_of}
use Rattle.shift_report.specs.Report.{sheet_trace}
use Rattle.shift_report.specs.Steps.{step_of, Bounded}
use Rattle.shift_report.specs.Serving.{CountsCall}
use Rattle.shift_report.proofs.Plus.{made, totals_same}
use Rattle.shift_report.proofs.Shares.{share_by, one_share}
use Rattle.shift_report.proofs.Bounds.{share_bounded}
use Rattle.shift_report.proofs.Traces.{sheet_call-trace}
use Rattle.shift_report.proofs.Steps.{step_whole}

-- ---- the totals of no call, of fields that are each 0
pub none_counted : (t : Totals) → t.accepted ≡ 0 → t.refused ≡ 0 → t.retried ≡ 0 → t.squares ≡ 0 → t.peaks ≡ 0 → t ≡ totals_of []
unfolding accepted_count refused_count retried_total square_total peak_total
none_counted t = totals_same t (totals_of [])

-- ---- the flags that are set, and the squares as they are added up
counted_set : (flags : List Bool) → count_by (λ (flag : Bool). flag) flags ≡ count flags
unfolding one_if
counted_set [] = refl
counted_set (flag ∷ flags) = sum_by-cons (λ (flag : Bool). cond flag 1 0) flag flags ∙ ap (λ (n : ℕ). cond flag 1 0 + n) (counted_set flags)

pub retried_counted : (places : List ℕ) (flags : List Bool) → flags ≡ map flag_of places → count_by (λ (flag : Bool). flag) flags ≡ retried_in places
unfolding retried_in
retried_counted places flags e = counted_set flags ∙ ap count e

summed : (xs : List ℤ) → sum_by square xs ≡ total (map square xs)
summed [] = refl
summed (x ∷ xs) = sum_by-cons square x xs ∙ ap (λ (n : ℕ). square x + n) (summed xs)

pub squares_summed : (xs : List ℤ) → sum_by square xs ≡ square_sum xs
unfolding square_sum
squares_summed xs = summed xs

-- ---- the totals of a call, by its outcome
module _ (o : Outcome) (places : List ℕ) (xs : List ℤ) where
  counts_by : (r : Totals) → r ≡ share_by (is_accepted o) places xs → CountsCall o places xs r
  counts_by r q t e f g = rw (e, f, g) at q ∙ sym (one_share t)

  pub counts_accepted : (n m p : ℕ) → o ≡ Ok tt → n ≡ retried_in places → m ≡ square_sum xs → p ≡ peak_of xs → made 1 0 n m p ≡ share_by (is_accepted o) places xs
  counts_accepted n m p y e f g = rw (y, e, f, g) refl

  pub counts_refused : (refusal : Refusal) → o ≡ Err refusal → made 0 1 0 0 0 ≡ share_by (is_accepted o) places xs
  counts_refused refusal y = rw (y, never_accepted refusal) refl

  pub counted : (r : Totals) → r ≡ share_by (is_accepted o) places xs → length places ≡ 4 → Words 160 xs → CountsCall o places xs r × Bounded r
  counted r q n w = (counts_by r q, subst Bounded (sym q) (share_bounded (is_accepted o) places xs (λ e. (n, w))))

-- ---- a step: the frame call of a whole sheet is counted
pub call_counted : (s : State) (bytes : List ℕ) (a : FrameAnswer) (xs : List ℤ) (r : Totals) → length bytes ≡ 364 → call_result a xs ≡ sheet_call bytes s
    → CountsCall a.outcome a.places xs r → step_result r (Some a.next) ≡ step_of s bytes
call_counted s bytes a xs r e f g =
    let h = f ∙ sheet_call-trace s bytes in
    let q = g (sheet_trace s bytes) (ap (λ (k : CallResult). k.answer.outcome) h) (ap (λ (k : CallResult). k.answer.places) h) (ap (λ (k : CallResult). k.lent) h) in
    ap (λ (t : Totals). step_result t (Some a.next)) q
    ∙ ap (λ (k : CallResult). step_result (totals_of (sheet_trace s bytes ∷ [])) (Some k.answer.next)) h
    ∙ step_whole s bytes e
