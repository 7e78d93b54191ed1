-- What one call adds: an accepted one all its numbers, a refused one a count.
use Rattle.std.proofs.Common.{ℕ, ◌+◌, ◌≡◌, refl, Bool, true, false, cond, not, List, [], ◌∷◌, map, add-zero, ℤ}
use Rattle.lists.specs.Lists.{one_if}
use Rattle.lists.specs.Parts.{total}
use Rattle.mr74.specs.Frame.{Trace}
use Rattle.calls.specs.Calls.{accepted}
use Rattle.lines.specs.Lines.{peak_of}
use Rattle.shift_report.specs.declared.Totals.{Totals}
use Rattle.shift_report.specs.Totals.{retried_in, square_sum, accepted_count, refused_count, retried_total, square_total, peak_total, totals_of}
use Rattle.shift_report.proofs.Plus.{made}

abbrev pub share_by : Bool → List ℕ → List ℤ → Totals
share_by t places samples = cond t (made 1 0 (retried_in places) (square_sum samples) (peak_of samples)) (made 0 1 0 0 0)

pub one_share : (t : Trace) → totals_of (t ∷ []) ≡ share_by (accepted t) t.places t.output
unfolding accepted_count refused_count retried_total square_total peak_total one_if
one_share t = go (accepted t)
  where
    kept : Bool → List Trace
    kept b = cond b (t ∷ []) []

    go : (b : Bool)
        → made (one_if b + 0) (one_if (not b) + 0) (total (map (λ (t : Trace). retried_in t.places) (kept b))) (total (map (λ (t : Trace). square_sum t.output) (kept b))) (total (map (λ (t : Trace). peak_of t.output) (kept b)))
        ≡ share_by b t.places t.output
    go true = rw (add-zero (retried_in t.places), add-zero (square_sum t.output), add-zero (peak_of t.output)) refl
    go false = refl
