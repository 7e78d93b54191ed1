-- How large totals can be, by the count of accepted calls.
use Rattle.std.proofs.Common.{ℕ, ◌*◌, ◌^◌, ◌≤◌, ◌≡◌, refl, Bool, true, false, List, [], ◌∷◌, arith, ℤ, length}
use Rattle.lists.specs.Lists.{one_if}
use Rattle.basicop.specs.Words.{Words}
use Rattle.decoder.specs.Subframe.{flag_of}
use Rattle.lines.specs.Lines.{peak_of}
use Rattle.lines.proofs.Peaks.{peak_most}
use Rattle.shift_report.specs.declared.Totals.{Totals}
use Rattle.shift_report.specs.Totals.{retried_in, square_sum, accepted_count, refused_count, retried_total, square_total, peak_total, totals_of}
use Rattle.shift_report.specs.Steps.{plus, Bounded}
use Rattle.shift_report.proofs.Squares.{squares_most}
use Rattle.shift_report.proofs.Shares.{share_by}

-- ---- one call
one_most : (b : Bool) → one_if b ≤ 1
unfolding one_if
one_most true = omega arith
one_most false = omega arith

pub retried_most : (places : List ℕ) → retried_in places ≤ length places
unfolding retried_in
retried_most [] = omega arith
retried_most (p ∷ ps) = omega (arith, one_most (flag_of p), retried_most ps)

module _ (xs : List ℤ) (w : Words 160 xs) where
  pub squares_of_frame : square_sum xs ≤ 160 * 2 ^ 30
  squares_of_frame = omega (arith, squares_most xs w.fit, w.count)

  pub peak_of_frame : peak_of xs ≤ 32768
  peak_of_frame = peak_most xs w.fit

pub share_bounded : (b : Bool) (places : List ℕ) (xs : List ℤ) → (b ≡ true → (length places ≡ 4) × Words 160 xs) → Bounded (share_by b places xs)
share_bounded true places xs f =
    let s = f refl in
    record { retried = omega (arith, retried_most places, s.0); squares = squares_of_frame xs s.1; peaks = peak_of_frame xs s.1 }
share_bounded false places xs f = record { retried = omega arith; squares = omega arith; peaks = omega arith }

-- ---- sums
pub bounded_zeros : Bounded (totals_of [])
unfolding accepted_count refused_count retried_total square_total peak_total
bounded_zeros = record { retried = omega arith; squares = omega arith; peaks = omega arith }

pub bounded_plus : (a b : Totals) → Bounded a → Bounded b → Bounded (plus a b)
unfolding plus
bounded_plus a b h k =
    record {
      retried = omega (arith, h.retried, k.retried);
      squares = omega (arith, h.squares, k.squares);
      peaks = omega (arith, h.peaks, k.peaks);
    }
