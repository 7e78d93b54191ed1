-- Totals of one list after another are those of both together.
use Rattle.std.proofs.Common.{ℕ, ◌+◌, ◌≡◌, refl, sym, ap, ◌∙◌, Bool, true, false, not, List, [], ◌∷◌, ◌++◌, map, arith, zero-add, add-zero, add_assoc, length}
use mathlib.Core.List.{map-append}
use Rattle.lists.specs.Lists.{one_if, count, selected}
use Rattle.lists.specs.Parts.{total}
use Rattle.lists.proofs.Sums.{count_append, total_append, selected_append}
use Rattle.mr74.specs.Frame.{Trace}
use Rattle.calls.specs.Calls.{accepted}
use Rattle.shift_report.specs.declared.Totals.{Totals}
use Rattle.shift_report.specs.Totals.{accepted_count, refused_count, retried_total, square_total, peak_total, totals_of}
use Rattle.shift_report.specs.Steps.{plus, together, sheets_counted}

-- ---- the parts of totals
abbrev pub made : ℕ → ℕ → ℕ → ℕ → ℕ → Totals
made accepted refused retried squares peaks = record { accepted = accepted; refused = refused; retried = retried; squares = squares; peaks = peaks }

pub totals_same : (a b : Totals) → a.accepted ≡ b.accepted → a.refused ≡ b.refused → a.retried ≡ b.retried → a.squares ≡ b.squares → a.peaks ≡ b.peaks → a ≡ b
totals_same a b e f g h k = λ i. record { accepted = e i; refused = f i; retried = g i; squares = h i; peaks = k i }

-- ---- one list after another: how many calls a test is true of, and the numbers of those, whatever test and numbers
module _ (ts us : List Trace) where
  counted : (test : Trace → Bool) → count (map test (ts ++ us)) ≡ count (map test ts) + count (map test us)
  counted test = ap count (map-append test ts us) ∙ count_append (map test ts) (map test us)

  kept : {A : Type 0} (test : Trace → Bool) (f : Trace → A) → map f (selected test (ts ++ us)) ≡ map f (selected test ts) ++ map f (selected test us)
  kept test f = ap (map f) (selected_append test ts us) ∙ map-append f (selected test ts) (selected test us)

  summed : (test : Trace → Bool) (f : Trace → ℕ) → total (map f (selected test (ts ++ us))) ≡ total (map f (selected test ts)) + total (map f (selected test us))
  summed test f = ap total (kept test f) ∙ total_append (map f (selected test ts)) (map f (selected test us))

  pub totals_append : totals_of (ts ++ us) ≡ plus (totals_of ts) (totals_of us)
  unfolding plus accepted_count refused_count retried_total square_total peak_total
  totals_append = totals_same (totals_of (ts ++ us)) (plus (totals_of ts) (totals_of us)) (counted _) (counted _) (summed _ _) (summed _ _) (summed _ _)

-- ---- sums
pub zeros_plus : (a : Totals) → plus (totals_of []) a ≡ a
unfolding plus accepted_count refused_count retried_total square_total peak_total
zeros_plus a = totals_same (plus (totals_of []) a) a (zero-add _) (zero-add _) (zero-add _) (zero-add _) (zero-add _)

pub plus_zeros : (a : Totals) → plus a (totals_of []) ≡ a
unfolding plus accepted_count refused_count retried_total square_total peak_total
plus_zeros a = totals_same (plus a (totals_of [])) a (add-zero _) (add-zero _) (add-zero _) (add-zero _) (add-zero _)

pub plus_assoc : (a b c : Totals) → plus (plus a b) c ≡ plus a (plus b c)
unfolding plus
plus_assoc a b c = totals_same (plus (plus a b) c) (plus a (plus b c)) (add_assoc _ _ _) (add_assoc _ _ _) (add_assoc _ _ _) (add_assoc _ _ _) (add_assoc _ _ _)

-- one more
pub together-push : (ts : List Totals) (t : Totals) → together (ts ++ (t ∷ [])) ≡ plus (together ts) t
together-push [] t = plus_zeros t ∙ sym (zeros_plus t)
together-push (u ∷ ts) t = ap (plus u) (together-push ts t) ∙ sym (plus_assoc u (together ts) t)

-- ---- the sheets of either verdict
one_verdict : (b : Bool) → one_if b + one_if (not b) ≡ 1
unfolding one_if
one_verdict true = refl
one_verdict false = refl

pub counts : (ts : List Trace) → sheets_counted (totals_of ts) ≡ length ts
unfolding accepted_count refused_count
counts [] = refl
counts (t ∷ ts) = omega (arith, one_verdict (accepted t), counts ts)

pub plus_count : (a b : Totals) → sheets_counted (plus a b) ≡ sheets_counted a + sheets_counted b
unfolding plus
plus_count a b = omega arith
