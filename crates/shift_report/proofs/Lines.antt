-- The report's line, field by field.
use Rattle.std.proofs.Common.{◌≡◌, List, [], ◌∷◌, ◌++◌, append_assoc, ℕ, eq-eqb, ne_eqb}
use Rattle.lines.specs.Lines.{decimal, line_feed, field}
use Rattle.shift_report.specs.declared.Totals.{Totals}
use Rattle.shift_report.specs.Report.{mean_of, none_word, mean_field, report_line}

-- ---- the mean, or `none`
module _ (sum n : ℕ) where
  pub mean_none : n ≡ 0 → none_word ≡ mean_field sum n
  unfolding mean_field
  mean_none e = rw (eq-eqb n 0 e)

  pub mean_some : (n ≡ 0 → ⊥) → decimal (mean_of sum n) ≡ mean_field sum n
  unfolding mean_field
  mean_some h = rw (ne_eqb n 0 h)

-- ---- the line, by what is there after each field
pub report_laid : (a b c d e f : List ℕ) (t : Totals) → a ≡ field (decimal t.accepted) [] → b ≡ a ++ field (decimal t.refused) [] → c ≡ b ++ field (decimal t.retried) []
    → d ≡ c ++ field (decimal t.squares) [] → e ≡ d ++ mean_field t.peaks t.accepted → f ≡ e ++ (line_feed ∷ []) → f ≡ report_line t
unfolding report_line
report_laid a b c d e f t p₁ p₂ p₃ p₄ p₅ p₆ = rw (p₆, p₅, p₄, p₃, p₂, p₁) (simp append_assoc)
