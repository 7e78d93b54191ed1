-- An accepted sheet's line, by what is there after each piece.
use Rattle.std.proofs.Common.{◌≡◌, Bool, List, [], ◌∷◌, ◌++◌, map, append_assoc, ℕ}
use Rattle.lines.specs.Lines.{decimal, space, line_feed, flag_digit, mark_of, frame_line}

pub frame_laid : (n : ℕ) (flags : List Bool) (peak : ℕ) (a b c d e f g h : List ℕ) → a ≡ [] ++ decimal n → b ≡ a ++ (space ∷ []) → c ≡ b ++ map flag_digit flags → d ≡ c ++ (space ∷ [])
    → e ≡ d ++ decimal peak → f ≡ e ++ (space ∷ []) → g ≡ f ++ (mark_of peak flags ∷ []) → h ≡ g ++ (line_feed ∷ []) → h ≡ frame_line n flags peak
unfolding frame_line
frame_laid n flags peak a b c d e f g h p₁ p₂ p₃ p₄ p₅ p₆ p₇ p₈ = rw (p₈, p₇, p₆, p₅, p₄, p₃, p₂, p₁) (simp append_assoc)
