-- A prediction from 154 past samples has forty.
use Rattle.std.proofs.Common.{◌≡◌, ◌∙◌, List, ℤ, length, length-drop}
use Rattle.pitch.specs.Lag.{Lag}
use Rattle.adaptive.specs.Predict.{phase, start, sample_at, extended, predicted}
use Rattle.lists.proofs.Grow.{length_grow}

module _ (past : List ℤ) (l : Lag) (h : length past ≡ 154) where
  pub predicted_length : length (predicted past l) ≡ 40
  unfolding predicted extended
  predicted_length = length-drop 154 (extended past l) ∙ rw (length_grow (sample_at (start l) (phase l)) past 40, h)
