-- preemphasis: its length and its entries.
use Rattle.std.proofs.Common.{ℕ, ◌<◌, ◌≡◌, List, ◌∷◌, arith, ℤ, length}
use Rattle.lists.specs.Lists.{at}
use Rattle.lists.proofs.Entries.{at_pairwise}
use Rattle.postfilter.specs.Preemphasis.{emphasised, preemphasised}
use Rattle.postfilter.proofs.Lists.{length_pairwise_most}

module _ (tilt carried : ℤ) (res : List ℤ) where
  pub preemphasised_length : length (preemphasised tilt carried res) ≡ length res
  unfolding preemphasised
  preemphasised_length = length_pairwise_most (emphasised tilt) res (carried ∷ res) (omega arith)

  pub preemphasised_at : (i : ℕ) → i < length res → emphasised tilt (at res i) (at (carried ∷ res) i) ≡ at (preemphasised tilt carried res) i
  unfolding preemphasised
  preemphasised_at i h = at_pairwise (emphasised tilt) res (carried ∷ res) i h (omega arith)
