-- What a sample is made of, by places from 0 on, as the code has them.
use Rattle.std.proofs.Common.{◌≡◌, ◌∙◌, List, ℕ, ◌+◌, ◌-◌, ◌<◌, ◌≤◌, arith, ℤ, pos, take, get_or-take}
use Rattle.lists.specs.Lists.{at}
use Rattle.basicop.specs.Ops.{l_mac}
use Rattle.basicop.proofs.Naturals.{minus}
use Rattle.adaptive.specs.Predict.{tap_pair, interpolated}
use Rattle.lists.proofs.Count.{iter_same}

pub turn_at : (x : List ℤ) (p i : ℕ) (c d : ℕ → ℤ) (s : ℤ) → i ≤ p → l_mac (l_mac s (at x (p - i)) (c i)) (at x (p + 1 + i)) (d i) ≡ tap_pair x (pos p) c d i s
turn_at x p i c d s h = rw (minus p i h)

-- a sample about place p reads below q alone, and ten coefficients of each side
module _ (x : List ℤ) (p q : ℕ) (c c' d d' : ℕ → ℤ) (lo : 9 ≤ p) (hi : p + 10 < q) (el : (i : ℕ) → i < 10 → c i ≡ c' i) (er : (i : ℕ) → i < 10 → d i ≡ d' i) where
  turn_same : (i : ℕ) → i < 10 → (s : ℤ) → tap_pair x (pos p) c d i s ≡ tap_pair (take q x) (pos p) c' d' i s
  turn_same i h s =
      let a : p - i < q = omega arith in
      let b : p + 1 + i < q = omega arith in
      rw (minus p i (omega arith), get_or-take q x (p - i) (pos 0) a, get_or-take q x (p + 1 + i) (pos 0) b, el i h, er i h)

  pub sample_same : {v : ℤ} → v ≡ interpolated x (pos p) c d → v ≡ interpolated (take q x) (pos p) c' d'
  unfolding interpolated
  sample_same e = e ∙ rw (iter_same 10 (pos 0) turn_same)
