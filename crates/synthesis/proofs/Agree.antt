-- The theorem of specs/Agree.antt: up to the first sample at which one lies outside 32 bits, the numbers before the clamps and the whole numbers are the same.
use Rattle.std.proofs.Common.{ℕ, zero, suc, ◌≡◌, refl, sym, ap, ◌∙◌, false, List, [], ◌∷◌, ◌++◌, ℤ, pos, ◌+ℤ◌, ◌-ℤ◌, ◌*ℤ◌, length, take, drop, w32}
use Rattle.std.proofs.Math.IntN.{*ℤ_comm}
use Rattle.std.proofs.lemmas.List.{drop-take}
use Rattle.lists.specs.Lists.{at}
use Rattle.basicop.specs.Ops.{asr, clamp, l_mult, l_sub, l_shl, l_add}
use Rattle.synthesis.specs.Recursion.{outside, recursion, some_outside}
use Rattle.synthesis.specs.Synthesis.{acc, accs, shifted, unheld, sample, samples}
use Rattle.synthesis.specs.Whole.{product, sum, sums, wholes, whole, last, whole_samples, retried_at}
use Rattle.synthesis.specs.Agree.{Agree}
use Rattle.synthesis.proofs.Flags.{or_same, inside_clamp, leaves_one, leaves_two, two_none}
use Rattle.synthesis.proofs.Fed.{at_same, any_same, fed_same, until_same}

-- two numbers more after numbers that agree: v only where u lies inside
steps_same : (us us' : List ℤ) (u v u' v' : ℤ) → some_outside us' ≡ some_outside us → (some_outside us ≡ false → u' ≡ u) → (some_outside us ≡ false → outside u ≡ false → v' ≡ v) → some_outside (us' ++ (u' ∷ v' ∷ [])) ≡ some_outside (us ++ (u ∷ v ∷ []))
steps_same us us' u v u' v' e f g =
    rw (leaves_two us' u' v', leaves_two us u v)
    (or_same (some_outside us') (some_outside us) _ _ e (λ i. or_same (outside u') (outside u) _ _ (ap outside (f i)) (λ j. ap outside (g i j))))

-- ---- one sample
module _ (a : List ℤ) (x : ℤ) (y : List ℤ) where
  pub acc_same : (k : ℕ) → some_outside (sums a x y k) ≡ false → acc a x y k ≡ sum a x y k
  unfolding acc sum sums l_mult l_sub
  acc_same zero e = rw (*ℤ_comm x (at a 0)) (inside_clamp (pos 2 *ℤ (at a 0 *ℤ x)) (sym (leaves_one (pos 2 *ℤ (at a 0 *ℤ x))) ∙ e))
  acc_same (suc k) e =
      let n = two_none (sums a x y k) (product a y (suc k)) (sum a x y (suc k)) e in
      rw (acc_same k n.0, inside_clamp (product a y (suc k)) n.1.0) (inside_clamp (sum a x y k -ℤ product a y (suc k)) n.1.1)

  accs_same : (k : ℕ) → some_outside (accs a x y k) ≡ some_outside (sums a x y k)
  unfolding accs sum sums l_mult
  accs_same zero = rw (*ℤ_comm x (at a 0))
  accs_same (suc k) =
      steps_same (sums a x y k) (accs a x y k) (product a y (suc k)) (sum a x y k -ℤ product a y (suc k)) (product a y (suc k)) (acc a x y k -ℤ clamp w32 (product a y (suc k)))
      (accs_same k)
      (λ e. refl)
      (λ e i. rw (acc_same k e, inside_clamp (product a y (suc k)) i))

  module _ (m : ℕ) where
    pub unheld_same : some_outside (unheld m a x y) ≡ some_outside (wholes m a x y)
    unfolding l_shl
    unheld_same =
        steps_same (sums a x y m) (accs a x y m) (sum a x y m *ℤ pos 8) (last m a x y) (acc a x y m *ℤ pos 8) (shifted m a x y +ℤ pos 32768)
        (accs_same m)
        (λ e. rw (acc_same m e))
        (λ e i. rw (acc_same m e, inside_clamp (sum a x y m *ℤ pos 8) i))

    pub sample_same : some_outside (wholes m a x y) ≡ false → sample m a x y ≡ whole m a x y
    unfolding l_shl l_add
    sample_same e =
        let n = two_none (sums a x y m) (sum a x y m *ℤ pos 8) (last m a x y) e in
        rw (acc_same m n.0, inside_clamp (sum a x y m *ℤ pos 8) n.1.0) (ap (λ (z : ℤ). asr z 16) (inside_clamp (last m a x y) n.1.1))

-- ---- all the samples
module _ (m : ℕ) (a xs h : List ℤ) where
  before_same : length h ≡ m → take (retried_at m a xs h) (samples m a xs h) ≡ take (retried_at m a xs h) (whole_samples m a xs h)
  before_same l =
      let n = retried_at m a xs h in
      let s = recursion (sample m a) xs h in
      let w = recursion (whole m a) xs h in
      let e = until_same (whole m a) (sample m a) (wholes m a) (unheld m a) (λ x y. unheld_same a x y m) (λ x y. sample_same a x y m) xs h in
      sym (drop-take m n s) ∙ ap (drop m) (rw l at e) ∙ drop-take m n w

  pub agree : length h ≡ m → Agree m a xs h
  agree l =
      record {
        place = at_same (whole m a) (sample m a) (wholes m a) (unheld m a) (λ x y. unheld_same a x y m) (λ x y. sample_same a x y m) xs h;
        flag = any_same (whole m a) (sample m a) (wholes m a) (unheld m a) (λ x y. unheld_same a x y m) (λ x y. sample_same a x y m) xs h;
        before = before_same l;
        all = λ e. ap (drop m) (fed_same (whole m a) (sample m a) (wholes m a) (unheld m a) (λ x y. unheld_same a x y m) (λ x y. sample_same a x y m) xs h e);
      }
