-- Sums that no L_mac clamps, of numbers that are not large by coefficients whose sizes come to less than 65536.
use Rattle.std.proofs.Common.{◌≡◌, ap, ◌∙◌, Bool, true, List, ℕ, suc, ◌+◌, ◌-◌, ◌*◌, ◌<◌, ◌≤◌, le_refl, add-one, arith, ℤ, pos, nat_abs, ◌*ℤ◌}
use Rattle.lists.specs.Lists.{at}
use Rattle.lists.proofs.Count.{Iter, iter_none, iter_more}
use Rattle.basicop.specs.Ops.{l_mac}
use Rattle.basicop.specs.Inner.{sizes}
use Rattle.basicop.proofs.Range.{mul_bound}
use Rattle.basicop.proofs.Unclamped.{sizes_most, Step, step}
use Rattle.adaptive.specs.Predict.{tap_pair}
use Rattle.adaptive.specs.Inner.{limit, Quiet}
use Rattle.adaptive.proofs.Tested.{large_no}
use Rattle.adaptive.proofs.Samples.{turn_at}

module _ (x : List ℤ) (p : ℕ) (c d : ℕ → ℤ) (plain : Bool) where
  -- the sum after n turns
  pub record Summed (s : ℤ) (n : ℕ) : Type 0 where
    pub run : Iter (tap_pair x (pos p) c d) (pos 0) s n
    pub size : plain ≡ true → nat_abs s ≤ 2 * (limit * (sizes c n + sizes d n))

  pub summed_none : {s : ℤ} → s ≡ pos 0 → Summed s 0
  unfolding sizes
  summed_none e = record { run = iter_none e; size = λ q. rw e (le_refl 0) }

  module _ (light : sizes c 10 + sizes d 10 < 65536) (quiet : plain ≡ true → Quiet (p + 11) x) (lo : 9 ≤ p) {s : ℤ} {n : ℕ} (r : Summed s n) (l : n < 10) where
    room : sizes c n + sizes d n + nat_abs (c n) + nat_abs (d n) < 65536
    unfolding sizes
    room = omega (arith, sizes_most c (suc n) 10 l, sizes_most d (suc n) 10 l)

    -- a number that is not large by a coefficient
    bound : (i : ℕ) (b : ℤ) → i < p + 11 → plain ≡ true → nat_abs (at x i *ℤ b) ≤ limit * nat_abs b
    bound i b h q = mul_bound (at x i) b (large_no _ (quiet q i h)) (le_refl _)

    pub first : plain ≡ true → Step limit (sizes c n + sizes d n) (nat_abs (c n)) s (at x (p - n)) (c n)
    first q = step limit _ _ _ _ _ (r.size q) (bound (p - n) (c n) (omega arith) q) (omega (arith, room))

    -- t and v: the sums after the two steps
    module _ {t : ℤ} (et : t ≡ l_mac s (at x (p - n)) (c n)) where
      pub second : plain ≡ true → Step limit (sizes c n + sizes d n + nat_abs (c n)) (nat_abs (d n)) t (at x (p + 1 + n)) (d n)
      second q = step limit _ _ _ _ _ (rw et (first q).size) (bound (p + 1 + n) (d n) (omega arith) q) (omega (arith, room))

      pub summed_more : {v : ℤ} → v ≡ l_mac t (at x (p + 1 + n)) (d n) → Summed v (n + 1)
      unfolding sizes
      summed_more ev =
          record {
            run = iter_more r.run (ev ∙ ap (λ (z : ℤ). l_mac z (at x (p + 1 + n)) (d n)) et ∙ turn_at x p n c d s (omega arith));
            size = λ q. rw (add-one n, ev) (omega (arith, (second q).size));
          }
