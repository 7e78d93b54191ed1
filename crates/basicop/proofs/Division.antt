-- div_s: fifteen turns of shift and subtract come to the quotient (n · 32768) / d, rounded down and held to 32767, for 0 ≤ n ≤ d and 0 < d.
use Rattle.std.proofs.Common.{◌≡◌, refl, sym, ap, ◌∙◌, Bool, true, false, ℕ, zero, suc, min, ◌+◌, ◌*◌, ◌-◌, ◌/◌, ◌^◌, ◌<◌, ◌≤◌, pow-suc, div-lt_iff_lt-mul, arith, leb-true, leb-false, eqb-true, eq-eqb, ne_eqb, leb, eqb, ℤ, pos, negsuc, ◌*ℤ◌, ◌≤ℤ◌, ◌<ℤ◌, w16}
use Rattle.std.proofs.Math.Nat.{div-eq_of_lt-le, mul-div_cancel_left}
use Rattle.std.proofs.lemmas.Bool.{eqb-false}
use Rattle.std.specs.Int.Signed.{quot_z}
use Rattle.lists.specs.Lists.{iter}
use Rattle.basicop.specs.Ops.{clamp, Turn, turn, div_s}
use Rattle.basicop.proofs.Ints.{arith_ℤ}
use Rattle.basicop.proofs.Naturals.{minus}
use Rattle.basicop.proofs.Clamp.{clamp_pos}

-- after k turns: the quotient times d and what is left make n · 2 ^ k, and less than d is left
record Held (n d k : ℕ) (t : Turn) : Type 0 where
  pub num : ℕ
  pub quo : ℕ
  pub is : t ≡ record { num = pos num; quo = pos quo }
  pub sum : quo * d + num ≡ n * 2 ^ k
  pub less : num < d

held_turn : (n d k : ℕ) (t : Turn) → Held n d k t → Held n d (suc k) (turn (pos d) k t)
held_turn n d k t h = rw h.is (go (leb d (2 * h.num)) refl)
  where
    go : (b : Bool) → leb d (2 * h.num) ≡ b → Held n d (suc k) (turn (pos d) k (record { num = pos h.num; quo = pos h.quo }))
    go true e =
        let l : d ≤ 2 * h.num = leb-true d (2 * h.num) e in
        record {
          num = 2 * h.num - d;
          quo = 2 * h.quo + 1;
          is = rw (e, minus (2 * h.num) d l);
          sum = rw (pow-suc 2 k) (omega (arith, h.sum, h.less));
          less = omega (arith, h.less);
        }
    go false e =
        let l : 2 * h.num < d = leb-false d (2 * h.num) e in
        record {
          num = 2 * h.num;
          quo = 2 * h.quo;
          is = rw e;
          sum = rw (pow-suc 2 k) (omega (arith, h.sum));
          less = l;
        }

held : (n d : ℕ) → n < d → (k : ℕ) → Held n d k (iter (turn (pos d)) k (record { num = pos n; quo = pos 0 }))
unfolding iter
held n d l zero = record { num = n; quo = 0; is = refl; sum = omega arith; less = l }
held n d l (suc k) = held_turn n d k _ (held n d l k)

-- the quotient, rounded down
pub div_s_less : (n d : ℕ) → n < d → (div_s (pos n) (pos d)).value ≡ pos (n * 32768 / d)
unfolding div_s
div_s_less n d l =
    let h = held n d l 15 in
    rw (ne_eqb n d ne) (ap (λ (t : Turn). t.quo) h.is ∙ ap pos (sym (div-eq_of_lt-le d (omega (arith, h.sum)) (omega (arith, h.sum, h.less)))))
  where
    ne : n ≡ d → ⊥
    ne e = omega arith

pub div_s_same : (n : ℕ) → (div_s (pos n) (pos n)).value ≡ pos 32767
unfolding div_s
div_s_same n = rw (eq-eqb n n refl)

-- both as one
pub div_s_pos : (n d : ℕ) → 0 < d → n ≤ d → (div_s (pos n) (pos d)).value ≡ pos (min (n * 32768 / d) 32767)
div_s_pos n d p h = go (eqb n d) refl
  where
    go : (t : Bool) → eqb n d ≡ t → (div_s (pos n) (pos d)).value ≡ pos (min (n * 32768 / d) 32767)
    go true e = rw (eqb-true n d e) (div_s_same d ∙ ap pos (omega (arith, full)))
      where
        full : d * 32768 / d ≡ 32768
        full = mul-div_cancel_left 32768 p
    go false e =
        let l : n < d = omega (arith, eqb-false n d e) in
        let b : n * 32768 / d < 32768 = (div-lt_iff_lt-mul p).1 (omega arith) in
        div_s_less n d l ∙ ap pos (omega arith)

-- over ℤ, as the code divides
pub div_s_is : (n d : ℤ) → pos 0 ≤ℤ n → n ≤ℤ d → pos 0 <ℤ d → clamp w16 (quot_z (n *ℤ pos 32768) d) ≡ (div_s n d).value
div_s_is (pos n) (pos d) h l p = clamp_pos w16 (n * 32768 / d) ∙ sym (div_s_pos n d (omega arith_ℤ) (omega arith_ℤ))
div_s_is (pos n) (negsuc d) h l p = absurd p.lt
div_s_is (negsuc n) d h l p = absurd h.le
