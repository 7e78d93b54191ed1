-- What the definitions of Lag.antt come to: by one computed test over all 256 indices where an index is in it.
use Rattle.std.proofs.Common.{◌≡◌, refl, ap, ap₂, ◌∙◌, Bool, true, false, cond, ◌&&◌, ℕ, min, max, ◌+◌, ◌-◌, ◌/◌, ◌%◌, ◌<◌, ◌≤◌, arith, lt-ltb, le-ltb, ltb-true, ltb-false, T, ltb, eqb, lit<, lit≤, ℤ, pos, negsuc, ◌+ℤ◌, ◌-ℤ◌, ◌≤ℤ◌, w16}
use Rattle.lists.specs.Lists.{eq_z}
use Rattle.lists.proofs.Table.{both_pass, below_each, eq_z→eq}
use Rattle.basicop.specs.Ops.{clamp, asr, add, sub, mult}
use borrow.Author.Differences.{sum_is_lem}
use Rattle.basicop.proofs.Ints.{arith_ℤ, sfits_by, sub_ℤ_is}
use Rattle.basicop.proofs.Clamp.{clamp_id}
use Rattle.basicop.proofs.Naturals.{add_pos, sub_pos}
use Rattle.pitch.specs.Lag.{Lag, absolute, relative, raised_20, lowered_134, lag_min, concealed_lag}

pub lag_eq : {l m : Lag} → l.samples ≡ m.samples → l.thirds ≡ m.thirds → l ≡ m
lag_eq p q = ap₂ (λ (s t : ℤ). record { samples = s; thirds = t }) p q

-- two lags are the same, as a test
same : Lag → Lag → Bool
same l m = eq_z l.samples m.samples && eq_z l.thirds m.thirds

same→eq : (l m : Lag) → T (same l m) → l ≡ m
unfolding same
same→eq l m t =
    let p = both_pass (eq_z l.samples m.samples) (eq_z l.thirds m.thirds) t in
    lag_eq (eq_z→eq l.samples m.samples p.0) (eq_z→eq l.thirds m.thirds p.1)

-- the thirds of a fractional index: 1, -1, 0 for n mod 3 = 0, 1, 2
abbrev pub thirds_at : ℕ → ℤ
thirds_at r = cond (eqb r 0) (pos 1) (cond (eqb r 1) (negsuc 0) (pos 0))

-- ---- an index, as the code has it
quotient : ℕ → Bool
quotient n = eq_z (mult (add (pos n) (pos 2)) (pos 10923)) (pos ((n + 2) / 3))

thirds : ℕ → Bool
thirds n = eq_z (relative (pos n) (pos 0)).thirds (thirds_at (n % 3))

pub quotient_is : (n : ℕ) → n < 256 → mult (add (pos n) (pos 2)) (pos 10923) ≡ pos ((n + 2) / 3)
unfolding quotient mult add asr clamp
quotient_is n h = eq_z→eq _ _ (below_each quotient 256 tt n h)

pub thirds_is : (n : ℕ) → n < 256 → (relative (pos n) (pos 0)).thirds ≡ thirds_at (n % 3)
unfolding thirds relative mult sub add asr clamp
thirds_is n h = eq_z→eq _ _ (below_each thirds 256 tt n h)

-- the thirds of a relative index have nothing to do with the lag before
pub thirds_same : (n t u : ℤ) → (relative n t).thirds ≡ (relative n u).thirds
unfolding relative
thirds_same n t u = refl

-- ---- subframes 0 and 2: below 197 by thirds, from there on whole
by_thirds : ℕ → Lag
by_thirds n = record { samples = pos ((n + 2) / 3 + 19); thirds = (relative (pos n) (pos 0)).thirds }

below_197 : ℕ → Bool
below_197 n = same (absolute (pos n)) (by_thirds n)

pub absolute_below : (n : ℕ) → n < 197 → absolute (pos n) ≡ record { samples = pos ((n + 2) / 3 + 19); thirds = (relative (pos n) (pos 0)).thirds }
unfolding below_197 by_thirds same absolute relative mult sub add asr clamp
absolute_below n h = same→eq (absolute (pos n)) (by_thirds n) (below_each below_197 197 tt n h)

whole : ℕ → Lag
whole k = record { samples = pos (85 + k); thirds = pos 0 }

from_197 : ℕ → Bool
from_197 k = same (absolute (pos (197 + k))) (whole k)

absolute_197 : (k : ℕ) → k < 59 → absolute (pos (197 + k)) ≡ record { samples = pos (85 + k); thirds = pos 0 }
unfolding from_197 whole same absolute mult sub add asr clamp
absolute_197 k h = same→eq (absolute (pos (197 + k))) (whole k) (below_each from_197 59 tt k h)

pub absolute_from : (n : ℕ) → 197 ≤ n → n < 256 → absolute (pos n) ≡ record { samples = pos (n - 112); thirds = pos 0 }
absolute_from n l h =
    let e : 197 + (n - 197) ≡ n = omega arith in
    let f : 85 + (n - 197) ≡ n - 112 = omega arith in
    rw (e, f) at (absolute_197 (n - 197) (omega arith))

-- ---- the least lag after t
low : ℕ → Bool
low t = eq_z (lag_min (pos t)) (pos (max 20 (t - 5)))

lag_min_low : (t : ℕ) → t < 140 → lag_min (pos t) ≡ pos (max 20 (t - 5))
unfolding low lag_min sub add clamp
lag_min_low t h = eq_z→eq _ _ (below_each low 140 tt t h)

raised_keeps : (m : ℕ) → 20 ≤ m → raised_20 (pos m) ≡ pos m
raised_keeps m h = rw (sub_pos m 20 h, le-ltb (min (m - 20) 32767) 0 (omega arith))

lowered_holds : (m : ℕ) → 135 ≤ m → lowered_134 (pos m) ≡ pos 134
lowered_holds m h =
    let k = min (m + 9) 32767 in
    rw (add_pos m 9, sub_pos k 143 (omega arith), lt-ltb 0 (min (k - 143) 32767) (omega arith)) (sub_pos 143 9 (lit≤ tt))

lag_min_high : (t : ℕ) → 140 ≤ t → lag_min (pos t) ≡ pos 134
unfolding lag_min
lag_min_high t h = rw (sub_pos t 5 (omega arith), raised_keeps (min (t - 5) 32767) (omega arith)) (lowered_holds (min (t - 5) 32767) (omega arith))

pub lag_min_is : (t : ℕ) → lag_min (pos t) ≡ pos (max 20 (min (t - 5) 134))
lag_min_is t = go (ltb t 140) refl
  where
    go : (b : Bool) → ltb t 140 ≡ b → lag_min (pos t) ≡ pos (max 20 (min (t - 5) 134))
    go true e = lag_min_low t (ltb-true t 140 e) ∙ ap pos (omega (arith, ltb-true))
    go false e = lag_min_high t (ltb-false t 140 e) ∙ ap pos (omega (arith, ltb-false))

-- ---- subframes 1 and 3
moved : (q m : ℕ) → q ≤ 85 → 20 ≤ m → m ≤ 134 → add (sub (pos q) (pos 1)) (pos m) ≡ pos (m + q - 1)
unfolding add sub
moved q m h l u =
    let d = sub_ℤ_is (pos q) (pos 1) in
    let s = sum_is_lem (pos q -ℤ pos 1) (pos m) in
    rw (clamp_id w16 (pos q -ℤ pos 1) (sfits_by (omega (arith_ℤ, d)))) (clamp_id w16 ((pos q -ℤ pos 1) +ℤ pos m) (sfits_by (omega (arith_ℤ, d, s))) ∙ omega (arith_ℤ, d, s))

pub relative_is : (n t m : ℕ) → n < 256 → lag_min (pos t) ≡ pos m → 20 ≤ m → m ≤ 134 → relative (pos n) (pos t) ≡ record { samples = pos (m + (n + 2) / 3 - 1); thirds = (relative (pos n) (pos 0)).thirds }
unfolding relative
relative_is n t m h e l u = lag_eq (rw (quotient_is n h, e) (moved ((n + 2) / 3) m (omega arith) l u)) refl

-- ---- a subframe of an erased frame
one_more : ℕ → Lag
one_more t = record { samples = pos (t + 1); thirds = pos 0 }

below_143 : ℕ → Bool
below_143 t = same (concealed_lag (pos t)) (one_more t)

pub concealed_below : (t : ℕ) → t < 143 → concealed_lag (pos t) ≡ record { samples = pos (t + 1); thirds = pos 0 }
unfolding below_143 one_more same concealed_lag sub add clamp
concealed_below t h = same→eq (concealed_lag (pos t)) (one_more t) (below_each below_143 143 tt t h)

pub concealed_from : (t : ℕ) → 143 ≤ t → concealed_lag (pos t) ≡ record { samples = pos t; thirds = pos 0 }
unfolding concealed_lag
concealed_from t h = rw (sub_pos t 143 h, le-ltb (min (t - 143) 32767) 0 (omega arith))

-- ---- every lag that a sheet's indices give lies in 19..=144, and 144 occurs only with -1/3
pub record Lawful (l : Lag) : Type 0 where
  pub samples : ℕ
  pub is : l.samples ≡ pos samples
  pub from : 19 ≤ samples
  pub to : samples ≤ 144
  pub last : samples ≡ 144 → l.thirds ≡ negsuc 0

pub absolute_lawful : (n : ℕ) → n < 256 → Lawful (absolute (pos n))
absolute_lawful n h = go (ltb n 197) refl
  where
    go : (b : Bool) → ltb n 197 ≡ b → Lawful (absolute (pos n))
    go true e = let l = ltb-true n 197 e in rw (absolute_below n l) (record { samples = (n + 2) / 3 + 19; is = refl; from = omega arith; to = omega arith; last = λ f. absurd (no n l f) })
      where
        no : (n : ℕ) → n < 197 → (n + 2) / 3 + 19 ≡ 144 → ⊥
        no n l f = omega arith
    go false e = let l = ltb-false n 197 e in rw (absolute_from n l h) (record { samples = n - 112; is = refl; from = omega arith; to = omega arith; last = λ f. absurd (no n h f) })
      where
        no : (n : ℕ) → n < 256 → n - 112 ≡ 144 → ⊥
        no n h f = omega arith

pub relative_lawful : (n t : ℕ) → n < 32 → Lawful (relative (pos n) (pos t))
relative_lawful n t h =
    let m = max 20 (min (t - 5) 134) in
    rw (relative_is n t m (omega arith) (lag_min_is t) (omega arith) (omega arith))
    (record {
      samples = m + (n + 2) / 3 - 1;
      is = refl;
      from = omega arith;
      to = omega arith;
      last = λ e. let k : n ≡ 31 = omega arith in rw k (thirds_is 31 (lit< tt));
    })

-- ---- every lag that a frame has, good or erased, lies in 19..=144
pub record Span (l : Lag) : Type 0 where
  pub from : pos 19 ≤ℤ l.samples
  pub to : l.samples ≤ℤ pos 144

pub lawful_span : {l : Lag} → Lawful l → Span l
lawful_span w = record { from = rw w.is (omega (arith_ℤ, w.from)); to = rw w.is (omega (arith_ℤ, w.to)) }

pub concealed_span : (t : ℤ) → pos 19 ≤ℤ t → t ≤ℤ pos 144 → Span (concealed_lag t)
concealed_span (pos n) h l = go (ltb n 143) refl
  where
    go : (b : Bool) → ltb n 143 ≡ b → Span (concealed_lag (pos n))
    go true e = let k = ltb-true n 143 e in rw (concealed_below n k) (record { from = omega (arith_ℤ, h, k); to = omega (arith_ℤ, k) })
    go false e = rw (concealed_from n (ltb-false n 143 e)) (record { from = h; to = l })
concealed_span (negsuc n) h l = absurd h.le
