-- Lags lie in 19..=144: those of accepted pitch indices, and those of an erased frame.
use Rattle.std.proofs.Common.{ℕ, zero, suc, ◌≤◌, ◌≡◌, sym, subst, List, arith, leb→le, ℤ, pos, negsuc, ◌≤ℤ◌}
use Rattle.lists.specs.Lists.{at, Every}
use Rattle.lists.proofs.Entries.{every_append, every_map}
use Rattle.basicop.proofs.Ints.{arith_ℤ}
use Rattle.pitch.specs.declared.PitchLag.{PitchLag}
use Rattle.pitch.specs.Lag.{Lag, absolute, relative, concealed_lag, lag_of}
use Rattle.pitch.proofs.Lags.{Lawful, absolute_lawful, relative_lawful, Span, lawful_span, concealed_span}
use Rattle.kinds.specs.Sheet.{lag_pair, lags_of, concealed_lags}
use Rattle.kinds.specs.Accepted.{In, PitchIndices}

absolute_range : (z : ℤ) → In (pos 0) (pos 255) z → Lawful (absolute z)
absolute_range (pos n) h = absolute_lawful n (omega (arith, leb→le n 255 h.1.le))
absolute_range (negsuc n) h = absurd h.0.le

relative_range : (z : ℤ) (l : Lag) → In (pos 0) (pos 31) z → Lawful l → Lawful (relative z l.samples)
relative_range (pos n) l h w = rw w.is (relative_lawful n w.samples (omega (arith, leb→le n 31 h.1.le)))
relative_range (negsuc n) l h w = absurd h.0.le

pair_lawful : (n m : ℤ) → In (pos 0) (pos 255) n → In (pos 0) (pos 31) m → Every Lawful (lag_pair n m)
pair_lawful n m h k = let a = absolute_range n h in (a, (relative_range m (absolute n) k a, tt))

pub lags_span : {sheet : List ℤ} → PitchIndices sheet → Every Span (lags_of sheet)
lags_span {sheet} i =
    every_map (λ (l : Lag) (w : Lawful l). lawful_span w) (lags_of sheet)
    (every_append Lawful (lag_pair (at sheet 10) (at sheet 11)) (lag_pair (at sheet 12) (at sheet 13)) (pair_lawful _ _ i.a i.b) (pair_lawful _ _ i.c i.d))

pub concealed_lags_span : (n : ℕ) (t : ℤ) → pos 19 ≤ℤ t → t ≤ℤ pos 144 → Every Span (concealed_lags n t)
concealed_lags_span zero t h l = tt
concealed_lags_span (suc n) t h l = let s = concealed_span t h l in (s, concealed_lags_span n (concealed_lag t).samples s.from s.to)

-- ---- the code's
abbrev pub LagBounds : PitchLag → Type 0
LagBounds l = (19 ≤ l.samples) × (l.samples ≤ 144)

pub lag_in : (l : PitchLag) → Span (lag_of l) → LagBounds l
lag_in l s = (omega (arith_ℤ, s.from), omega (arith_ℤ, s.to))

-- of two subframes, by their indices i and j, the second after the first
pub pair_in : (k l : PitchLag) {i j : ℕ} {n m : ℤ} → pos i ≡ n → pos j ≡ m → lag_of k ≡ absolute (pos i) → lag_of l ≡ relative (pos j) (lag_of k).samples
    → In (pos 0) (pos 255) n → In (pos 0) (pos 31) m → LagBounds k × LagBounds l
pair_in k l ei ej ek el h g =
    let a = subst Lawful (sym ek) (absolute_range _ (rw ei h)) in
    (lag_in k (lawful_span a), lag_in l (lawful_span (subst Lawful (sym el) (relative_range _ (lag_of k) (rw ej g) a))))
