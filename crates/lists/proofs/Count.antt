-- A loop that goes by a count: s after f 0, f 1, .. f (n − 1).
use Rattle.std.proofs.Common.{ℕ, zero, suc, ◌+◌, ◌<◌, ◌≡◌, refl, ap, ◌∙◌, add-one, arith}
use Rattle.lists.specs.Lists.{iter}

pub record Iter {S : Type 0} (f : ℕ → S → S) (s₀ s : S) (n : ℕ) : Type 0 where
  pub is : s ≡ iter f n s₀

pub iter_none : {S : Type 0} {f : ℕ → S → S} {s₀ s : S} → s ≡ s₀ → Iter f s₀ s 0
unfolding iter
iter_none e = record { is = e }

pub iter_more : {S : Type 0} {f : ℕ → S → S} {s₀ s t : S} {n : ℕ} → Iter f s₀ s n → t ≡ f n s → Iter f s₀ t (n + 1)
unfolding iter
iter_more {f = f} {n = n} r e = record { is = rw add-one (e ∙ ap (f n) r.is) }

pub iter_done : {S : Type 0} {f : ℕ → S → S} {s₀ s : S} {n : ℕ} → Iter f s₀ s n → (m : ℕ) → n ≡ m → s ≡ iter f m s₀
iter_done r m e = rw e at r.is

-- steps that do the same below n lead to the same
pub iter_same : {S : Type 0} {f g : ℕ → S → S} (n : ℕ) (s : S) → ((k : ℕ) → k < n → (s : S) → f k s ≡ g k s) → iter f n s ≡ iter g n s
unfolding iter
iter_same zero s h = refl
iter_same {f = f} {g} (suc n) s h = ap (f n) (iter_same n s (λ k l t. h k (omega arith) t)) ∙ h n (omega arith) (iter g n s)
