-- A part of bytes is a part of their numbers.
use Rattle.std.proofs.Common.{◌≡◌, refl, ap, ap₂, ◌∙◌, List, [], ◌∷◌, map, ℕ, zero, suc, ◌+◌, ◌*◌, ◌<◌, arith, ℤ, length, take, drop, get_or}
use Rattle.lists.specs.Lists.{at}
use Rattle.lists.specs.Parts.{cut}
use Rattle.basicop.specs.Words.{Words}
use Rattle.coding.specs.Bytes.{signed16, unsigned, words, Bytes}
use Rattle.coding.proofs.Bytes.{words_fit}

-- two bytes for each number
abbrev pub doubled : List ℕ → List ℕ
doubled ns = map (λ (n : ℕ). 2 * n) ns

twice : (n : ℕ) → 2 * suc n ≡ suc (suc (2 * n))
twice n = omega arith

words_split : (n : ℕ) (b : List ℕ) → (words (take (2 * n) b) ≡ take n (words b)) × (words (drop (2 * n) b) ≡ drop n (words b))
unfolding words
words_split zero b = (refl, refl)
words_split (suc n) [] = rw (twice n) (refl, refl)
words_split (suc n) (x ∷ []) = rw (twice n) (refl, refl)
words_split (suc n) (x ∷ y ∷ b) = let h = words_split n b in rw (twice n) (ap (λ (l : List ℤ). signed16 (unsigned x y) ∷ l) h.0, h.1)

-- a number for each two bytes
pub words_length : (b : List ℕ) (n : ℕ) → length b ≡ 2 * n → length (words b) ≡ n
unfolding words
words_length [] n e = omega (arith, e)
words_length (x ∷ []) n e = absurd (omega (arith, e))
words_length (x ∷ y ∷ b) zero e = absurd (omega (arith, e))
words_length (x ∷ y ∷ b) (suc n) e = ap suc (words_length b n (omega (arith, e)))

pub words_of : (n : ℕ) (b : List ℕ) → length b ≡ 2 * n → Bytes b → Words n (words b)
words_of n b e f = record { count = words_length b n e; fit = words_fit b f }

-- the numbers of the parts of bytes are the parts of their numbers
pub words_cut : (ns : List ℕ) (b : List ℕ) → map words (cut (doubled ns) b) ≡ cut ns (words b)
words_cut [] b = refl
words_cut (n ∷ ns) b = let h = words_split n b in rw (h.0, ← h.1, words_cut ns (drop (2 * n) b))

pub at_words : (b : List ℕ) (k : ℕ) → 2 * k + 1 < length b → signed16 (unsigned (get_or b (2 * k) 0) (get_or b (2 * k + 1) 0)) ≡ at (words b) k
unfolding words
at_words [] k h = absurd (omega arith)
at_words (x ∷ []) k h = absurd (omega arith)
at_words (x ∷ y ∷ b) zero h = refl
at_words (x ∷ y ∷ b) (suc k) h =
    let e : 2 * suc k + 1 ≡ suc (suc (2 * k + 1)) = omega arith in
    ap₂ (λ (i j : ℕ). signed16 (unsigned (get_or (x ∷ y ∷ b) i 0) (get_or (x ∷ y ∷ b) j 0))) (twice k) e ∙ at_words b k (omega arith)
