-- Four rows of a record, each read where the one before ends.
use Rattle.std.proofs.Common.{◌≡◌, ap, ◌∙◌, List, [], ◌∷◌, ℕ, ◌+◌, ◌<◌, arith, ℤ, length, take, drop, length-drop, drop-drop}
use Rattle.lists.specs.Parts.{cut}
use Rattle.coding.specs.Bytes.{words}
use Rattle.coding.proofs.Words.{words_cut}

pub four_rows : (r r₁ r₂ r₃ r₄ : List ℕ) (a b c d : List ℤ) → a ≡ words (take 22 r) → r₁ ≡ drop 22 r → b ≡ words (take 22 r₁) → r₂ ≡ drop 22 r₁ → c ≡ words (take 22 r₂) → r₃ ≡ drop 22 r₂ → d ≡ words (take 22 r₃) → r₄ ≡ drop 22 r₃
    → (a ∷ b ∷ c ∷ d ∷ [] ≡ cut (11 ∷ 11 ∷ 11 ∷ 11 ∷ []) (words r)) × (r₄ ≡ drop 88 r)
four_rows r r₁ r₂ r₃ r₄ a b c d ea e₁ eb e₂ ec e₃ ed e₄ =
    let f₂ : r₂ ≡ drop 22 (drop 22 r) = e₂ ∙ ap (drop 22) e₁ in
    let f₃ : r₃ ≡ drop 22 (drop 22 (drop 22 r)) = e₃ ∙ ap (drop 22) f₂ in (
      (λ i. ea i ∷ (eb ∙ ap (λ (x : List ℕ). words (take 22 x)) e₁) i ∷ (ec ∙ ap (λ (x : List ℕ). words (take 22 x)) f₂) i ∷ (ed ∙ ap (λ (x : List ℕ). words (take 22 x)) f₃) i ∷ [])
          ∙ words_cut (11 ∷ 11 ∷ 11 ∷ 11 ∷ []) r,
      e₄ ∙ ap (drop 22) f₃ ∙ rw (drop-drop 22 22 r, drop-drop 22 44 r, drop-drop 22 66 r),
    )

-- too few bytes after the first n are too few
pub too_few : (n m : ℕ) (r s : List ℕ) → s ≡ drop n r → length s < m → length r < n + m
too_few n m r s e h = omega (arith, ap length e, length-drop n r)
