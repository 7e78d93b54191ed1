-- An accepted frame and its energies as a record has them, each part read where the one before ends.
use Rattle.std.proofs.Common.{◌≡◌, ap, ◌∙◌, Bool, true, false, IsTrue, ◌↔◌, List, [], ◌∷◌, ℕ, ℤ, take, drop, drop-drop}
use Rattle.lists.specs.Parts.{cut}
use Rattle.coding.specs.Bytes.{words}
use Rattle.recorded.specs.Words.{places_in}
use Rattle.recorded.specs.Compare.{IsGiven, IsFrame}
use Rattle.recorded.specs.declared.calls.Frame.{Frame}

pub frame_read : (r r₁ r₂ r₃ r₄ : List ℕ) (samples : List ℤ) (places : List ℕ) (rows : List (List ℤ)) (next : List ℕ) (f : Frame) (same : Bool)
    → samples ≡ words (take 320 r) → r₁ ≡ drop 320 r → places ≡ places_in r₁ → r₂ ≡ drop 8 r₁
    → rows ≡ cut (11 ∷ 11 ∷ 11 ∷ 11 ∷ []) (words r₂) → r₃ ≡ drop 88 r₂ → next ≡ take 426 r₃ → r₄ ≡ drop 426 r₃
    → (IsTrue same ↔ IsGiven samples places rows next f)
    → (IsTrue same ↔ IsFrame r f) × (r₄ ≡ drop 842 r)
frame_read r r₁ r₂ r₃ r₄ samples places rows next f same es e₁ ep e₂ er e₃ en e₄ given =
    let f₂ : r₂ ≡ drop 328 r = e₂ ∙ ap (drop 8) e₁ ∙ drop-drop 8 320 r in
    let f₃ : r₃ ≡ drop 416 r = e₃ ∙ ap (drop 88) f₂ ∙ drop-drop 88 328 r in
    let sp : places ≡ places_in (drop 320 r) = ep ∙ ap places_in e₁ in
    let sr : rows ≡ cut (11 ∷ 11 ∷ 11 ∷ 11 ∷ []) (words (drop 328 r)) = er ∙ ap (λ (x : List ℕ). cut (11 ∷ 11 ∷ 11 ∷ 11 ∷ []) (words x)) f₂ in
    let sn : next ≡ take 426 (drop 416 r) = en ∙ ap (take 426) f₃ in (
      rw (es, sp, sr, sn) at given,
      e₄ ∙ ap (drop 426) f₃ ∙ drop-drop 426 416 r,
    )

pub energies_read : (r r₁ r₂ : List ℕ) (after energies : List ℤ) (f : Frame) (agrees same : Bool)
    → (IsTrue agrees ↔ IsFrame r f) → r₁ ≡ drop 842 r → after ≡ words (take 8 r₁) → r₂ ≡ drop 8 r₁
    → (IsTrue same ↔ (after ≡ energies)) → agrees ≡ true
    → (IsTrue same ↔ (IsFrame r f × (words (take 8 (drop 842 r)) ≡ energies))) × (r₂ ≡ drop 850 r)
energies_read r r₁ r₂ after energies f agrees same frame e₁ ea e₂ sames on =
    let sa : after ≡ words (take 8 (drop 842 r)) = ea ∙ ap (λ (x : List ℕ). words (take 8 x)) e₁ in
    let g : IsTrue same ↔ (words (take 8 (drop 842 r)) ≡ energies) = rw sa at sames in (
      (λ t. (frame.0 on, g.0 t), λ both. g.1 both.1),
      e₂ ∙ ap (drop 8) e₁ ∙ drop-drop 8 842 r,
    )

pub energies_unread : (r r₁ r₂ : List ℕ) (energies : List ℤ) (f : Frame) (agrees : Bool)
    → (IsTrue agrees ↔ IsFrame r f) → r₁ ≡ drop 842 r → r₂ ≡ drop 8 r₁ → agrees ≡ false
    → (IsTrue agrees ↔ (IsFrame r f × (words (take 8 (drop 842 r)) ≡ energies))) × (r₂ ≡ drop 850 r)
energies_unread r r₁ r₂ energies f agrees frame e₁ e₂ off = (
  (λ t. cc, λ both. frame.1 both.0),
  e₂ ∙ ap (drop 8) e₁ ∙ drop-drop 8 842 r,
)
