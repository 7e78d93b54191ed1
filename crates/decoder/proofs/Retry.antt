-- The retries of a subframe are what specs/Retry.antt says.
use Rattle.std.proofs.Common.{ℕ, zero, suc, ◌≡◌, refl, sym, ap, ◌∙◌, Bool, true, false, cond, List, [], ◌∷◌, ℤ, pos, negsuc, length, drop, ◌≤ℤ◌, w16, SFits}
use Rattle.std.specs.Int.Signed.{le_z_yes}
use Rattle.lists.specs.Lists.{at}
use Rattle.lists.proofs.Entries.{each_append, each_drop}
use Rattle.basicop.specs.Ops.{quartered}
use Rattle.synthesis.specs.Whole.{retried, retried_at}
use Rattle.synthesis.proofs.Agree.{agree}
use Rattle.excitation.proofs.Ranges.{quarter_range}
use Rattle.decoder.specs.Subframe.{SynthesisInput, SynthesisResult, unretried_result, retried_result, synthesis_result}
use Rattle.decoder.specs.Retry.{Retry}

-- a number in -8192..=8191
abbrev pub Small : ℤ → Type 0
Small z = (negsuc 8191 ≤ℤ z) × (z ≤ℤ pos 8191)

small_zero : Small (pos 0)
small_zero = (le_z_yes tt, le_z_yes tt)

quartered_small : (zs : List ℤ) → ((i : ℕ) → SFits w16 (at zs i)) → (i : ℕ) → Small (at (quartered zs) i)
quartered_small [] f i = small_zero
quartered_small (z ∷ zs) f zero = quarter_range z (f 0)
quartered_small (z ∷ zs) f (suc i) = quartered_small zs (λ j. f (suc j)) i

module _ (f : SynthesisInput) (h p : List ℤ) (l : length h ≡ 10) where
  flagged : (b : Bool) → retried 10 f.row f.excitation h ≡ b → synthesis_result f h p ≡ cond b (retried_result f h p) (unretried_result f h p)
  unfolding synthesis_result
  flagged b e = rw ((agree 10 f.row f.excitation h l).flag, e)

  -- the two cases
  flag_is : (b : Bool) → retried 10 f.row f.excitation h ≡ b → (synthesis_result f h p).retried ≡ retried 10 f.row f.excitation h
  flag_is true e = ap (λ (s : SynthesisResult). s.retried) (flagged true e) ∙ sym e
  flag_is false e = ap (λ (s : SynthesisResult). s.retried) (flagged false e) ∙ sym e

  place_is : (b : Bool) → retried 10 f.row f.excitation h ≡ b → (synthesis_result f h p).place ≡ retried_at 10 f.row f.excitation h
  place_is true e = ap (λ (s : SynthesisResult). s.place) (flagged true e) ∙ (agree 10 f.row f.excitation h l).place
  place_is false e = ap (λ (s : SynthesisResult). s.place) (flagged false e) ∙ (agree 10 f.row f.excitation h l).place

  pub retry : Retry f h p
  retry =
      record {
        flag = flag_is (retried 10 f.row f.excitation h) refl;
        place = place_is (retried 10 f.row f.excitation h) refl;
        unretried_samples = λ e. ap (λ (s : SynthesisResult). s.samples) (flagged false e) ∙ (agree 10 f.row f.excitation h l).all e;
        unretried_feedback = λ e. ap (λ (s : SynthesisResult). s.feedback) (flagged false e);
        unretried_past = λ e. ap (λ (s : SynthesisResult). s.past) (flagged false e);
        retried_samples = λ e. ap (λ (s : SynthesisResult). s.samples) (flagged true e);
        retried_feedback = λ e. ap (λ (s : SynthesisResult). s.feedback) (flagged true e);
        retried_past = λ e. ap (λ (s : SynthesisResult). s.past) (flagged true e);
        retried_small = λ e q g i.
            rw (flagged true e)
            (each_append Small small_zero (drop 40 (quartered p)) (quartered f.feedback)
            (each_drop Small small_zero 40 (quartered p) (quartered_small p q))
            (quartered_small f.feedback g)
            i);
      }
