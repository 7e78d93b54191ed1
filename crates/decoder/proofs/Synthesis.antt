-- The synthesis of a subframe, by the place that its first pass gives.
use Rattle.std.proofs.Common.{ℕ, ◌≤◌, ◌<◌, ◌≡◌, ◌∙◌, true, false, List, lt-ltb, le-ltb, ℤ, length}
use Rattle.basicop.specs.Ops.{quartered}
use Rattle.synthesis.specs.Synthesis.{overflowed, overflowed_at, previewed, filtered}
use Rattle.synthesis.proofs.Samples.{overflowed_by_at, previewed_all}
use Rattle.excitation.specs.Excitation.{taking}
use Rattle.decoder.specs.declared.SynthesisOutput.{SynthesisOutput}
use Rattle.decoder.specs.Subframe.{SynthesisInput, synthesis_result, synthesis_output}

module _ (a fb x h p : List ℤ) (l : length x ≡ 40) where
  abbrev input : SynthesisInput
  input = record { row = a; feedback = fb; excitation = x }

  -- a step of the first pass clamped, or none did
  clamped : overflowed_at 10 a x h < 40 → overflowed 10 a x h ≡ true
  clamped n = overflowed_by_at 10 a x h ∙ rw l (lt-ltb _ 40 n)

  unclamped : 40 ≤ overflowed_at 10 a x h → overflowed 10 a x h ≡ false
  unclamped n = overflowed_by_at 10 a x h ∙ rw l (le-ltb _ 40 n)

  pub result_retried : {place : ℕ} {ys qs ps : List ℤ} → place ≡ (previewed a x h).place → place < 40 → qs ≡ quartered fb → ys ≡ (filtered a qs h).samples → ps ≡ taking (quartered p) qs → ◌≡◌ {A = SynthesisOutput} (record { place = place; samples = ys; feedback = qs; past = ps }) (synthesis_output (synthesis_result input h p))
  unfolding synthesis_result previewed filtered
  result_retried e n q y t = rw (clamped (rw e at n)) (rw (e, y, t, q))

  pub result_unretried : {place : ℕ} {ys ps : List ℤ} → place ≡ (previewed a x h).place → 40 ≤ place → ys ≡ (previewed a x h).samples → ps ≡ taking p fb → ◌≡◌ {A = SynthesisOutput} (record { place = place; samples = ys; feedback = fb; past = ps }) (synthesis_output (synthesis_result input h p))
  unfolding synthesis_result previewed
  result_unretried e n y t = let o = unclamped (rw e at n) in rw o (rw (e, y, t, previewed_all a x h o))
