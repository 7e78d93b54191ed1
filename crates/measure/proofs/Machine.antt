-- A subframe of the definition beside the machine of whole numbers.
use Rattle.std.proofs.Common.{ℕ, zero, suc, ◌-◌, ◌≡◌, refl, sym, ap, ◌∙◌, subst, Bool, true, false, List, [], ◌∷◌, map, ℤ, length, drop}
use mathlib.Core.Path.{fun_ext}
use lib.IntN.{*ℤ_comm}
use Rattle.lists.specs.Lists.{at, Every}
use Rattle.basicop.specs.Ops.{clamp, l_mult, l_sub, l_add, l_shl}
use Rattle.synthesis.specs.Recursion.{recursion}
use Rattle.synthesis.specs.Synthesis.{acc, sample, samples}
use Rattle.synthesis.specs.Whole.{retried}
use Rattle.spectral.specs.Lsp.{lsps_of}
use Rattle.lpc.proofs.Coefficients.{rows_are}
use Rattle.decoder.specs.declared.Core.{Core}
use Rattle.decoder.specs.Inputs.{SubframeInputs, FrameInputs, UsableSubframe, Usable}
use Rattle.decoder.specs.Subframe.{SynthesisInput, SynthesisResult, synthesis_result}
use Rattle.decoder.specs.Core.{SubframeResult, subframe_result, subframe_results, core_after, row_list, opened_core, core_result}
use Rattle.decoder.proofs.Retry.{retry}
use Rattle.decoder.proofs.Results.{Held, subframe_facts}
use Rattle.measure.specs.Machine.{Machine, held_sum, held_sample, held_samples, measurement, machine_after_subframe, machine_after_subframes}
use Rattle.measure.specs.CallList.{AsMeasured, SubframesAsMeasured}

-- ---- the machine's clamped steps are those of Syn_filt
held_sum_lem : (a : List ℤ) (x : ℤ) (y : List ℤ) (k : ℕ) → held_sum a x y k ≡ acc a x y k
unfolding held_sum acc l_mult l_sub clamp
held_sum_lem a x y zero = rw (*ℤ_comm x (at a 0))
held_sum_lem a x y (suc k) = rw (held_sum_lem a x y k)

held_sample_lem : (a : List ℤ) (x : ℤ) (y : List ℤ) → held_sample a x y ≡ sample 10 a x y
unfolding l_shl l_add clamp
held_sample_lem a x y = rw (held_sum_lem a x y 10)

held_samples_lem : (a xs h : List ℤ) → held_samples a xs h ≡ samples 10 a xs h
held_samples_lem a xs h = ap (λ (make : ℤ → List ℤ → ℤ). drop 10 (recursion make xs h)) (fun_ext (λ x. fun_ext (λ y. held_sample_lem a x y)))

-- ---- one subframe
module _ (f : SynthesisInput) (m : Machine) (l : length m.history ≡ 10) where
  abbrev flag : Bool
  flag = retried 10 f.row f.excitation m.history

  abbrev d : SynthesisResult
  d = synthesis_result f m.history m.past

  -- its samples and its past are the definition's
  as_measured : (b : Bool) → flag ≡ b → ((measurement f m).samples ≡ d.samples) × ((measurement f m).past ≡ d.past)
  unfolding measurement
  as_measured true e = let r = retry f m.history m.past l in rw e (held_samples_lem f.row _ m.history ∙ sym (r.retried_samples e), sym (r.retried_past e))
  as_measured false e = let r = retry f m.history m.past l in rw e (sym (r.unretried_samples e), sym (r.unretried_past e))

-- ---- a subframe step
abbrev machine_of : Core → Machine
machine_of c = record { history = c.history; past = c.past }

module _ (c : Core) (row : List ℤ) (p : SubframeInputs) (h : Held c) (u : UsableSubframe p) where
  abbrev t : SubframeResult
  t = subframe_result c row p

  subframe_measured : length row ≡ 11 → AsMeasured t.input (machine_of c) t.synthesis
  unfolding subframe_result
  subframe_measured e =
      let k = subframe_facts c row p h u in
      let r = retry t.input c.history c.past h.history.count in
      let f = sym k.placed.flag ∙ r.flag in
      record {
        row = e;
        input = (k.forty.feedback.count, k.forty.excitation);
        machine = (h.history.count, h.past.count);
        forty = k.samples.count;
        flag = f;
        place = r.place;
        within = k.placed.most;
        samples = λ n. r.unretried_samples (sym f ∙ n);
        unretried = λ n. (r.unretried_feedback (sym f ∙ n), r.unretried_past (sym f ∙ n));
        quartered = λ y. (r.retried_feedback (sym f ∙ y), r.retried_past (sym f ∙ y));
        retried_samples = λ y. r.retried_samples (sym f ∙ y) ∙ sym (held_samples_lem t.input.row _ c.history) ∙ ap (λ (x : List ℤ). held_samples t.input.row x c.history) (sym (r.retried_feedback (sym f ∙ y)));
      }

  subframe_machine : machine_after_subframe t.input (machine_of c) ≡ machine_of t.next
  unfolding subframe_result
  subframe_machine =
      let m = as_measured t.input (machine_of c) h.history.count _ refl in
      let n : length t.synthesis.samples - 10 ≡ 30 = rw (subframe_facts c row p h u).samples.count refl in
      λ i. record { history = (ap (drop 30) m.0 ∙ ap (λ (k : ℕ). drop k t.synthesis.samples) (sym n)) i; past = m.1 i }

-- ---- the subframes of a frame
subframes_beside : (c : Core) (rows : List (List ℤ)) (ps : List SubframeInputs) → Held c → Every UsableSubframe ps → Every (λ (row : List ℤ). length row ≡ 11) rows → SubframesAsMeasured (machine_of c) (subframe_results c rows ps)
unfolding subframe_results
subframes_beside c [] ps h u l = tt
subframes_beside c (row ∷ rows) [] h u l = tt
subframes_beside c (row ∷ rows) (p ∷ ps) h u l =
    let n = (subframe_result c row p).next in
    let r = subframes_beside n rows ps (subframe_facts c row p h u.0).next.held u.1 l.1 in
    (subframe_measured c row p h u.0 l.0, subst (λ (m : Machine). SubframesAsMeasured m (subframe_results n rows ps)) (sym (subframe_machine c row p h u.0)) r)

subframes_machine : (c : Core) (rows : List (List ℤ)) (ps : List SubframeInputs) → Held c → Every UsableSubframe ps → machine_after_subframes (map (λ (t : SubframeResult). t.input) (subframe_results c rows ps)) (machine_of c) ≡ machine_of (core_after c (subframe_results c rows ps))
unfolding subframe_results machine_after_subframes
subframes_machine c [] ps h u = refl
subframes_machine c (row ∷ rows) [] h u = refl
subframes_machine c (row ∷ rows) (p ∷ ps) h u =
    let n = (subframe_result c row p).next in
    ap (machine_after_subframes (map (λ (t : SubframeResult). t.input) (subframe_results n rows ps))) (subframe_machine c row p h u.0) ∙ subframes_machine n rows ps (subframe_facts c row p h u.0).next.held u.1

-- ---- the core of a frame
module _ (c : Core) (f : FrameInputs) (u : Usable f) (h : Held c) where
  opens : Held (opened_core c f)
  opens = record { past = h.past; history = h.history }

  pub core_beside : SubframesAsMeasured (machine_of c) (core_result c f).subframes
  unfolding core_result
  core_beside =
      let r = rows_are c.lsp (lsps_of f.lsfs) in
      subframes_beside (opened_core c f) (row_list (core_result c f).rows) f.subframes opens u.subframes (r.0.eleven, (r.1.0.eleven, (r.1.1.0.eleven, (r.1.1.1.eleven, tt))))

  pub core_machine : machine_after_subframes (map (λ (t : SubframeResult). t.input) (core_result c f).subframes) (machine_of c) ≡ machine_of (core_result c f).next
  unfolding core_result
  core_machine = subframes_machine (opened_core c f) (row_list (core_result c f).rows) f.subframes opens u.subframes
