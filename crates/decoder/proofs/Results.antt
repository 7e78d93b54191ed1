-- What a subframe and the core of a frame give: lengths, ranges, places, divisors.
use Rattle.std.proofs.Common.{ℕ, zero, suc, ◌*◌, ◌≤◌, ◌≡◌, refl, sym, ap, ◌∙◌, subst, Bool, true, false, not, cond, List, [], ◌∷◌, map, arith, ltb-true, ltb-false, eq-eqb, ne_eqb, ltb, ℤ, pos, length, drop, get_or, ◌≤ℤ◌}
use mathlib.Core.List.{flat_map}
use Rattle.std.proofs.Math.ListN.{length-map}
use Rattle.std.specs.Int.Signed.{lt_z}
use Rattle.lists.specs.Lists.{Every}
use Rattle.lists.proofs.Entries.{length_pairwise, every_append, every_map, every_at}
use Rattle.basicop.specs.Ops.{sub, shl, quartered}
use Rattle.basicop.specs.Divided.{Divided, Divides}
use Rattle.basicop.specs.Words.{Words}
use Rattle.basicop.proofs.Fits.{round_fits}
use Rattle.basicop.proofs.Words.{zero_fits, words_append, words_drop, words_pairwise, words_quartered}
use Rattle.spectral.specs.Lsp.{lsps_of}
use Rattle.adaptive.specs.Predict.{predicted}
use Rattle.adaptive.proofs.Predicted.{predicted_length}
use Rattle.excitation.specs.Excitation.{sharpened, sharpening, feedback_at, feedback, taking}
use Rattle.excitation.proofs.Ranges.{sharpened_length, sharpening_range, feedback_length}
use Rattle.energy.proofs.Tests.{either}
use Rattle.energy.proofs.Divisors.{agc2_divisors}
use Rattle.energy.proofs.Results.{agc2_length}
use Rattle.synthesis.specs.Synthesis.{overflowed, overflowed_at}
use Rattle.synthesis.proofs.Samples.{overflowed_by_at, overflowed_at_most, samples_words, newest_words}
use Rattle.decoder.specs.declared.Core.{Core}
use Rattle.decoder.specs.Inputs.{SubframeInputs, FrameInputs, UsableSubframe, Usable}
use Rattle.decoder.specs.Enhance.{enhanced_at, enhanced, first_excitation}
use Rattle.decoder.specs.Subframe.{SynthesisInput, SynthesisResult, flag_of, unretried_result, retried_result, synthesis_result}
use Rattle.decoder.specs.Core.{SubframeResult, CoreResult, excitations, subframe_result, subframe_results, core_after, places_of, samples_of, quotients_of, row_list, opened_core, core_result}
use Rattle.decoder.proofs.Retry.{Small, retry}

-- ---- the first excitation
pub first_length : (v : List ℤ) (pitch : ℤ) (exc : List ℤ) → length exc ≡ length v → length (first_excitation v pitch exc).value ≡ length exc
unfolding first_excitation enhanced
first_length v pitch exc e =
    let g = shl (sharpening pitch) (pos 1) in
    either (λ (x : Divided (List ℤ)). length x.value ≡ length exc) (lt_z (pos 0) (sub g (pos 16384)))
    (agc2_length exc (enhanced g pitch exc v) ∙ length_pairwise (enhanced_at g pitch) exc v e)
    refl

pub first_divisors : (v : List ℤ) (pitch : ℤ) (exc : List ℤ) → Every (Divides 16384) (first_excitation v pitch exc).quotients
unfolding first_excitation
first_divisors v pitch exc =
    let g = shl (sharpening pitch) (pos 1) in
    either (λ (x : Divided (List ℤ)). Every (Divides 16384) x.quotients) (lt_z (pos 0) (sub g (pos 16384))) (agc2_divisors exc (enhanced g pitch exc v)) tt

-- ---- what the synthesis is fed
pub record Forty (f : SynthesisInput) : Type 0 where
  pub feedback : Words 40 f.feedback
  pub excitation : length f.excitation ≡ 40

-- ---- what the synthesis makes
pub record SynthesisWords (d : SynthesisResult) : Type 0 where
  pub samples : Words 40 d.samples
  pub past : Words 154 d.past

pub taking_words : (past exc : List ℤ) → Words 154 past → Words 40 exc → Words 154 (taking past exc)
taking_words past exc p e = words_append (drop 40 past) exc (words_drop 40 past p) e

pub synthesis_words : (f : SynthesisInput) (h p : List ℤ) → Forty f → length h ≡ 10 → Words 154 p → SynthesisWords (synthesis_result f h p)
unfolding synthesis_result
synthesis_words f h p k e w =
    let q = words_quartered f.feedback k.feedback in
    either SynthesisWords (overflowed 10 f.row f.excitation h)
    (record { samples = samples_words f.row (quartered f.feedback) h e q.count; past = taking_words (quartered p) (quartered f.feedback) (words_quartered p w) q })
    (record { samples = samples_words f.row f.excitation h e k.excitation; past = taking_words p f.feedback w k.feedback })

-- ---- the place of its first pass
pub record Placed (d : SynthesisResult) : Type 0 where
  pub most : d.place ≤ 40
  pub flag : d.retried ≡ flag_of d.place

below_flag : (n : ℕ) → n ≤ 40 → ltb n 40 ≡ flag_of n
below_flag n h = go (ltb n 40) refl
  where
    go : (b : Bool) → ltb n 40 ≡ b → ltb n 40 ≡ flag_of n
    go true e = let l = ltb-true n 40 e in e ∙ ap not (sym (ne_eqb n 40 (λ k. omega (arith, k, l))))
    go false e = let l = ltb-false n 40 e in e ∙ ap not (sym (eq-eqb n 40 (omega (arith, h, l))))

pub synthesis_placed : (f : SynthesisInput) (h p : List ℤ) → length f.excitation ≡ 40 → Placed (synthesis_result f h p)
unfolding synthesis_result
synthesis_placed f h p e = go (overflowed 10 f.row f.excitation h) (overflowed_by_at 10 f.row f.excitation h ∙ rw e (below_flag n most))
  where
    n : ℕ
    n = overflowed_at 10 f.row f.excitation h

    most : n ≤ 40
    most = rw e at (overflowed_at_most 10 f.row f.excitation h)

    go : (b : Bool) → b ≡ flag_of n → Placed (cond b (retried_result f h p) (unretried_result f h p))
    go true k = record { most = most; flag = k }
    go false k = record { most = most; flag = k }

-- ---- a subframe step
-- past and history as the step needs them
pub record Held (c : Core) : Type 0 where
  pub past : Words 154 c.past
  pub history : Words 10 c.history

-- the state that it leaves, of the LSPs that the frame carries on
pub record Next (lsps : List ℤ) (c : Core) : Type 0 where
  pub held : Held c
  pub lsp : c.lsp ≡ lsps
  pub sharpening : (pos 0 ≤ℤ c.sharpening.0) × (c.sharpening.0 ≤ℤ pos 13017)

pub record SubframeFacts (lsps : List ℤ) (t : SubframeResult) : Type 0 where
  pub forty : Forty t.input
  pub samples : Words 40 t.synthesis.samples
  pub placed : Placed t.synthesis
  pub divisors : Every (Divides 16384) t.quotients
  pub next : Next lsps t.next
  -- after a retry every number of the past lies in -8192..=8191
  pub small : flag_of t.synthesis.place ≡ true → Every Small t.next.past

module _ (c : Core) (row : List ℤ) (p : SubframeInputs) where
  pub subframe_divisors : Every (Divides 16384) (subframe_result c row p).quotients
  unfolding subframe_result excitations
  subframe_divisors =
      let v = predicted c.past p.lag in
      let exc = feedback v p.pitch (sharpened p.innovation p.lag.samples c.sharpening.0) p.code in
      every_append (Divides 16384) (first_excitation v p.pitch exc).quotients [] (first_divisors v p.pitch exc) tt

  subframe_forty : length c.past ≡ 154 → Forty (subframe_result c row p).input
  unfolding subframe_result excitations feedback
  subframe_forty h =
      let v = predicted c.past p.lag in
      let code = sharpened p.innovation p.lag.samples c.sharpening.0 in
      let n = predicted_length c.past p.lag h in
      let k = sharpened_length p.innovation p.lag.samples c.sharpening.0 in
      let l = feedback_length v p.pitch code p.code (n ∙ sym k) in
      record {
        feedback = words_pairwise (feedback_at p.pitch p.code) (λ x y. round_fits _) v code n k;
        excitation = first_length v p.pitch (feedback v p.pitch code p.code) l ∙ l ∙ n;
      }

  pub subframe_facts : Held c → UsableSubframe p → SubframeFacts c.lsp (subframe_result c row p)
  unfolding subframe_result
  subframe_facts h u =
      let t = subframe_result c row p in
      let k = subframe_forty h.past.count in
      let m = synthesis_words t.input c.history c.past k h.history.count h.past in
      let r = retry t.input c.history c.past h.history.count in
      let placed = synthesis_placed t.input c.history c.past k.excitation in
      record {
        forty = k;
        samples = m.samples;
        placed = placed;
        divisors = subframe_divisors;
        next = record {
          held = record { past = m.past; history = newest_words t.synthesis.samples m.samples };
          lsp = refl;
          sharpening = sharpening_range p.pitch u.pitch;
        };
        small = λ e. every_at Small t.next.past (r.retried_small (sym r.flag ∙ placed.flag ∙ e) h.past.fit k.feedback.fit);
      }

-- ---- the subframes of a frame
results : (c : Core) (rows : List (List ℤ)) (ps : List SubframeInputs) (lsps : List ℤ) → c.lsp ≡ lsps → Held c → Every UsableSubframe ps → Every (SubframeFacts lsps) (subframe_results c rows ps)
unfolding subframe_results
results c [] ps lsps e h u = tt
results c (row ∷ rows) [] lsps e h u = tt
results c (row ∷ rows) (p ∷ ps) lsps e h u =
    let r = subst (λ (l : List ℤ). SubframeFacts l (subframe_result c row p)) e (subframe_facts c row p h u.0) in
    (r, results (subframe_result c row p).next rows ps lsps r.next.lsp r.next.held u.1)

-- each has its row
results_rows : (c : Core) (rows : List (List ℤ)) (ps : List SubframeInputs) → length rows ≡ length ps → map (λ (t : SubframeResult). t.input.row) (subframe_results c rows ps) ≡ rows
unfolding subframe_results subframe_result
results_rows c [] ps e = refl
results_rows c (row ∷ rows) [] e = absurd (omega (arith, e))
results_rows c (row ∷ rows) (p ∷ ps) e = ap (λ (xs : List (List ℤ)). row ∷ xs) (results_rows (subframe_result c row p).next rows ps (omega (arith, e)))

-- the last of n + 1, of which Q holds as of each
record Last (Q : SubframeResult → Type 0) (c : Core) (ts : List SubframeResult) (n : ℕ) : Type 0 where
  result : SubframeResult
  holds : Q result
  next : core_after c ts ≡ result.next
  place : get_or (places_of ts) n 40 ≡ result.synthesis.place

last : (Q : SubframeResult → Type 0) (c : Core) (ts : List SubframeResult) (n : ℕ) → length ts ≡ suc n → Every Q ts → Last Q c ts n
last Q c [] n l e = absurd (omega (arith, l))
last Q c (t ∷ []) zero l e = record { result = t; holds = e.0; next = refl; place = refl }
last Q c (t ∷ []) (suc n) l e = absurd (omega (arith, l))
last Q c (t ∷ u ∷ ts) zero l e = absurd (omega (arith, l))
last Q c (t ∷ u ∷ ts) (suc n) l e =
    let r = last Q t.next (u ∷ ts) n (omega (arith, l)) e.1 in
    record { result = r.result; holds = r.holds; next = r.next; place = r.place }

every_flat : {A B : Type 0} (P : B → Type 0) (f : A → List B) (xs : List A) → Every (λ (x : A). Every P (f x)) xs → Every P (flat_map f xs)
unfolding flat_map
every_flat P f [] e = tt
every_flat P f (x ∷ xs) e = every_append P (f x) (flat_map f xs) e.0 (every_flat P f xs e.1)

joined_words : (ts : List SubframeResult) → Every (λ (t : SubframeResult). Words 40 t.synthesis.samples) ts → Words (40 * length ts) (samples_of ts)
unfolding flat_map
joined_words [] e = record { count = refl; fit = λ i. zero_fits }
joined_words (t ∷ ts) e = subst (λ (n : ℕ). Words n (samples_of (t ∷ ts))) (omega arith) (words_append t.synthesis.samples (samples_of ts) e.0 (joined_words ts e.1))

every_place : (ts : List SubframeResult) → Every (λ (t : SubframeResult). t.synthesis.place ≤ 40) ts → Every (λ (place : ℕ). place ≤ 40) (places_of ts)
every_place [] e = tt
every_place (t ∷ ts) e = (e.0, every_place ts e.1)

-- ---- the core of a frame
pub record CoreFacts (lsps : List ℤ) (d : CoreResult) : Type 0 where
  pub rows : map (λ (t : SubframeResult). t.input.row) d.subframes ≡ row_list d.rows
  pub four : length d.subframes ≡ 4
  pub samples : Words 160 (samples_of d.subframes)
  pub places : Every (λ (place : ℕ). place ≤ 40) (places_of d.subframes)
  pub divisors : Every (Divides 16384) (quotients_of d.subframes)
  pub next : Next lsps d.next
  -- after a retried last subframe
  pub small : flag_of (get_or (places_of d.subframes) 3 40) ≡ true → Every Small d.next.past

pub core_facts : (c : Core) (f : FrameInputs) → Usable f → Held c → CoreFacts (lsps_of f.lsfs) (core_result c f)
unfolding core_result
core_facts c f u h =
    let ts = (core_result c f).subframes in
    let rows = results_rows (opened_core c f) (row_list (core_result c f).rows) f.subframes (sym u.four) in
    let four = sym (length-map ts (λ (t : SubframeResult). t.input.row)) ∙ ap length rows in
    let each = results (opened_core c f) (row_list (core_result c f).rows) f.subframes (lsps_of f.lsfs) refl (record { past = h.past; history = h.history }) u.subframes in
    let l = last (SubframeFacts (lsps_of f.lsfs)) (opened_core c f) ts 3 four each in
    record {
      rows = rows;
      four = four;
      samples = rw four at (joined_words ts (every_map (λ t r. r.samples) ts each));
      places = every_place ts (every_map (λ t r. r.placed.most) ts each);
      divisors = every_flat (Divides 16384) (λ (t : SubframeResult). t.quotients) ts (every_map (λ t r. r.divisors) ts each);
      next = rw l.next l.holds.next;
      small = λ e. rw l.next (l.holds.small (ap flag_of (sym l.place) ∙ e));
    }
