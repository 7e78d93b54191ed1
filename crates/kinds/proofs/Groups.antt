-- The groups of checks of a frame call: what each has shown where it accepts, and the places of its refusals.
use Rattle.std.proofs.Common.{ℕ, zero, suc, ◌+◌, ◌≤◌, ◌<◌, ◌≡◌, true, List, ◌∷◌, ◌++◌, add-one, arith, ℤ, pos, ◌+ℤ◌, length, take, drop, replicate, get_or-take, ◌≤ℤ◌, eqb-true, ltb-false}
use lib.Signed.{le_z_yes, lt_z}
use borrow.Author.Tests.{not-false}
use Rattle.std.proofs.lemmas.Bool.{or_parts}
use Rattle.std.proofs.lemmas.List.{get_or-replicate}
use Rattle.lists.specs.Lists.{at}
use Rattle.lists.proofs.Entries.{stretch_at}
use Rattle.basicop.proofs.Ints.{≤ℤ_trans}
use Rattle.basicop.proofs.Tests.{less_no}
use Rattle.spectral.specs.Lsp.{Frequencies}
use Rattle.outcome.specs.declared.Refusal.TheVariants.{Lsf, PitchIndex, Gain, LsfGap}
use Rattle.outcome.specs.Outcome.{place_of, is_accepted}
use Rattle.outcome.specs.Checks.{first_met, first_outside, first_close}
use Rattle.outcome.proofs.Checks.{none_met, both_accept, Placed, placed_append, none_placed, found_placed, place_low}
use Rattle.outcome.proofs.Ranges.{in_ranges, in_range_all}
use Rattle.outcome.proofs.Gaps.{in_gaps}
use Rattle.state.specs.declared.State.{State}
use Rattle.state.specs.State.{state_checks}
use Rattle.state.proofs.Checks.{fields, state_placed}
use Rattle.gain.specs.Checks.{table_checks, index_checks}
use Rattle.gain.proofs.Kept.{accepted_tables}
use Rattle.gain.proofs.Groups.{index_accept, tables_placed, indices_placed}
use Rattle.kinds.specs.Sheet.{lsfs_of, gains_of, gain_indices_of, stage_of}
use Rattle.kinds.specs.Checks.{length_checks, lsf_checks, pitch_limits, pitch_checks, gain_checks, stage_checks}
use Rattle.kinds.specs.Kind.{SheetKind, FrameSheet, IndexSheet, ErasedSheet, kind_of, call_checks, call_outcome}
use Rattle.kinds.specs.Accepted.{In, LsfsKept, GapsKept, PitchIndices, GainsKept, GainIndices, OwnKept}

-- ---- what a group has shown
pub lengths_accept : (count numbers room : ℕ) → is_accepted (first_met (length_checks count numbers room)) ≡ true → (numbers ≡ count) × (room ≡ 160)
lengths_accept count numbers room h =
    let u = none_met (length_checks count numbers room) h in
    (eqb-true numbers count (not-false _ u.0), eqb-true room 160 (not-false _ u.1.0))

limits_byte : (k : ℕ) → at pitch_limits k ≤ℤ pos 255
limits_byte zero = le_z_yes tt
limits_byte (suc zero) = le_z_yes tt
limits_byte (suc (suc zero)) = le_z_yes tt
limits_byte (suc (suc (suc zero))) = le_z_yes tt
limits_byte (suc (suc (suc (suc k)))) = le_z_yes tt

module _ (sheet : List ℤ) where
  pub lsfs_accept : length (lsfs_of sheet) ≡ 10 → is_accepted (first_met (lsf_checks sheet)) ≡ true → Frequencies (lsfs_of sheet)
  lsfs_accept ten h =
      in_range_all 10 (pos 16384) (lsfs_of sheet) ten (ltb-false _ 10 (none_met (lsf_checks sheet) h).0)

  module _ (h : is_accepted (first_met (lsf_checks sheet)) ≡ true) where
    pub lsfs_range : LsfsKept sheet
    lsfs_range k l =
        rw (get_or-take 10 sheet k (pos 0) l, get_or-replicate 10 k (pos 16384) (pos 0) l)
        at (in_ranges (lsfs_of sheet) (replicate 10 (pos 16384)) k (omega (arith, ltb-false _ 10 (none_met (lsf_checks sheet) h).0)))

    -- 0 before the first
    gap_at : (k : ℕ) → k < 10 → (at (pos 0 ∷ lsfs_of sheet) k +ℤ pos 205) ≤ℤ at (lsfs_of sheet) k
    gap_at k l =
        let n : 10 ≤ first_close (pos 205) (pos 0) (lsfs_of sheet) = ltb-false _ 10 (none_met (lsf_checks sheet) h).1.0 in
        in_gaps (pos 205) (pos 0) (lsfs_of sheet) k (omega (arith, n))

    pub gaps_accept : GapsKept sheet
    gaps_accept =
        record {
          first = rw (get_or-take 10 sheet 0 (pos 0) (omega arith)) at (gap_at 0 (omega arith));
          later = λ k l. rw (add-one k) (rw (get_or-take 10 sheet (suc k) (pos 0) (omega arith), get_or-take 10 sheet k (pos 0) (omega arith)) at (gap_at (suc k) (omega arith)));
        }

  -- the numbers from a place of the sheet on
  ranges_at : (from n : ℕ) (limits : List ℤ) → n ≤ first_outside (take n (drop from sheet)) limits → (k : ℕ) → k < n → In (pos 0) (at limits k) (at sheet (from + k))
  ranges_at from n limits h k l = rw (stretch_at sheet from n k l) (in_ranges (take n (drop from sheet)) limits k (omega arith))

  pitch_accept : is_accepted (first_met (pitch_checks sheet)) ≡ true → (k : ℕ) → k < 4 → In (pos 0) (at pitch_limits k) (at sheet (10 + k))
  pitch_accept h = ranges_at 10 4 pitch_limits (ltb-false _ 4 (none_met (pitch_checks sheet) h).0)

  pub pitch_indices : is_accepted (first_met (pitch_checks sheet)) ≡ true → PitchIndices sheet
  pitch_indices h =
      let index = pitch_accept h in
      record { a = index 0 (omega arith); b = index 1 (omega arith); c = index 2 (omega arith); d = index 3 (omega arith) }

  pub index_byte : is_accepted (first_met (pitch_checks sheet)) ≡ true → (k : ℕ) → k < 4 → In (pos 0) (pos 255) (at sheet (10 + k))
  index_byte h k l = let r = pitch_accept h k l in (r.0, ≤ℤ_trans r.1 (limits_byte k))

  pub gains_accept : is_accepted (first_met (gain_checks sheet)) ≡ true → GainsKept sheet
  gains_accept h k l = (ranges_at 14 8 (gains_of sheet) (ltb-false _ 8 (none_met (gain_checks sheet) h).0) k l).0

  pub indices_accept : is_accepted (first_met (index_checks 4 (gain_indices_of sheet))) ≡ true → GainIndices sheet
  indices_accept h k l = rw (stretch_at sheet 14 4 k l) (index_accept 4 (gain_indices_of sheet) h k l)

  pub stage_accept : is_accepted (first_met (stage_checks sheet)) ≡ true → In (pos 0) (pos 6) (stage_of sheet)
  stage_accept h =
      let n = or_parts (lt_z (stage_of sheet) (pos 0)) (lt_z (pos 6) (stage_of sheet)) (none_met (stage_checks sheet) h).0 in
      (less_no n.0, less_no n.1)

  -- ---- places
  lsfs_placed : Placed (lsf_checks sheet)
  lsfs_placed = (found_placed Lsf _ 10 (λ k h. omega arith), (found_placed LsfGap _ 10 (λ k h. omega arith), tt))

  pitch_placed : Placed (pitch_checks sheet)
  pitch_placed = (found_placed PitchIndex _ 4 (λ k h. omega arith), tt)

  gains_placed : Placed (gain_checks sheet)
  gains_placed = (found_placed Gain _ 8 (λ k h. omega arith), tt)

-- ---- a kind's own
pub own_kept : (k : SheetKind) (sheet : List ℤ) → is_accepted (first_met ((kind_of k).checks sheet)) ≡ true → OwnKept k sheet
own_kept FrameSheet sheet h = let b = both_accept (pitch_checks sheet) (gain_checks sheet) h in (pitch_indices sheet b.0, gains_accept sheet b.1)
own_kept (IndexSheet logs pows) sheet h =
    let b = both_accept (pitch_checks sheet) (table_checks logs pows ++ index_checks 4 (gain_indices_of sheet)) h in
    let c = both_accept (table_checks logs pows) (index_checks 4 (gain_indices_of sheet)) b.1 in
    let t = accepted_tables logs pows c.0 in
    (pitch_indices sheet b.0, (t.0, (t.1, indices_accept sheet c.1)))
own_kept ErasedSheet sheet h = stage_accept sheet h

own_placed : (k : SheetKind) (sheet : List ℤ) → Placed ((kind_of k).checks sheet)
own_placed FrameSheet sheet = placed_append (pitch_checks sheet) (gain_checks sheet) (pitch_placed sheet) (gains_placed sheet)
own_placed (IndexSheet logs pows) sheet =
    placed_append (pitch_checks sheet) (table_checks logs pows ++ index_checks 4 (gain_indices_of sheet)) (pitch_placed sheet)
    (placed_append (table_checks logs pows) (index_checks 4 (gain_indices_of sheet)) (tables_placed logs pows) (indices_placed 4 (gain_indices_of sheet) (omega arith)))
own_placed ErasedSheet sheet = none_placed (stage_checks sheet) tt

-- of a state whose fives are no longer than fives
pub call_place : (k : SheetKind) (sheet : List ℤ) (s : State) (room : ℕ) → length (fields s.concealment) ≤ 15 → place_of (call_outcome (kind_of k) sheet s room) < 256
unfolding call_outcome
call_place k sheet s room l =
    let lengths = length_checks (kind_of k).count (length sheet) room in
    let own = (kind_of k).checks sheet in
    place_low (call_checks (kind_of k) sheet s room)
    (placed_append lengths (lsf_checks sheet ++ (own ++ state_checks s)) (none_placed lengths tt)
    (placed_append (lsf_checks sheet) (own ++ state_checks s) (lsfs_placed sheet) (placed_append own (state_checks s) (own_placed k sheet) (state_placed s l))))
