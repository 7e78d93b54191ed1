-- Gains that are not negative stay so, in fives of any length and at any stage, and concealed gains lie in 0..=32766: `concealed_kept`, `concealed_in_range`,
-- `good_kept`.
use Rattle.std.proofs.Common.{◌≡◌, refl, Bool, true, false, cond, List, [], ◌∷◌, ℕ, ◌*◌, ◌≤◌, mul-le-mul, ℤ, pos, negsuc, drop, ◌≤ℤ◌}
use lib.Signed.{lt_z, le_z_yes}
use Rattle.lists.specs.Lists.{at, Every}
use Rattle.lists.proofs.Entries.{every_append}
use Rattle.basicop.specs.Ops.{mult}
use Rattle.basicop.proofs.Ints.{arith_ℤ}
use Rattle.basicop.proofs.Naturals.{mult_pos}
use Rattle.basicop.proofs.Tests.{less_no}
use Rattle.basicop.specs.declared.Gains.{Gains}
use Rattle.gain_concealment.specs.declared.GainConcealment.{GainConcealment}
use Rattle.gain_concealment.specs.Median.{inserted, sorted, median}
use Rattle.gain_concealment.specs.Concealment.{pdown, cdown, held_to, concealed_gain, taking_in, updated, concealed_gains, held_pair, good_gains}
use Rattle.gain_concealment.specs.Laws.{NotNegative, Kept, Concealed, Used}
use Rattle.gain_concealment.proofs.Sorting.{by_place}
use Rattle.gain_concealment.proofs.Factors.{Factor, any_entry, pdown_factor, cdown_factor, staged}

-- ---- what holds of a limit and a gain, and of every entry
pub held_either : (P : ℤ → Type 0) (limit gain : ℤ) → P limit → P gain → P (held_to limit gain)
held_either P limit gain p q = go (lt_z limit gain)
  where
    go : (t : Bool) → P (cond t limit gain)
    go true = p
    go false = q

held_most : (limit gain : ℤ) → held_to limit gain ≤ℤ limit
held_most limit gain = go (lt_z limit gain) refl
  where
    go : (t : Bool) → lt_z limit gain ≡ t → cond t limit gain ≤ℤ limit
    go true e = omega arith_ℤ
    go false e = less_no e

every_drop : (P : ℤ → Type 0) (xs : List ℤ) → Every P xs → Every P (drop 1 xs)
every_drop P [] p = tt
every_drop P (x ∷ xs) p = p.1

every_inserted : (P : ℤ → Type 0) (x : ℤ) (ys : List ℤ) → P x → Every P ys → Every P (inserted x ys)
unfolding inserted
every_inserted P x [] p q = (p, tt)
every_inserted P x (y ∷ ys) p q = by_place (Every P) x y ys (λ e. (q.0, every_inserted P x ys p q.1)) (λ e. (p, q))

every_sorted : (P : ℤ → Type 0) (xs : List ℤ) → Every P xs → Every P (sorted xs)
unfolding sorted
every_sorted P [] p = tt
every_sorted P (x ∷ xs) p = every_inserted P x (sorted xs) p.0 (every_sorted P xs p.1)

-- ---- a product of two that are not negative
mult_from : (x y : ℤ) → pos 0 ≤ℤ x → pos 0 ≤ℤ y → pos 0 ≤ℤ mult x y
mult_from (pos a) (pos b) p q = rw (mult_pos a b) (omega arith_ℤ)
mult_from (pos a) (negsuc b) p q = absurd q.le
mult_from (negsuc a) y p q = absurd p.le

mult_most : (x y : ℤ) → pos 0 ≤ℤ x → x ≤ℤ pos 32767 → pos 0 ≤ℤ y → y ≤ℤ pos 32767 → mult x y ≤ℤ pos 32766
mult_most (pos a) (pos b) p h q k =
    let m : a * b ≤ 32767 * 32767 = mul-le-mul {n₁ = a} {m₁ = b} {n₂ = 32767} {m₂ = 32767} (omega (arith_ℤ, h)) (omega (arith_ℤ, k)) in
    rw (mult_pos a b) (omega arith_ℤ)
mult_most (pos a) (negsuc b) p h q k = absurd q.le
mult_most (negsuc a) y p h q k = absurd p.le

-- ---- gains that are not negative
abbrev NonNeg : ℤ → Type 0
NonNeg g = pos 0 ≤ℤ g

median_from : (xs : List ℤ) → Every NonNeg xs → NonNeg (median xs)
median_from xs p = any_entry NonNeg (le_z_yes tt) (sorted xs) (every_sorted NonNeg xs p) _

before_scaling : (past : ℤ) (history : List ℤ) → NonNeg past → Every NonNeg history → NonNeg (held_to past (median history))
before_scaling past history p h = held_either NonNeg past (median history) p (median_from history h)

taking_kept : (g : ℤ) (xs : List ℤ) → NonNeg g → Every NonNeg xs → Every NonNeg (taking_in g xs)
taking_kept g xs p h = every_append NonNeg (drop 1 xs) (g ∷ []) (every_drop NonNeg xs h) (p, tt)

updated_kept : (gains : Gains) (c : GainConcealment) → NotNegative gains → Kept c → Kept (updated gains c)
unfolding updated
updated_kept gains c n k =
    let pitch = held_either NonNeg (pos 16384) gains.pitch.0 (le_z_yes tt) n.pitch in
    record {
      pitch_history = taking_kept _ c.pitch_history pitch k.pitch_history;
      code_history = taking_kept _ c.code_history n.code k.code_history;
      past = record { pitch = pitch; code = n.code };
      last_good = k.last_good;
    }

-- ---- an erased frame's
concealed_from : (table : List ℤ) → ((k : ℕ) → Factor (at table k)) → (history : List ℤ) (past stage : ℤ) → NonNeg past → Every NonNeg history → NonNeg (concealed_gain table history past stage)
concealed_from table f history past stage p h = mult_from _ _ (before_scaling past history p h) (staged table f stage).from

concealed_most : (table : List ℤ) → ((k : ℕ) → Factor (at table k)) → (history : List ℤ) (past stage : ℤ) → NonNeg past → past ≤ℤ pos 32767 → Every NonNeg history → concealed_gain table history past stage ≤ℤ pos 32766
concealed_most table f history past stage p m h =
    let s = staged table f stage in
    mult_most _ _ (before_scaling past history p h) (omega (arith_ℤ, held_most past (median history), m)) s.from s.to

pub concealed_kept : (stage : ℤ) (c : GainConcealment) → Kept c → Used (concealed_gains stage c)
unfolding concealed_gains
concealed_kept stage c k =
    let gains : NotNegative (concealed_gains stage c).gains = record {
      pitch = concealed_from pdown pdown_factor c.pitch_history c.past.pitch.0 stage k.past.pitch k.pitch_history;
      code = concealed_from cdown cdown_factor c.code_history c.past.code.0 stage k.past.code k.code_history;
    } in
    record { gains = gains; next = updated_kept _ c gains k }

pub concealed_in_range : (stage : ℤ) (c : GainConcealment) → Kept c → c.past.pitch.0 ≤ℤ pos 32767 → c.past.code.0 ≤ℤ pos 32767 → Concealed (concealed_gains stage c)
unfolding concealed_gains
concealed_in_range stage c k p q =
    let u = concealed_kept stage c k in
    record {
      pitch = (u.gains.pitch, concealed_most pdown pdown_factor c.pitch_history c.past.pitch.0 stage k.past.pitch p k.pitch_history);
      code = (u.gains.code, concealed_most cdown cdown_factor c.code_history c.past.code.0 stage k.past.code q k.code_history);
      next = u.next;
    }

-- ---- a good frame's
good_next : (gains : Gains) (c : GainConcealment) → NotNegative gains → Kept c → Used (good_gains false gains c)
unfolding good_gains
good_next gains c n k =
    let u = updated_kept gains c n k in
    record { gains = n; next = record { pitch_history = u.pitch_history; code_history = u.code_history; past = u.past; last_good = n } }

-- held to the last good ones, and from there on the same
pub good_kept : (erased : Bool) (gains : Gains) (c : GainConcealment) → NotNegative gains → Kept c → Used (good_gains erased gains c)
unfolding good_gains
good_kept false gains c n k = good_next gains c n k
good_kept true gains c n k =
    let held : NotNegative (held_pair c.last_good gains) = record {
      pitch = held_either NonNeg c.last_good.pitch.0 gains.pitch.0 k.last_good.pitch n.pitch;
      code = held_either NonNeg c.last_good.code.0 gains.code.0 k.last_good.code n.code;
    } in
    good_next (held_pair c.last_good gains) c held k
