-- The gains of a concealment one by one, and the numbers that 18 is tested of.
use Rattle.std.proofs.Common.{◌≡◌, ap, ◌∙◌, arith, length, length-append, take, drop, set, take_all, List, [], ◌∷◌, ◌++◌, ℤ, pos, ◌≤ℤ◌}
use Rattle.lists.specs.Lists.{Every}
use Rattle.lists.proofs.Entries.{every_append}
use Rattle.gain_concealment.specs.declared.GainConcealment.{GainConcealment}
use Rattle.gain_concealment.specs.Laws.{Kept}
use Rattle.std.proofs.lemmas.List.{set_at}
use Rattle.state.specs.declared.Concealment.{Concealment}
use Rattle.state.specs.Layout.{pair_numbers, gain_numbers, concealment_numbers}
use Rattle.state.proofs.Numbers.{own_fields}

-- what holds of every entry holds of those of both parts
pub every_parts : (P : ℤ → Type 0) (xs ys : List ℤ) → Every P (xs ++ ys) → Every P xs × Every P ys
every_parts P [] ys h = (tt, h)
every_parts P (x ∷ xs) ys h = let r = every_parts P xs ys h.1 in ((h.0, r.0), r.1)

-- no gain is negative: as one list, and part by part
pub kept_fields : (g : GainConcealment) → Kept g → Every (λ (x : ℤ). pos 0 ≤ℤ x) (gain_numbers g)
kept_fields g k =
    every_append _ g.pitch_history (g.code_history ++ (pair_numbers g.past ++ pair_numbers g.last_good)) k.pitch_history
    (every_append _ g.code_history (pair_numbers g.past ++ pair_numbers g.last_good) k.code_history
    (k.past.pitch, (k.past.code, (k.last_good.pitch, (k.last_good.code, tt)))))

pub fields_kept : (g : GainConcealment) → Every (λ (x : ℤ). pos 0 ≤ℤ x) (gain_numbers g) → Kept g
fields_kept g h =
    let p = every_parts _ g.pitch_history (g.code_history ++ (pair_numbers g.past ++ pair_numbers g.last_good)) h in
    let q = every_parts _ g.code_history (pair_numbers g.past ++ pair_numbers g.last_good) p.1 in
    record {
      pitch_history = p.0;
      code_history = q.0;
      past = record { pitch = q.1.0; code = q.1.1.0 };
      last_good = record { pitch = q.1.1.1.0; code = q.1.1.1.1.0 };
    }

-- of a concealment's numbers those behind the lag, and with their last, the mark, made 1
pub tested : (c : Concealment) (numbers fields : List ℤ) → numbers ≡ concealment_numbers c → fields ≡ take 15 (drop 1 numbers)
    → length c.gains.pitch_history ≡ 5 → length c.gains.code_history ≡ 5
    → (fields ≡ gain_numbers c.gains ++ (c.erased ∷ [])) × (set fields 14 (pos 1) ≡ gain_numbers c.gains ++ (pos 1 ∷ []))
tested c numbers fields e f p q =
    let gains = gain_numbers c.gains in
    let pairs = pair_numbers c.gains.past ++ pair_numbers c.gains.last_good in
    let long : length gains ≡ 14 = omega (arith, length-append c.gains.pitch_history (c.gains.code_history ++ pairs), length-append c.gains.code_history pairs, p, q) in
    let all = gains ++ (c.erased ∷ []) in
    let same : fields ≡ all = f ∙ ap (λ (xs : List ℤ). take 15 (drop 1 xs)) e ∙ ap (take 15) (own_fields c) ∙ take_all 15 all (omega (arith, long, length-append gains (c.erased ∷ []))) in
    (same, ap (λ (xs : List ℤ). set xs 14 (pos 1)) same ∙ set_at gains c.erased [] (pos 1) 14 long)
