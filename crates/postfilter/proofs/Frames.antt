-- A frame by its four subframes.
use Rattle.std.proofs.Common.{ℕ, zero, suc, ◌+◌, ◌-◌, ◌*◌, ◌<◌, ◌≡◌, refl, sym, ◌∙◌, List, add-one, arith, ℤ, length, take, get_or, take_all}
use borrow.Rule.Slice.PartMut.{put_mid}
use Rattle.lists.specs.Lists.{iter}
use Rattle.lists.proofs.Put.{put_length, put_front}
use Rattle.lpc.specs.declared.Rows.{Rows}
use Rattle.lpc.specs.Rows.{row_list}
use Rattle.postfilter.specs.declared.Postfilter.{Postfilter}
use Rattle.postfilter.specs.declared.Postfiltered.{Postfiltered}
use Rattle.postfilter.specs.Postfilter.{PostfilterResult, filter_result, row_at, part, process_next, process_from, postfilter_result}

-- the rows as one list
pub row_listed : {list : List (List ℤ)} (rows : Rows) (k : ℕ) (d : List ℤ) → list ≡ row_list rows → k < 4 → get_or list k d ≡ row_at rows k
row_listed rows zero d e h = rw e
row_listed rows (suc zero) d e h = rw e
row_listed rows (suc (suc zero)) d e h = rw e
row_listed rows (suc (suc (suc zero))) d e h = rw e
row_listed rows (suc (suc (suc (suc k)))) d e h = absurd (omega (arith, h))

-- ---- the loop over the subframes: after k of them
abbrev so_far : Postfilter → Rows → List ℤ → ℕ → PostfilterResult
so_far m rows ys k = iter (process_next rows ys) k (process_from m)

pub record Framing (m : Postfilter) (rows : Rows) (ys out : List ℤ) (carried : Postfilter) (k : ℕ) : Type 0 where
  pub room : length out ≡ 160
  pub made : take (40 * k) out ≡ (so_far m rows ys k).output.samples
  pub memory : carried ≡ (so_far m rows ys k).output.memory

pub framing_none : (m : Postfilter) (rows : Rows) (ys out : List ℤ) → length out ≡ 160 → Framing m rows ys out m 0
unfolding iter
framing_none m rows ys out l = record { room = l; made = refl; memory = refl }

-- the samples of subframe k as they were lent, and those made as they were put
pub framing_more : {m carried : Postfilter} {rows : Rows} {ys out last row xs : List ℤ} {f : Postfiltered 40} {k : ℕ} → Framing m rows ys out carried k → k < 4 → row ≡ row_at rows k → xs ≡ part ys k → f ≡ (filter_result carried row xs).output → length last ≡ 40 → last ≡ f.samples → Framing m rows ys (put_mid (40 * k) (40 * k + 40 - 40 * k) out last) f.memory (k + 1)
unfolding iter
framing_more {m} {carried} {rows} {ys} {out} {last} {row} {xs} {f} {k} r h er ex ef l el =
    let n : 40 * suc k ≡ 40 * k + 40 = omega arith in
    let d : 40 * k + 40 - 40 * k ≡ 40 = omega arith in
    let e : f ≡ (filter_result (so_far m rows ys k).output.memory (row_at rows k) (part ys k)).output = ef ∙ rw (er, ex, r.memory) in
    rw (add-one k, d)
    (record {
      room = put_length (40 * k) 40 out last l (omega (arith, r.room)) ∙ r.room;
      made = rw n (put_front (40 * k) 40 out last l (omega (arith, r.room)) ∙ rw (r.made, el, e));
      memory = rw e;
    })

pub framing_done : {m carried : Postfilter} {rows : Rows} {ys out : List ℤ} {k : ℕ} → Framing m rows ys out carried k → k ≡ 4 → ◌≡◌ {A = Postfiltered 160} (record { samples = out; memory = carried }) (postfilter_result m rows ys).output
unfolding postfilter_result
framing_done {m} {carried} {rows} {ys} {out} {k} r e =
    let s : out ≡ (so_far m rows ys 4).output.samples = sym (take_all 160 out (omega (arith, r.room))) ∙ rw e at r.made in
    let p : carried ≡ (so_far m rows ys 4).output.memory = rw e at r.memory in
    rw (s, p)
