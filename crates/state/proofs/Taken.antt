-- The state of 213 numbers of 16 bits is well-formed.
use Rattle.std.proofs.Common.{◌≡◌, subst, List, [], ◌∷◌, ℕ, zero, suc, ◌+◌, ◌-◌, ◌<◌, arith, lit<, ℤ, length, drop, get_or}
use Rattle.lists.specs.Parts.{total, cut, part_at}
use Rattle.basicop.specs.Words.{Words}
use Rattle.basicop.proofs.Words.{words_take, words_drop}
use Rattle.state.specs.Layout.{counts, core_parts, core_of, post_parts, post_of, concealment_parts, concealment_of, state_parts, state_count, state_of}
use Rattle.state.specs.State.{WellFormed}

-- a part of numbers of 16 bits
words_part : (ns : List ℕ) (xs : List ℤ) (k : ℕ) → k < length ns → Words (total ns) xs → Words (get_or ns k 0) (part_at (cut ns xs) k)
words_part [] xs k h w = absurd (omega arith)
words_part (n ∷ ns) xs zero h w = words_take n xs (omega arith) w
words_part (n ∷ ns) xs (suc k) h w =
    let rest : n + total ns - n ≡ total ns = omega arith in
    words_part ns (drop n xs) k (omega arith) (subst (λ (m : ℕ). Words m (drop n xs)) rest (words_drop n xs w))

pub numbers_well_formed : (xs : List ℤ) → Words state_count xs → WellFormed (state_of xs)
unfolding state_of core_of post_of concealment_of
numbers_well_formed xs w =
    let core = words_part (counts state_parts) xs 0 (lit< tt) w in
    let post = words_part (counts state_parts) xs 1 (lit< tt) w in
    let own = words_part (counts state_parts) xs 2 (lit< tt) w in
    let past = words_part (counts concealment_parts) _ 3 (lit< tt) own in
    let good = words_part (counts concealment_parts) _ 4 (lit< tt) own in
    record {
      signal = record {
        lsp = words_part (counts core_parts) _ 0 (lit< tt) core;
        past = words_part (counts core_parts) _ 1 (lit< tt) core;
        sharpening = (words_part (counts core_parts) _ 2 (lit< tt) core).fit 0;
        history = words_part (counts core_parts) _ 3 (lit< tt) core;
        input_history = words_part (counts post_parts) _ 0 (lit< tt) post;
        synthesis_history = words_part (counts post_parts) _ 1 (lit< tt) post;
        previous_residual = (words_part (counts post_parts) _ 2 (lit< tt) post).fit 0;
        previous_gain = (words_part (counts post_parts) _ 3 (lit< tt) post).fit 0;
      };
      concealment = record {
        last_lag = (words_part (counts concealment_parts) _ 0 (lit< tt) own).fit 0;
        gains = record {
          pitch_history = words_part (counts concealment_parts) _ 1 (lit< tt) own;
          code_history = words_part (counts concealment_parts) _ 2 (lit< tt) own;
          past = record { pitch = past.fit 0; code = past.fit 1 };
          last_good = record { pitch = good.fit 0; code = good.fit 1 };
        };
        erased = (words_part (counts concealment_parts) _ 5 (lit< tt) own).fit 0;
      };
    }
