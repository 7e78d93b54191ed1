-- A state as 213 numbers: they are as many, each of 16 bits, and the state of them is the state; and back.
use Rattle.std.proofs.Common.{◌≡◌, refl, sym, ap, ◌∙◌, List, [], ◌∷◌, ◌++◌, append_assoc, append-nil, ℕ, arith, ℤ, pos, length, drop, drop_at, drop-drop}
use Rattle.lists.specs.Lists.{at}
use Rattle.lists.proofs.Entries.{at_drop}
use Rattle.lists.specs.Parts.{joined, total, starts, cut, part_at}
use Rattle.lists.proofs.Parts.{Each, each_so, cut_joined, counted_cut, joined_cut, one_entry}
use Rattle.basicop.specs.Words.{Words}
use Rattle.basicop.proofs.Words.{zero_fits, words_one, words_append}
use Rattle.basicop.specs.declared.Gains.{Gains}
use Rattle.gain_concealment.specs.Formed.{PairFormed}
use Rattle.state.specs.declared.Concealment.{Concealment}
use Rattle.state.specs.declared.State.{State}
use Rattle.state.specs.State.{WellFormed, Fields}
use Rattle.state.specs.Layout.{Part, counts, parts_in, core_parts, core_count, core_numbers, core_from, core_of, post_parts, post_count, post_numbers, post_from, post_of, concealment_parts, concealment_count, concealment_numbers, concealment_from, concealment_of, pair_from, pair_numbers, gain_numbers, state_parts, state_count, numbers_of, state_from, state_of}

-- the numbers at which the parts start
pub numbered :
    starts 0 (counts core_parts ++ (counts post_parts ++ counts concealment_parts))
    ≡ 0 ∷ 10 ∷ 164 ∷ 165 ∷ 175 ∷ 185 ∷ 195 ∷ 196 ∷ 197 ∷ 198 ∷ 203 ∷ 208 ∷ 210 ∷ 212 ∷ []
numbered = refl

-- ---- parts of numbers of 16 bits
words_joined : (ns : List ℕ) (ps : List (List ℤ)) → Each Words ns ps → Words (total ns) (joined ps)
words_joined [] [] e = record { count = refl; fit = λ i. zero_fits }
words_joined [] (p ∷ ps) e = absurd e
words_joined (n ∷ ns) [] e = absurd e
words_joined (n ∷ ns) (p ∷ ps) e = words_append p (joined ps) e.0 (words_joined ns ps e.1)

-- a part of two, pitch and code gain
words_pair : (p : Gains) → PairFormed p → Words 2 (pair_numbers p)
words_pair p f = words_append (p.pitch.0 ∷ []) (p.code.0 ∷ []) (words_one p.pitch.0 f.pitch) (words_one p.code.0 f.code)

two_entries : (xs : List ℤ) → length xs ≡ 2 → pair_numbers (pair_from xs) ≡ xs
two_entries [] e = absurd (omega (arith, e))
two_entries (x ∷ []) e = absurd (omega (arith, e))
two_entries (x ∷ y ∷ []) e = refl
two_entries (x ∷ y ∷ z ∷ xs) e = absurd (omega (arith, e))

-- every part of a is of 16-bit numbers, as many as it says
abbrev Held : {A : Type 0} → List (Part A) → A → Type 0
Held ps a = Each Words (counts ps) (parts_in ps a)

module _ {A : Type 0} (ps : List (Part A)) (a : A) (h : Held ps a) where
  held_words : Words (total (counts ps)) (joined (parts_in ps a))
  held_words = words_joined (counts ps) (parts_in ps a) h

  held_cut : cut (counts ps) (joined (parts_in ps a)) ≡ parts_in ps a
  held_cut = cut_joined (counts ps) (parts_in ps a) (each_so (λ (n : ℕ) (p : List ℤ) (w : Words n p). w.count) (counts ps) (parts_in ps a) h)

-- ---- there and back
module _ (s : State) (w : WellFormed s) where
  in_core : Held core_parts s.core
  in_core = let c = w.signal in (c.lsp, (c.past, (words_one _ c.sharpening, (c.history, tt))))

  in_post : Held post_parts s.post
  in_post = let p = w.signal in (p.input_history, (p.synthesis_history, (words_one _ p.previous_residual, (words_one _ p.previous_gain, tt))))

  in_concealment : Held concealment_parts s.concealment
  in_concealment =
      let c = w.concealment in
      let g = c.gains in
      (words_one _ c.last_lag, (g.pitch_history, (g.code_history, (words_pair s.concealment.gains.past g.past, (words_pair s.concealment.gains.last_good g.last_good, (words_one _ c.erased, tt))))))

  in_state : Held state_parts s
  unfolding core_numbers post_numbers concealment_numbers
  in_state = (held_words core_parts s.core in_core, (held_words post_parts s.post in_post, (held_words concealment_parts s.concealment in_concealment, tt)))

  core_back : core_of (core_numbers s.core) ≡ s.core
  unfolding core_of core_numbers
  core_back = ap core_from (held_cut core_parts s.core in_core)

  post_back : post_of (post_numbers s.post) ≡ s.post
  unfolding post_of post_numbers
  post_back = ap post_from (held_cut post_parts s.post in_post)

  concealment_back : concealment_of (concealment_numbers s.concealment) ≡ s.concealment
  unfolding concealment_of concealment_numbers
  concealment_back = ap concealment_from (held_cut concealment_parts s.concealment in_concealment)

  pub state_of_numbers : state_of (numbers_of s) ≡ s
  unfolding state_of numbers_of
  state_of_numbers = ap state_from (held_cut state_parts s in_state) ∙ (λ i. record { core = core_back i; post = post_back i; concealment = concealment_back i })

  pub numbers_words : Words state_count (numbers_of s)
  unfolding numbers_of
  numbers_words = held_words state_parts s in_state

-- ---- back and there
core_numbers_lem : (xs : List ℤ) → length xs ≡ core_count → core_numbers (core_of xs) ≡ xs
unfolding core_of core_numbers
core_numbers_lem xs l =
    let ps = cut (counts core_parts) xs in
    let c = counted_cut (counts core_parts) xs l in
    ap joined (λ i. part_at ps 0 ∷ part_at ps 1 ∷ one_entry (part_at ps 2) (pos 0) c.1.1.0 i ∷ part_at ps 3 ∷ []) ∙ joined_cut (counts core_parts) xs l

post_numbers_lem : (xs : List ℤ) → length xs ≡ post_count → post_numbers (post_of xs) ≡ xs
unfolding post_of post_numbers
post_numbers_lem xs l =
    let ps = cut (counts post_parts) xs in
    let c = counted_cut (counts post_parts) xs l in
    ap joined (λ i. part_at ps 0 ∷ part_at ps 1 ∷ one_entry (part_at ps 2) (pos 0) c.1.1.0 i ∷ one_entry (part_at ps 3) (pos 0) c.1.1.1.0 i ∷ []) ∙ joined_cut (counts post_parts) xs l

concealment_numbers_lem : (xs : List ℤ) → length xs ≡ concealment_count → concealment_numbers (concealment_of xs) ≡ xs
unfolding concealment_of concealment_numbers
concealment_numbers_lem xs l =
    let ps = cut (counts concealment_parts) xs in
    let c = counted_cut (counts concealment_parts) xs l in
    let d = c.1.1.1 in
    ap joined
    (λ i. one_entry (part_at ps 0) (pos 0) c.0 i ∷ part_at ps 1 ∷ part_at ps 2 ∷ two_entries (part_at ps 3) d.0 i ∷ two_entries (part_at ps 4) d.1.0 i ∷ one_entry (part_at ps 5) (pos 0) d.1.1.0 i ∷ [])
    ∙ joined_cut (counts concealment_parts) xs l

pub numbers_of_state : (xs : List ℤ) → length xs ≡ state_count → numbers_of (state_of xs) ≡ xs
unfolding state_of numbers_of
numbers_of_state xs l =
    let ps = cut (counts state_parts) xs in
    let c = counted_cut (counts state_parts) xs l in
    ap joined (λ i. core_numbers_lem (part_at ps 0) c.0 i ∷ post_numbers_lem (part_at ps 1) c.1.0 i ∷ concealment_numbers_lem (part_at ps 2) c.1.1.0 i ∷ []) ∙ joined_cut (counts state_parts) xs l

-- ---- the fields that 18 and 19 are about
pub own_fields : (c : Concealment) → drop 1 (concealment_numbers c) ≡ gain_numbers c.gains ++ (c.erased ∷ [])
unfolding concealment_numbers
own_fields c =
    let g = c.gains in
    let pairs = pair_numbers g.past ++ pair_numbers g.last_good in
    let mark = c.erased ∷ [] in
    sym (append_assoc g.pitch_history (g.code_history ++ pairs) mark ∙ ap (λ (xs : List ℤ). g.pitch_history ++ xs) (append_assoc g.code_history pairs mark))

from_197 : (s : State) → WellFormed s → drop 197 (numbers_of s) ≡ concealment_numbers s.concealment
unfolding numbers_of core_numbers post_numbers
from_197 s w =
    let own = concealment_numbers s.concealment in
    let core = (held_words core_parts s.core (in_core s w)).count in
    let post = (held_words post_parts s.post (in_post s w)).count in
    sym (drop-drop 22 175 (numbers_of s))
    ∙ ap (drop 22) (drop_at (core_numbers s.core) (post_numbers s.post ++ (own ++ [])) 175 core)
    ∙ drop_at (post_numbers s.post) (own ++ []) 22 post
    ∙ append-nil own

pub fields_placed : (s : State) → WellFormed s → Fields s
unfolding concealment_numbers
fields_placed s w =
    record {
      last_lag = at_drop (numbers_of s) 197 0 ∙ ap (λ (xs : List ℤ). at xs 0) (from_197 s w);
      gains = sym (drop-drop 1 197 (numbers_of s)) ∙ ap (drop 1) (from_197 s w) ∙ own_fields s.concealment;
    }
