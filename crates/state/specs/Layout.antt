-- How a state is laid out as numbers: docs/BENCH.md, "Record", the body.
use Rattle.std.specs.Prelude.{List, [], ◌∷◌, ◌++◌, map, ℕ, ℤ}
use Rattle.lists.specs.Lists.{at}
use Rattle.lists.specs.Parts.{joined, total, cut, part_at}
use Rattle.decoder.specs.declared.Core.{Core}
use Rattle.postfilter.specs.declared.Postfilter.{Postfilter}
use Rattle.basicop.specs.declared.Gains.{Gains}
use Rattle.gain_concealment.specs.declared.GainConcealment.{GainConcealment}
use Rattle.state.specs.declared.Concealment.{Concealment}
use Rattle.state.specs.declared.State.{State}

-- a part of what is laid out: how many numbers it has, and which they are
pub record Part (A : Type 0) : Type 0 where
  pub count : ℕ
  pub numbers : A → List ℤ

abbrev pub part : {A : Type 0} → ℕ → (A → List ℤ) → Part A
part count numbers = record { count = count; numbers = numbers }

-- a part of one number
abbrev pub one : {A : Type 0} → (A → ℤ) → Part A
one {A} number = part 1 (λ (a : A). number a ∷ [])

abbrev pub counts : {A : Type 0} → List (Part A) → List ℕ
counts {A} ps = map (λ (p : Part A). p.count) ps

-- the numbers of each part
abbrev pub parts_in : {A : Type 0} → List (Part A) → A → List (List ℤ)
parts_in {A} ps a = map (λ (p : Part A). p.numbers a) ps

-- ---- the core
-- previous LSP
abbrev pub lsp : Part Core
lsp = part 10 (λ (c : Core). c.lsp)

-- past excitation, oldest first
abbrev pub past : Part Core
past = part 154 (λ (c : Core). c.past)

abbrev pub sharpening : Part Core
sharpening = one (λ (c : Core). c.sharpening.0)

-- synthesis history
abbrev pub history : Part Core
history = part 10 (λ (c : Core). c.history)

-- 0..9, 10..163, 164, 165..174
abbrev pub core_parts : List (Part Core)
core_parts = lsp ∷ past ∷ sharpening ∷ history ∷ []

-- 175
abbrev pub core_count : ℕ
core_count = total (counts core_parts)

unfoldable pub core_numbers : Core → List ℤ
core_numbers c = joined (parts_in core_parts c)

abbrev pub core_from : List (List ℤ) → Core
core_from ps = record { lsp = part_at ps 0; past = part_at ps 1; sharpening = record { 0 = at (part_at ps 2) 0 }; history = part_at ps 3 }

unfoldable pub core_of : List ℤ → Core
core_of xs = core_from (cut (counts core_parts) xs)

-- ---- the postfilter
-- postfilter input
abbrev pub input_history_part : Part Postfilter
input_history_part = part 10 (λ (p : Postfilter). p.input_history)

-- postfilter output
abbrev pub synthesis_history_part : Part Postfilter
synthesis_history_part = part 10 (λ (p : Postfilter). p.synthesis_history)

abbrev pub previous_residual_part : Part Postfilter
previous_residual_part = one (λ (p : Postfilter). p.previous_residual)

-- smoothed gain
abbrev pub previous_gain_part : Part Postfilter
previous_gain_part = one (λ (p : Postfilter). p.gain.previous_gain)

-- 175..184, 185..194, 195, 196
abbrev pub post_parts : List (Part Postfilter)
post_parts = input_history_part ∷ synthesis_history_part ∷ previous_residual_part ∷ previous_gain_part ∷ []

-- 22
abbrev pub post_count : ℕ
post_count = total (counts post_parts)

unfoldable pub post_numbers : Postfilter → List ℤ
post_numbers p = joined (parts_in post_parts p)

abbrev pub post_from : List (List ℤ) → Postfilter
post_from ps =
    record {
      input_history = part_at ps 0;
      synthesis_history = part_at ps 1;
      previous_residual = at (part_at ps 2) 0;
      gain = record { previous_gain = at (part_at ps 3) 0 };
    }

unfoldable pub post_of : List ℤ → Postfilter
post_of xs = post_from (cut (counts post_parts) xs)

-- ---- the concealment
-- last lag
abbrev pub last_lag_part : Part Concealment
last_lag_part = one (λ (c : Concealment). c.last_lag)

-- five pitch gains, oldest first
abbrev pub pitch_history_part : Part Concealment
pitch_history_part = part 5 (λ (c : Concealment). c.gains.pitch_history)

-- five code gains, oldest first
abbrev pub code_history_part : Part Concealment
code_history_part = part 5 (λ (c : Concealment). c.gains.code_history)

-- pitch first
abbrev pub pair_numbers : Gains → List ℤ
pair_numbers p = p.pitch.0 ∷ p.code.0 ∷ []

-- past gains
abbrev pub past_part : Part Concealment
past_part = part 2 (λ (c : Concealment). pair_numbers c.gains.past)

-- last good gains
abbrev pub last_good_part : Part Concealment
last_good_part = part 2 (λ (c : Concealment). pair_numbers c.gains.last_good)

-- erased mark
abbrev pub erased_part : Part Concealment
erased_part = one (λ (c : Concealment). c.erased)

-- 197, 198..202, 203..207, 208 and 209, 210 and 211, 212
abbrev pub concealment_parts : List (Part Concealment)
concealment_parts = last_lag_part ∷ pitch_history_part ∷ code_history_part ∷ past_part ∷ last_good_part ∷ erased_part ∷ []

-- 16
abbrev pub concealment_count : ℕ
concealment_count = total (counts concealment_parts)

unfoldable pub concealment_numbers : Concealment → List ℤ
concealment_numbers c = joined (parts_in concealment_parts c)

abbrev pub pair_from : List ℤ → Gains
pair_from xs = record { pitch = record { 0 = at xs 0 }; code = record { 0 = at xs 1 } }

abbrev pub concealment_from : List (List ℤ) → Concealment
concealment_from ps =
    record {
      last_lag = at (part_at ps 0) 0;
      gains = record { pitch_history = part_at ps 1; code_history = part_at ps 2; past = pair_from (part_at ps 3); last_good = pair_from (part_at ps 4) };
      erased = at (part_at ps 5) 0;
    }

unfoldable pub concealment_of : List ℤ → Concealment
concealment_of xs = concealment_from (cut (counts concealment_parts) xs)

-- fields 198..=211: the gains
abbrev pub gain_numbers : GainConcealment → List ℤ
gain_numbers g = g.pitch_history ++ (g.code_history ++ (pair_numbers g.past ++ pair_numbers g.last_good))

-- ---- the state: the core, the postfilter and the concealment
abbrev pub state_parts : List (Part State)
state_parts =
    part core_count (λ (s : State). core_numbers s.core)
    ∷ part post_count (λ (s : State). post_numbers s.post)
    ∷ part concealment_count (λ (s : State). concealment_numbers s.concealment)
    ∷ []

-- 213
abbrev pub state_count : ℕ
state_count = total (counts state_parts)

unfoldable pub numbers_of : State → List ℤ
numbers_of s = joined (parts_in state_parts s)

abbrev pub state_from : List (List ℤ) → State
state_from ps = record { core = core_of (part_at ps 0); post = post_of (part_at ps 1); concealment = concealment_of (part_at ps 2) }

unfoldable pub state_of : List ℤ → State
state_of xs = state_from (cut (counts state_parts) xs)
