-- The starred values of docs/BENCH.md, "Values to hold", as one statement over one list, about the definitions. The theorem is `starred_hold` in
-- proofs/Starred.antt; `starred_applied` takes some of them out again.
use Rattle.std.specs.Prelude.{◌≡◌, List, [], ◌∷◌, ℤ, pos, replicate}
use Rattle.lists.specs.Lists.{minus}
use Rattle.pitch.specs.Lag.{absolute, relative}
use Rattle.spectral.specs.Lsp.{lsp_of}
use Rattle.lpc.specs.Rows.{coefficient}
use Rattle.energy.specs.Energy.{energy}
use Rattle.energy.specs.Root.{inverse_root}
use Rattle.synthesis.specs.Synthesis.{overflowed_at}

-- what the definition gives, and what is to be held
pub record Value : Type 0 where
  pub given : ℤ
  pub wanted : ℤ

infix 5 ◌is◌
abbrev pub ◌is◌ : ℤ → ℤ → Value
g is w = record { given = g; wanted = w }

-- synthesis with zero history and the row 4096, -4096, zeros: the first sample at which a step clamps, 40 where none does
abbrev pub first_clamp : List ℤ → ℤ
first_clamp xs = pos (overflowed_at 10 (pos 4096 ∷ minus 4096 ∷ replicate 9 (pos 0)) xs (replicate 10 (pos 0)))

-- a lag is its samples and its thirds; an energy is that of one sample among zeros
unfoldable pub starred : List Value
starred =
    (lsp_of (pos 0) is pos 32767)
    ∷ (lsp_of (pos 128) is pos 32748)
    ∷ (lsp_of (pos 16383) is minus 32768)
    ∷ (lsp_of (pos 16384) is minus 32768)
    ∷ ((absolute (pos 0)).samples is pos 19)
    ∷ ((absolute (pos 0)).thirds is pos 1)
    ∷ ((absolute (pos 197)).samples is pos 85)
    ∷ ((absolute (pos 197)).thirds is pos 0)
    ∷ ((relative (pos 31) (pos 143)).samples is pos 144)
    ∷ ((relative (pos 31) (pos 143)).thirds is minus 1)
    ∷ (coefficient (pos 4096) is pos 1)
    ∷ (coefficient (minus 4096) is pos 0)
    ∷ (coefficient (pos 2147483647) is pos 0)
    ∷ (inverse_root (pos 1) is pos 1073709056)
    ∷ (inverse_root (pos 2) is pos 759234560)
    ∷ (energy (minus 32768 ∷ replicate 39 (pos 0)) is pos 134217728)
    ∷ (first_clamp (pos 32767 ∷ replicate 39 (pos 0)) is pos 40)
    ∷ (first_clamp (pos 32767 ∷ pos 1 ∷ replicate 38 (pos 0)) is pos 1)
    ∷ []

-- every value of a list is the one to be held
abbrev pub Hold : List Value → Type 0
Hold [] = Unit
Hold (v ∷ vs) = (v.given ≡ v.wanted) × Hold vs

-- ---- the first, the last and two between them as equations of their own
pub record StarredApplied : Type 0 where
  pub lsp : lsp_of (pos 0) ≡ pos 32767
  pub thirds : (relative (pos 31) (pos 143)).thirds ≡ minus 1
  pub root : inverse_root (pos 2) ≡ pos 759234560
  pub clamp : pos (overflowed_at 10 (pos 4096 ∷ minus 4096 ∷ replicate 9 (pos 0)) (pos 32767 ∷ pos 1 ∷ replicate 38 (pos 0)) (replicate 10 (pos 0))) ≡ pos 1
