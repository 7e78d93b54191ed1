-- `other_sheet`, `other_output` and `other_table` at bytes of other lengths: each length is computed, and the calls stay shut.
use Rattle.std.proofs.Common.{◌≡◌, refl, sym, ◌∙◌, false, [], ℕ, ◌==◌, replicate, eq-eqb, true≢false}
use Rattle.capi.specs.Frames.{table_in}
use Rattle.kinds.specs.Kind.{SheetKind, FrameSheet, IndexSheet, ErasedSheet}
use Rattle.capi.proofs.Lengths.{other_sheet, other_output, other_table}
use Rattle.applied.specs.Lengths.{LengthsApplied}

differ : (a b : ℕ) → (a == b) ≡ false → a ≡ b → ⊥
differ a b n e = true≢false (sym (eq-eqb a b e) ∙ n)

abbrev indexed : SheetKind
indexed = IndexSheet (table_in []) (table_in [])

pub lengths_applied : LengthsApplied
lengths_applied =
    record {
      frame_sheet = other_sheet FrameSheet 0 (replicate 365 0) (replicate 426 0) (replicate 320 0) (replicate 88 0) (replicate 4 0) [] refl (differ _ _ refl);
      index_sheet = other_sheet indexed 4 (replicate 364 0) (replicate 426 0) (replicate 320 0) (replicate 88 0) (replicate 4 0) (replicate 8 0) refl (differ _ _ refl);
      erased_sheet = other_sheet ErasedSheet 4 (replicate 356 0) (replicate 426 0) (replicate 320 0) (replicate 88 0) (replicate 4 0) (replicate 8 0) refl (differ _ _ refl);
      both = other_sheet FrameSheet 0 (replicate 365 0) (replicate 426 0) (replicate 318 0) (replicate 88 0) (replicate 4 0) [] refl (differ _ _ refl);
      frame_output = other_output FrameSheet 0 (replicate 364 0) (replicate 426 0) (replicate 318 0) (replicate 88 0) (replicate 4 0) [] refl refl (differ _ _ refl);
      index_output = other_output indexed 4 (replicate 356 0) (replicate 426 0) (replicate 321 0) (replicate 88 0) (replicate 4 0) (replicate 8 0) refl refl (differ _ _ refl);
      erased_output = other_output ErasedSheet 4 (replicate 342 0) (replicate 426 0) (replicate 0 0) (replicate 88 0) (replicate 4 0) (replicate 8 0) refl refl (differ _ _ refl);
      table = other_table (replicate 64 0) (differ _ _ refl);
    }
