-- The code's kinds of sheets, lent and checked, by the kinds of the definitions.
use Rattle.kinds.specs.declared.kind.SheetKind.{SheetKind as LentKind}
use Rattle.kinds.specs.declared.kind.SheetKind.TheVariants.{Frame as LentFrame, Index as LentIndex, Erased as LentErased}
use Rattle.kinds.specs.declared.kind.CheckedKind.{CheckedKind}
use Rattle.kinds.specs.declared.kind.CheckedKind.TheVariants.{Frame, Index, Erased}
use Rattle.kinds.specs.Kind.{SheetKind, FrameSheet, IndexSheet, ErasedSheet}

-- as a call is lent it, with its tables
abbrev pub lent_kind : LentKind → SheetKind
lent_kind LentFrame = FrameSheet
lent_kind (LentIndex logs pows) = IndexSheet logs.now pows.now
lent_kind LentErased = ErasedSheet

-- as its checks have accepted it
abbrev pub checked_kind : CheckedKind → SheetKind
checked_kind Frame = FrameSheet
checked_kind (Index tables) = IndexSheet tables.logs.now tables.pows.now
checked_kind Erased = ErasedSheet
