-- That LSFs lie in their range has one proof at most, as a fact of a type needs.
use Rattle.std.specs.Coded.{×_prop, Unit-prop}
use Rattle.std.proofs.Common.{List, [], ◌∷◌, ℤ}
use denote.Struct.Props.{props}
use Rattle.spectral.specs.Lsp.{Frequencies}

pub frequencies_prop : (lsfs : List ℤ) → IsProp (Frequencies lsfs)
frequencies_prop [] = Unit-prop
frequencies_prop (lsf ∷ lsfs) = ×_prop (Prim.hlevel props) (frequencies_prop lsfs)
