-- For inner functions: the code's versions by their trailers, and a body before a trailer. The contracts of reader and writer do not use it.
use Rattle.std.specs.Prelude.{List, ◌++◌, ℕ, ◌-◌, ℤ, length, drop}
use Rattle.coding.specs.Bytes.{words}
use Rattle.record.specs.Record.{Trailer, current, first}
use Rattle.record.specs.declared.version.Version.{Version}
use Rattle.record.specs.declared.version.Version.TheVariants.{Current, First}

abbrev pub trailer_by : Version → Trailer
trailer_by Current = current
trailer_by First = first

-- of the bytes before a trailer: the numbers of the body, which are the last of them, and then those that it has not
abbrev pub body_numbers : Trailer → List ℕ → List ℤ
body_numbers t before = words (drop (length before - t.distance) before) ++ t.missing
