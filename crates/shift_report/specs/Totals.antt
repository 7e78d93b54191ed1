-- The totals of a list of calls, by their traces: docs/BENCH.md, "Shift report". Each is worked out by itself, of the whole list.
use Rattle.std.specs.Prelude.{not, List, map, ℕ, ◌*◌, ℤ, nat_abs}
use Rattle.lists.specs.Lists.{count, selected}
use Rattle.lists.specs.Parts.{total}
use Rattle.decoder.specs.Subframe.{flag_of}
use Rattle.mr74.specs.Frame.{Trace}
use Rattle.calls.specs.Calls.{accepted}
use Rattle.lines.specs.Lines.{peak_of}
use Rattle.shift_report.specs.declared.Totals.{Totals}

-- ---- of one call
-- how many of its subframes were retried: their places are not 40
unfoldable pub retried_in : List ℕ → ℕ
retried_in places = count (map flag_of places)

abbrev pub square : ℤ → ℕ
square x = nat_abs x * nat_abs x

unfoldable pub square_sum : List ℤ → ℕ
square_sum samples = total (map square samples)

-- ---- of a list of calls
unfoldable pub accepted_count : List Trace → ℕ
accepted_count ts = count (map accepted ts)

unfoldable pub refused_count : List Trace → ℕ
refused_count ts = count (map (λ (t : Trace). not (accepted t)) ts)

unfoldable pub retried_total : List Trace → ℕ
retried_total ts = total (map (λ (t : Trace). retried_in t.places) (selected accepted ts))

unfoldable pub square_total : List Trace → ℕ
square_total ts = total (map (λ (t : Trace). square_sum t.output) (selected accepted ts))

unfoldable pub peak_total : List Trace → ℕ
peak_total ts = total (map (λ (t : Trace). peak_of t.output) (selected accepted ts))

abbrev pub totals_of : List Trace → Totals
totals_of ts =
    record {
      accepted = accepted_count ts;
      refused = refused_count ts;
      retried = retried_total ts;
      squares = square_total ts;
      peaks = peak_total ts;
    }
