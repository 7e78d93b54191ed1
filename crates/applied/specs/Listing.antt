-- The listing of docs/BENCH.md, "Bench program", input and output, whole, and the shift report of that input; the same of sheets that keep the gap and sheets
-- that break it; `StepsOutput` (bench_output/specs/Steps.antt) applied to them and to refused records.
-- The theorems are `listing`, computed from the definitions, and `steps_applied` in proofs/Listing.antt.
use Rattle.std.specs.Prelude.{◌≡◌, List, [], ◌∷◌, ◌++◌, ℕ, ℤ, pos, replicate, take, set, codes}
use Rattle.lists.specs.Lists.{minus}
use Rattle.coding.specs.Bytes.{bytes_of}
use Rattle.shift_report.specs.Report.{report_output}
use Rattle.bench_output.specs.Output.{bench_output}
use Rattle.bench_output.specs.Steps.{program_output}
use Rattle.applied.specs.Examples.{loud}
use Rattle.applied.specs.Refusals.{lowest}

-- 394 zero bytes, 4D 37 01 00 8A 01 C5 00
abbrev pub zero_record : List ℕ
zero_record = replicate 394 0 ++ (0x4D ∷ 0x37 ∷ 0x01 ∷ 0x00 ∷ 0x8A ∷ 0x01 ∷ 0xC5 ∷ 0x00 ∷ [])

-- a sheet with only LSF 9 = 16385
abbrev pub bad_sheet : List ℕ
bad_sheet = replicate 18 0 ++ (0x01 ∷ 0x40 ∷ replicate 344 0)

-- a zero record, a zero sheet, that sheet, one byte
unfoldable pub input : List ℕ
input = zero_record ++ (replicate 364 0 ++ (bad_sheet ++ (0 ∷ [])))

abbrev pub output : List ℕ
output = codes "1 refused 6 0\n2 refused 2 9\n3 cut\n"

-- what follows the LSFs
abbrev zeros : List ℤ
zeros = replicate 172 (pos 0)

-- a zero record and six sheets, zero but for these LSFs: as low as they go; LSF 0 = 204; LSF 1 = 409; all 16384; LSF 0 = 0 and LSF 5 = -1;
-- 1400 apart but for LSF 3 = 4300, and pitch index 1 = 32
unfoldable pub gap_input : List ℕ
gap_input =
    zero_record
    ++ bytes_of (lowest ++ zeros
    ++ (set lowest 0 (pos 204) ++ zeros
    ++ (set lowest 1 (pos 409) ++ zeros
    ++ (replicate 10 (pos 16384) ++ zeros
    ++ (set (set lowest 0 (pos 0)) 5 (minus 1) ++ zeros
    ++ (set (take 10 loud) 3 (pos 4300) ++ set zeros 1 (pos 32)))))))

abbrev pub gap_output : List ℕ
gap_output = codes "1 0000 0 -\n2 refused 6 0\n3 refused 6 1\n4 refused 6 1\n5 refused 2 5\n6 refused 6 3\n"

pub record Listing : Type 0 where
  pub bench : bench_output input ≡ output
  -- both sheets were refused
  pub report : report_output input ≡ codes "0 2 0 0 none\n"
  pub gaps : bench_output gap_input ≡ gap_output
  pub gap_report : report_output gap_input ≡ codes "1 5 0 0 0\n"

-- what the program's steps print
pub record StepsApplied : Type 0 where
  pub listing : program_output 4 input ≡ output
  pub gaps : program_output 8 gap_input ≡ gap_output
  -- no byte at all; a record of zeros, and a sheet after it
  pub short : program_output 0 [] ≡ codes "state refused 11\n"
  pub refused : program_output 3 (replicate 402 0 ++ replicate 364 0) ≡ codes "state refused 12\n"
