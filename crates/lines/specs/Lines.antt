-- The bench program's lines, as bytes of ASCII: docs/BENCH.md, "Bench program".
use Rattle.std.specs.Prelude.{Bool, false, if◌then◌else◌, ◌||◌, ℕ, zero, suc, ◌+◌, ◌/◌, ◌%◌, max, nat_lt, nat_le, ℤ, nat_abs, List, [], ◌∷◌, ◌++◌, map, codes}

-- ---- numbers
-- the ASCII code of a digit
abbrev pub digit : ℕ → ℕ
digit d = 48 + d

-- the decimal digits of n, where no more than k of them stand before the last
unfoldable pub spelled : ℕ → ℕ → List ℕ
spelled zero n = digit n ∷ []
spelled (suc k) n = if nat_lt n 10 then digit n ∷ [] else spelled k (n / 10) ++ (digit (n % 10) ∷ [])

-- the decimal digits of a natural number: n has no more than n digits before the last
unfoldable pub decimal : ℕ → List ℕ
decimal n = spelled n n

-- ---- peak and mark
-- the largest of natural numbers, and 0 of none
unfoldable pub largest : List ℕ → ℕ
largest [] = 0
largest (n ∷ ns) = max n (largest ns)

-- the largest distance from zero among the samples: that of -32768 is 32768
unfoldable pub peak_of : List ℤ → ℕ
peak_of samples = largest (map nat_abs samples)

unfoldable pub any_of : List Bool → Bool
any_of [] = false
any_of (flag ∷ flags) = flag || any_of flags

-- L if the peak is 32760 or more; otherwise R if any flag; otherwise -
unfoldable pub mark_of : ℕ → List Bool → ℕ
mark_of peak flags = if nat_le 32760 peak then 0x4C else (if any_of flags then 0x52 else 0x2D)

-- ---- fields and lines
abbrev pub space : ℕ
space = 0x20

abbrev pub line_feed : ℕ
line_feed = 0x0A

abbrev pub flag_digit : Bool → ℕ
flag_digit flag = if flag then digit 1 else digit 0

-- "state", "refused", "cut"
abbrev pub state_word : List ℕ
state_word = codes "state"

abbrev pub refused_word : List ℕ
refused_word = codes "refused"

abbrev pub cut_word : List ℕ
cut_word = codes "cut"

-- a field and, after a space, what follows it
abbrev pub field : List ℕ → List ℕ → List ℕ
field xs rest = xs ++ (space ∷ rest)

-- the last field of a line
abbrev pub last : List ℕ → List ℕ
last xs = xs ++ (line_feed ∷ [])

-- sheet number, four flags, peak, mark
unfoldable pub frame_line : ℕ → List Bool → ℕ → List ℕ
frame_line n flags peak = field (decimal n) (field (map flag_digit flags) (field (decimal peak) (last (mark_of peak flags ∷ []))))

-- sheet number, `refused`, refusal, place
unfoldable pub refused_line : ℕ → ℕ → ℕ → List ℕ
refused_line n number place = field (decimal n) (field refused_word (field (decimal number) (last (decimal place))))

-- sheet number, `cut`
unfoldable pub cut_line : ℕ → List ℕ
cut_line n = field (decimal n) (last cut_word)

-- `state refused` and the refusal
unfoldable pub state_line : ℕ → List ℕ
state_line number = field state_word (field refused_word (last (decimal number)))
