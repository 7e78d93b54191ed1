-- Numbers of 16 bits as bytes: two's complement, low byte first.
use Rattle.std.specs.Prelude.{if◌then◌else◌, List, [], ◌∷◌, ℕ, ◌+◌, ◌-◌, ◌*◌, ◌/◌, ◌%◌, ◌<◌, nat_lt, ℤ, pos, negsuc, slice_index}
use Rattle.lists.specs.Lists.{minus}

-- the number whose sixteen bits are n: n, or n − 65536 from 32768 on
abbrev pub signed16 : ℕ → ℤ
signed16 n = if nat_lt n 32768 then pos n else minus (65536 - n)

-- the sixteen bits of a number: x, or 65536 + x where it is negative
abbrev pub bits16 : ℤ → ℕ
bits16 (pos n) = n
bits16 (negsuc n) = 65535 - n

abbrev pub unsigned : ℕ → ℕ → ℕ
unsigned low high = low + 256 * high

-- the numbers of bytes, two by two
unfoldable pub words : List ℕ → List ℤ
words [] = []
words (low ∷ []) = []
words (low ∷ high ∷ bs) = signed16 (unsigned low high) ∷ words bs

-- the bytes of numbers
unfoldable pub bytes_of : List ℤ → List ℕ
bytes_of [] = []
bytes_of (x ∷ xs) = bits16 x % 256 ∷ bits16 x / 256 ∷ bytes_of xs

-- every number is a byte
abbrev pub Bytes : List ℕ → Type 0
Bytes b = (i : ℕ) → slice_index b i < 256
