-- The basic operators of 3GPP TS 26.073 (basic_op, oper_32b), over the integers, under the standard's names in lower case.
-- A number of 16 or 32 bits is an integer here: `pos n` is n and `negsuc n` is -(n + 1). `clamp` is the standard's saturation.
use Rattle.std.specs.Prelude.{if◌then◌else◌, List, map, ℕ, zero, suc, ◌-◌, ◌*◌, ◌%◌, ◌^◌, nat_lt, ℤ, pos, negsuc, ◌+ℤ◌, ◌-ℤ◌, ◌*ℤ◌}
use Rattle.std.specs.Int.Signed.{lt_z, le_z, shr_z}
use Rattle.std.specs.Int.{Width, w16, w32}
use mir.Val.{bits, hbits}
use Rattle.lists.specs.Lists.{eq_z, iter}
use Rattle.basicop.specs.declared.Dpf.{Dpf}

-- ---- any width
-- the least and the greatest number of a signed width of w bits: -2 ^ (w - 1) and 2 ^ (w - 1) - 1
abbrev pub least : Width → ℤ
least w = negsuc (2 ^ hbits w - 1)

abbrev pub most : Width → ℤ
most w = pos (2 ^ hbits w - 1)

-- z held to the range of the width
unfoldable pub clamp : Width → ℤ → ℤ
clamp w z = if lt_z z (least w) then least w else if lt_z (most w) z then most w else z

-- z >> n, the arithmetic shift: z / 2 ^ n, rounded toward minus infinity
unfoldable pub asr : ℤ → ℕ → ℤ
asr z n = shr_z z (2 ^ n)

-- the remainder of z / m so rounded, from 0 to m - 1
abbrev pub mod_z : ℤ → ℕ → ℕ
mod_z (pos a) m = a % m
mod_z (negsuc a) m = m - suc (a % m)

-- the low n bits of z in two's complement, as a number from 0: z & (2 ^ n - 1)
abbrev pub low_bits : ℕ → ℤ → ℤ
low_bits n z = pos (mod_z z (2 ^ n))

-- bit n of z: 0 or 1
abbrev pub bit : ℤ → ℕ → ℤ
bit z n = low_bits 1 (asr z n)

-- the low w bits of z, read as signed: z modulo 2 ^ w, less 2 ^ w where that is beyond the range
unfoldable pub wrap : Width → ℤ → ℤ
wrap w z =
    let m = mod_z z (2 ^ bits w) in
    if nat_lt m (2 ^ hbits w) then pos m else pos m -ℤ pos (2 ^ bits w)

-- ---- 16 bits
unfoldable pub add : ℤ → ℤ → ℤ
add a b = clamp w16 (a +ℤ b)

unfoldable pub sub : ℤ → ℤ → ℤ
sub a b = clamp w16 (a -ℤ b)

unfoldable pub mult : ℤ → ℤ → ℤ
mult a b = clamp w16 (asr (a *ℤ b) 15)

-- a negative count is the other shift, here and below
unfoldable pub shl : ℤ → ℤ → ℤ
shl x (pos n) = clamp w16 (x *ℤ pos (2 ^ n))
shl x (negsuc n) = asr x (suc n)

abbrev pub shr : ℤ → ℤ → ℤ
shr x (pos n) = asr x n
shr x (negsuc n) = shl x (pos (suc n))

-- each number of a list >> 2: before energy_new starts again, and where the synthesis overflows
abbrev pub quartered : List ℤ → List ℤ
quartered xs = map (λ (x : ℤ). shr x (pos 2)) xs

-- ---- 32 bits
unfoldable pub l_add : ℤ → ℤ → ℤ
l_add x y = clamp w32 (x +ℤ y)

unfoldable pub l_sub : ℤ → ℤ → ℤ
l_sub x y = clamp w32 (x -ℤ y)

unfoldable pub l_mult : ℤ → ℤ → ℤ
l_mult a b = clamp w32 (pos 2 *ℤ (a *ℤ b))

abbrev pub l_mac : ℤ → ℤ → ℤ → ℤ
l_mac s a b = l_add s (l_mult a b)

abbrev pub l_msu : ℤ → ℤ → ℤ → ℤ
l_msu s a b = l_sub s (l_mult a b)

unfoldable pub l_shl : ℤ → ℤ → ℤ
l_shl x (pos n) = clamp w32 (x *ℤ pos (2 ^ n))
l_shl x (negsuc n) = asr x (suc n)

abbrev pub l_shr : ℤ → ℤ → ℤ
l_shr x (pos n) = asr x n
l_shr x (negsuc n) = l_shl x (pos (suc n))

-- the shift to the right that rounds: by 1 to 31 the last bit that leaves is added, by more the answer is 0
unfoldable pub l_shr_r : ℤ → ℤ → ℤ
l_shr_r x (pos zero) = x
l_shr_r x (pos (suc n)) = if nat_lt n 31 then asr x (suc n) +ℤ bit x n else pos 0
l_shr_r x (negsuc n) = l_shl x (pos (suc n))

-- ---- between 16 and 32 bits
abbrev pub extract_h : ℤ → ℤ
extract_h x = asr x 16

-- the low 16 bits, read as signed (docs/BENCH.md, "Coefficient rows")
abbrev pub extract_l : ℤ → ℤ
extract_l x = wrap w16 x

abbrev pub round : ℤ → ℤ
round x = extract_h (l_add x (pos 32768))

unfoldable pub l_deposit_h : ℤ → ℤ
l_deposit_h a = a *ℤ pos 65536

-- ---- norm_l: how far x can be shifted to the left
-- how often n is doubled until it is at least 2 ^ 30, at most f times
unfoldable pub doublings : ℕ → ℕ → ℕ
doublings zero n = 0
doublings (suc f) n = if nat_lt n 1073741824 then suc (doublings f (2 * n)) else 0

-- 0 for 0 and 31 for -1; else of x, and of its complement -x - 1 where x is negative
unfoldable pub norm_l : ℤ → ℤ
norm_l (pos zero) = pos 0
norm_l (pos (suc n)) = pos (doublings 30 (suc n))
norm_l (negsuc zero) = pos 31
norm_l (negsuc (suc n)) = pos (doublings 30 (suc n))

-- ---- div_s, for 0 ≤ n ≤ d and 0 < d. A quotient is had only here, with what it was divided by
pub record Quotient : Type 0 where
  pub value : ℤ
  -- any number by which the definition divides, at a division that it comes to (docs/BENCH.md, "Recurrence")
  pub divisor : ℤ

-- what is left of the numerator, and the quotient so far
pub record Turn : Type 0 where
  pub num : ℤ
  pub quo : ℤ

-- one turn: both are doubled; a numerator that has reached d loses d, and the quotient is one more
abbrev pub turn : ℤ → ℕ → Turn → Turn
turn d k t =
    let num = pos 2 *ℤ t.num in
    let quo = pos 2 *ℤ t.quo in
    if le_z d num then record { num = num -ℤ d; quo = quo +ℤ pos 1 } else record { num = num; quo = quo }

unfoldable pub div_s : ℤ → ℤ → Quotient
div_s n d =
    record {
      value = if eq_z n d then pos 32767 else (iter (turn d) 15 (record { num = n; quo = pos 0 })).quo;
      divisor = d;
    }

-- ---- 32 bits as two halves (DPF): x is hi * 65536 + lo * 2, without its lowest bit
unfoldable pub l_extract : ℤ → Dpf
l_extract x =
    let hi = extract_h x in
    record { hi = hi; lo = extract_l (l_msu (l_shr x (pos 1)) hi (pos 16384)) }

unfoldable pub mpy_32_16 : Dpf → ℤ → ℤ
mpy_32_16 x n = l_mac (l_mult x.hi n) (mult x.lo n) (pos 1)
