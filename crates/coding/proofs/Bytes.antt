-- Numbers of 16 bits and their bytes: one number, loops over them, and both ways after one another.
use Rattle.std.proofs.Common.{◌≡◌, refl, ap, sym, ◌∙◌, Bool, true, false, List, [], ◌∷◌, append_assoc, ℕ, zero, suc, ◌+◌, ◌-◌, ◌*◌, ◌/◌, ◌%◌, ◌^◌, ◌≤◌, ◌<◌, arith, ltb, ℤ, pos, negsuc, length, take, set, get_or, length-set, take_all, ltb-true, ltb-false, lt-ltb, le-ltb, w16, to_z, of_z, SFits}
use lib.Signed.{mag}
use Rattle.std.proofs.lemmas.List.{take_more, take_more_set}
use Rattle.std.specs.Int.{to_le_bytes}
use Rattle.lists.specs.Lists.{at, minus}
use Rattle.lists.proofs.Signed.{back}
use Rattle.basicop.proofs.Words.{zero_fits}
use Rattle.coding.specs.Bytes.{signed16, bits16, unsigned, words, bytes_of, Bytes}
use Rattle.coding.proofs.Laid.{bytes_append}

-- ---- one number
pub bits_is : (z : ℤ) → mag z < 2 ^ 15 → of_z w16 z ≡ bits16 z
bits_is (pos n) h = refl
bits_is (negsuc n) h = omega arith

bits_high : (z : ℤ) → mag z < 2 ^ 15 → bits16 z / 256 % 256 ≡ bits16 z / 256
bits_high (pos n) h = omega arith
bits_high (negsuc n) h = omega arith

-- the two bytes that std gives for what a local has
pub bytes_are : {r : List ℕ} (z : ℤ) → mag z < 2 ^ 15 → r ≡ to_le_bytes w16 (of_z w16 (to_z w16 (of_z w16 z))) → (get_or r 0 0 ≡ bits16 z % 256) × (get_or r 1 0 ≡ bits16 z / 256)
bytes_are z h e =
    rw (e, back w16 h, bits_is z h) (refl, bits_high z h)

-- ---- numbers to bytes: one more number, and the last
pub put_more : (dst : List ℕ) (src : List ℤ) (i x y : ℕ) → length dst ≡ 2 * length src → i < length src → x ≡ bits16 (at src i) % 256 → y ≡ bits16 (at src i) / 256
    → take (2 * i) dst ≡ bytes_of (take i src) → take (2 * (i + 1)) (set (set dst (2 * i) x) (2 * i + 1) y) ≡ bytes_of (take (i + 1) src)
unfolding bytes_of
put_more dst src i x y l h e f inv =
    let j : 2 * i < length dst = omega (arith, l) in
    let k : 2 * i + 1 < length (set dst (2 * i) x) = simp length-set (omega (arith, l)) in
    let two : 2 * (i + 1) ≡ 2 * i + 1 + 1 = omega arith in
    rw (two, take_more_set (set dst (2 * i) x) (2 * i + 1) y k, take_more_set dst (2 * i) x j, take_more src i (pos 0) h, bytes_append (take i src) (at src i ∷ []), inv, e, f)
    (append_assoc (bytes_of (take i src)) (bits16 (at src i) % 256 ∷ []) (bits16 (at src i) / 256 ∷ []))

pub put_done : (dst : List ℕ) (src : List ℤ) (i : ℕ) → length dst ≡ 2 * length src → length src ≤ i → take (2 * i) dst ≡ bytes_of (take i src) → dst ≡ bytes_of src
put_done dst src i l h inv =
    let k : length dst ≤ 2 * i = omega (arith, l) in
    sym (take_all (2 * i) dst k) ∙ inv ∙ ap bytes_of (take_all i src h)

-- ---- there and back
pub number_back : (x : ℤ) → mag x < 2 ^ 15 → signed16 (unsigned (bits16 x % 256) (bits16 x / 256)) ≡ x
number_back (pos n) h = let e : n % 256 + 256 * (n / 256) ≡ n = omega arith in ap signed16 e ∙ rw (lt-ltb n 32768 h)
number_back (negsuc n) h =
    let m : ℕ = 65535 - n in
    let e : m % 256 + 256 * (m / 256) ≡ m = omega arith in
    let k : 65536 - m ≡ suc n = omega arith in
    let l : 32768 ≤ m = omega arith in
    ap signed16 e ∙ rw (le-ltb m 32768 l) (ap minus k)

pub bits_back : (n : ℕ) → n < 65536 → bits16 (signed16 n) ≡ n
bits_back n h = go (ltb n 32768) refl
  where
    go : (b : Bool) → ltb n 32768 ≡ b → bits16 (signed16 n) ≡ n
    go true e = rw e
    go false e =
        let l : 32768 ≤ n = ltb-false n 32768 e in
        let k : 65536 - n ≡ suc (65535 - n) = omega arith in
        let m : 65535 - (65535 - n) ≡ n = omega arith in
        rw (e, k) m

pub words_back : (xs : List ℤ) → ((i : ℕ) → SFits w16 (at xs i)) → words (bytes_of xs) ≡ xs
unfolding words bytes_of
words_back [] f = refl
words_back (x ∷ xs) f = λ i. number_back x (f 0).sfits i ∷ words_back xs (λ j. f (suc j)) i

bytes_of_pair : (x y : ℕ) → x < 256 → y < 256 → (bits16 (signed16 (unsigned x y)) % 256 ≡ x) × (bits16 (signed16 (unsigned x y)) / 256 ≡ y)
bytes_of_pair x y h k =
    let l : x + 256 * y < 65536 = omega arith in
    rw (bits_back (x + 256 * y) l) (omega arith, omega arith)

pub bytes_back : (n : ℕ) (b : List ℕ) → length b ≡ 2 * n → Bytes b → bytes_of (words b) ≡ b
unfolding words bytes_of
bytes_back n [] l f = refl
bytes_back n (x ∷ []) l f = absurd (omega (arith, l))
bytes_back zero (x ∷ y ∷ b) l f = absurd (omega (arith, l))
bytes_back (suc n) (x ∷ y ∷ b) l f = let p = bytes_of_pair x y (f 0) (f 1) in λ i. p.0 i ∷ p.1 i ∷ bytes_back n b (omega (arith, l)) (λ j. f (suc (suc j))) i

-- ---- the number of two bytes has 16 bits
signed16_fits : (n : ℕ) → n < 65536 → SFits w16 (signed16 n)
signed16_fits n h = go (ltb n 32768) refl
  where
    go : (b : Bool) → ltb n 32768 ≡ b → SFits w16 (signed16 n)
    go true e = rw e (record { sfits = ltb-true n 32768 e })
    go false e =
        let l : 32768 ≤ n = ltb-false n 32768 e in
        let k : 65536 - n ≡ suc (65535 - n) = omega arith in
        rw (e, k) (record { sfits = omega arith })

pub words_fit : (b : List ℕ) → Bytes b → (i : ℕ) → SFits w16 (at (words b) i)
unfolding words
words_fit [] f i = zero_fits
words_fit (x ∷ []) f i = zero_fits
words_fit (x ∷ y ∷ b) f zero = signed16_fits (x + 256 * y) (omega (arith, f 0, f 1))
words_fit (x ∷ y ∷ b) f (suc i) = words_fit b (λ j. f (suc (suc j))) i
