-- What stands behind the note of an accepted record is its state's numbers and its version's trailer.
use Rattle.std.proofs.Common.{◌≡◌, refl, subst, ap, ap₂, sym, ◌∙◌, true, List, [], ◌∷◌, ◌++◌, ℕ, zero, suc, ◌+◌, ◌-◌, ◌*◌, arith, ℤ, length, take, drop, length-append, length-drop, take-append-drop, drop-drop, get_or-drop, length-take-le, take_at}
use Rattle.outcome.specs.Outcome.{is_accepted}
use Rattle.outcome.specs.Checks.{first_met}
use Rattle.state.specs.Layout.{state_count, numbers_of}
use Rattle.state.proofs.Numbers.{numbers_of_state}
use Rattle.coding.specs.Bytes.{words, bytes_of, Bytes}
use Rattle.record.specs.Record.{Trailer, end_of, trailer_in, note_length, numbers_in, trailer_checks, record_outcome, read_call}
use Rattle.record.specs.Handover.{rest_by}
use Rattle.coding.proofs.Bytes.{bytes_back}
use Rattle.coding.proofs.Words.{words_length, words_of}
use Rattle.basicop.specs.Words.{Words}
use Rattle.basicop.proofs.Words.{words_append}
use Rattle.record.proofs.Trailers.{Readable, readable, trailer_is}
use Rattle.record.proofs.Reader.{bytes_accepted, trailer_accepted, whole, note_accepted, state_accepted}

-- ---- bytes, and a part of them
take_bytes : (n : ℕ) (b : List ℕ) → Bytes b → Bytes (take n b)
take_bytes zero b f i = omega arith
take_bytes (suc n) [] f i = f i
take_bytes (suc n) (x ∷ b) f zero = f 0
take_bytes (suc n) (x ∷ b) f (suc i) = take_bytes n b (λ j. f (suc j)) i

drop_bytes : (n : ℕ) (b : List ℕ) → Bytes b → Bytes (drop n b)
drop_bytes n b f i = rw (get_or-drop n b i 0) (f (n + i))

-- ---- an accepted record, behind its note
module _ (b : List ℕ) (bytes : Bytes b) (y : is_accepted (record_outcome b) ≡ true) where
  abbrev t : Trailer
  t = trailer_in b

  abbrev body : List ℕ
  body = take t.distance (drop (note_length b) b)

  shown : is_accepted (first_met (trailer_checks (end_of b))) ≡ true
  shown = trailer_accepted b (bytes_accepted b y)

  long : length b ≡ note_length b + (t.distance + 8)
  long = whole b (bytes_accepted b y)

  version : Readable t
  version = readable (end_of b) shown

  note_is : length (read_call b).note ≡ note_length b
  note_is = ap length (sym (note_accepted b y)) ∙ length-take-le (note_length b) b (omega (arith, long))

  body_length_lem : length body ≡ 2 * t.count
  body_length_lem = length-take-le t.distance (drop (note_length b) b) (omega (arith, long, length-drop (note_length b) b)) ∙ version.twice

  body_bytes : bytes_of (words body) ≡ body
  body_bytes = bytes_back t.count body body_length_lem (take_bytes t.distance (drop (note_length b) b) (drop_bytes (note_length b) b bytes))

  numbers_here : take t.count (numbers_of (read_call b).answer.state) ≡ words body
  numbers_here =
      let l = words_length body t.count body_length_lem in
      let k : length (numbers_in b) ≡ state_count = omega (arith, length-append (words body) t.missing, l, version.whole) in
      ap (λ (xs : List ℤ). take t.count xs) (ap numbers_of (sym (state_accepted b y)) ∙ numbers_of_state (numbers_in b) k) ∙ take_at (words body) t.missing t.count l

  rest_parts : drop (note_length b) b ≡ body ++ end_of b
  rest_parts =
      let m : note_length b + t.distance ≡ length b - 8 = omega (arith, long) in
      sym (take-append-drop t.distance (drop (note_length b) b)) ∙ ap (λ (r : List ℕ). body ++ r) (drop-drop t.distance (note_length b) b ∙ ap (λ (n : ℕ). drop n b) m)

  pub rest_is : drop (length (read_call b).note) b ≡ rest_by t (read_call b).answer.state
  rest_is =
      ap (λ (n : ℕ). drop n b) note_is
      ∙ rest_parts
      ∙ ap₂ ◌++◌ (sym body_bytes ∙ ap bytes_of (sym numbers_here)) (trailer_is (end_of b) shown (length-drop (length b - 8) b ∙ omega (arith, long)) (drop_bytes (length b - 8) b bytes))

  -- behind its note
  pub record_is : (read_call b).note ++ rest_by t (read_call b).answer.state ≡ b
  record_is =
      let front : (read_call b).note ≡ take (length (read_call b).note) b = sym (note_accepted b y) ∙ ap (λ (n : ℕ). take n b) (sym note_is) in
      ap₂ ◌++◌ front (sym rest_is) ∙ take-append-drop (length (read_call b).note) b

  -- and its numbers have 16 bits
  pub numbers_fit : Words state_count (numbers_in b)
  numbers_fit =
      let own = words_of t.count body body_length_lem (take_bytes t.distance (drop (note_length b) b) (drop_bytes (note_length b) b bytes)) in
      subst (λ (n : ℕ). Words n (numbers_in b)) version.whole (words_append (words body) t.missing own (record { count = refl; fit = version.fit }))
