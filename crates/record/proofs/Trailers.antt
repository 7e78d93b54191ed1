-- The versions, and the last 8 bytes of a record.
use Rattle.std.proofs.Common.{◌≡◌, refl, sym, ◌∙◌, subst, Bool, true, false, cond, List, [], ◌∷◌, replicate, lit<, pos, w16, SFits, zero, suc, ℕ, ◌+◌, ◌*◌, ◌/◌, ◌%◌, ◌<◌, arith, T, eqb, length, get_or, eqb-true}
use borrow.Author.Tests.{not-false}
use Rattle.std.proofs.lemmas.Bool.{and_parts}
use Rattle.lists.specs.Lists.{at, Every}
use Rattle.basicop.proofs.Words.{zero_fits}
use Rattle.coding.specs.Body.{missing}
use Rattle.outcome.specs.Outcome.{is_accepted}
use Rattle.outcome.specs.Checks.{first_met}
use Rattle.outcome.proofs.Checks.{none_met}
use Rattle.state.specs.Layout.{state_count}
use Rattle.coding.specs.Bytes.{bytes_of, Bytes}
use Rattle.record.specs.Record.{Trailer, current, first, versions, known, trailer_of, field_at, trailer_checks, trailer_bytes}

-- ---- the versions
-- the trailers as they are written
pub trailers_are :
    (trailer_bytes current ≡ 0x4D ∷ 0x37 ∷ 0x02 ∷ 0x00 ∷ 0xAA ∷ 0x01 ∷ 0xD5 ∷ 0x00 ∷ [])
    × (trailer_bytes first ≡ 0x4D ∷ 0x37 ∷ 0x01 ∷ 0x00 ∷ 0x8A ∷ 0x01 ∷ 0xC5 ∷ 0x00 ∷ [])
unfolding bytes_of
trailers_are = (refl, refl)

zeros_fit : (n i : ℕ) → SFits w16 (at (replicate n (pos 0)) i)
zeros_fit zero i = zero_fits
zeros_fit (suc n) zero = zero_fits
zeros_fit (suc n) (suc i) = zeros_fit n i

missing_fit : (i : ℕ) → SFits w16 (at missing i)
missing_fit zero = record { sfits = lit< tt }
missing_fit (suc i) = zeros_fit 15 i

-- two bytes for each number; with those that are missing, which have 16 bits, as many as a state has; and its trailer is read as this version's
pub record Readable (t : Trailer) : Type 0 where
  pub twice : t.distance ≡ 2 * t.count
  pub whole : t.count + length t.missing ≡ state_count
  pub fit : (i : ℕ) → SFits w16 (at t.missing i)
  pub right : is_accepted (first_met (trailer_checks (trailer_bytes t))) ≡ true
  pub found : trailer_of (field_at (trailer_bytes t) 2) versions ≡ t

pub current_readable : Readable current
unfolding first_met bytes_of
current_readable = record { twice = refl; whole = refl; fit = λ i. zero_fits; right = refl; found = refl }

pub first_readable : Readable first
unfolding first_met bytes_of
first_readable = record { twice = refl; whole = refl; fit = missing_fit; right = refl; found = refl }

-- what holds of every trailer of a list holds of that of a version among them, which is this version's
known_one : (P : Trailer → Type 0) (ts : List Trailer) → Every P ts → (v : ℕ) → known v ts ≡ true → P (trailer_of v ts) × ((trailer_of v ts).version ≡ v)
known_one P [] e v h = absurd (subst T (sym h) tt)
known_one P (t ∷ ts) e v h = go (eqb v t.version) refl h (known_one P ts e.1 v)
  where
    go : (b : Bool) → eqb v t.version ≡ b → cond b true (known v ts) ≡ true → (known v ts ≡ true → P (trailer_of v ts) × ((trailer_of v ts).version ≡ v)) → P (cond b t (trailer_of v ts)) × ((cond b t (trailer_of v ts)).version ≡ v)
    go true f k rest = (e.0, sym (eqb-true v t.version f))
    go false f k rest = rest k

-- ---- what acceptance says, of the bytes too
listed : (t : List ℕ) → length t ≡ 8 → t ≡ get_or t 0 0 ∷ get_or t 1 0 ∷ get_or t 2 0 ∷ get_or t 3 0 ∷ get_or t 4 0 ∷ get_or t 5 0 ∷ get_or t 6 0 ∷ get_or t 7 0 ∷ []
listed [] l = absurd (omega (arith, l))
listed (a ∷ []) l = absurd (omega (arith, l))
listed (a ∷ b ∷ []) l = absurd (omega (arith, l))
listed (a ∷ b ∷ c ∷ []) l = absurd (omega (arith, l))
listed (a ∷ b ∷ c ∷ d ∷ []) l = absurd (omega (arith, l))
listed (a ∷ b ∷ c ∷ d ∷ e ∷ []) l = absurd (omega (arith, l))
listed (a ∷ b ∷ c ∷ d ∷ e ∷ f ∷ []) l = absurd (omega (arith, l))
listed (a ∷ b ∷ c ∷ d ∷ e ∷ f ∷ g ∷ []) l = absurd (omega (arith, l))
listed (a ∷ b ∷ c ∷ d ∷ e ∷ f ∷ g ∷ h ∷ []) l = refl
listed (a ∷ b ∷ c ∷ d ∷ e ∷ f ∷ g ∷ h ∷ x ∷ t) l = absurd (omega (arith, l))

two_bytes : (x y n : ℕ) → x < 256 → x + 256 * y ≡ n → (x ≡ n % 256) × (y ≡ n / 256)
two_bytes x y n h e = (omega arith, omega arith)

module _ (t : List ℕ) (h : is_accepted (first_met (trailer_checks t)) ≡ true) where
  abbrev v : Trailer
  v = trailer_of (field_at t 2) versions

  version : Readable v × (v.version ≡ field_at t 2)
  version = known_one Readable versions (current_readable, (first_readable, tt)) (field_at t 2) (not-false _ (none_met (trailer_checks t) h).1.0)

  pub readable : Readable v
  readable = version.0

  layout : (field_at t 4 ≡ v.distance) × (field_at t 6 ≡ v.count)
  layout =
      let l = and_parts (eqb (field_at t 4) v.distance) (eqb (field_at t 6) v.count) (not-false _ (none_met (trailer_checks t) h).1.1.0) in
      (eqb-true (field_at t 4) v.distance l.0, eqb-true (field_at t 6) v.count l.1)

  pub trailer_is : length t ≡ 8 → Bytes t → t ≡ trailer_bytes v
  unfolding bytes_of
  trailer_is k bytes =
      let m = and_parts (eqb (get_or t 0 0) 0x4D) (eqb (get_or t 1 0) 0x37) (not-false _ (none_met (trailer_checks t) h).0) in
      let a = two_bytes (get_or t 2 0) (get_or t 3 0) v.version (bytes 2) (sym version.1) in
      let b = two_bytes (get_or t 4 0) (get_or t 5 0) v.distance (bytes 4) layout.0 in
      let c = two_bytes (get_or t 6 0) (get_or t 7 0) v.count (bytes 6) layout.1 in
      listed t k ∙ (λ i. eqb-true (get_or t 0 0) 0x4D m.0 i ∷ eqb-true (get_or t 1 0) 0x37 m.1 i ∷ a.0 i ∷ a.1 i ∷ b.0 i ∷ b.1 i ∷ c.0 i ∷ c.1 i ∷ [])
