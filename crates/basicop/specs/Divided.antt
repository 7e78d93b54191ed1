-- A value with the quotients that were taken on the way to it, in order: how a definition that divides carries them on. What a divisor lies in.
use Rattle.std.specs.Prelude.{List, [], ◌∷◌, ◌++◌, ℕ, ℤ, pos, ◌≤ℤ◌}
use Rattle.basicop.specs.Ops.{Quotient, div_s}

pub record Divided (A : Type 0) : Type 0 where
  pub value : A
  pub quotients : List Quotient

-- no division
abbrev pub undivided : {A : Type 0} → A → Divided A
undivided a = record { value = a; quotients = [] }

-- div_s n d
abbrev pub divided : ℤ → ℤ → Divided ℤ
divided n d = record { value = (div_s n d).value; quotients = div_s n d ∷ [] }

-- first m, then f of its value
abbrev pub after : {A B : Type 0} → Divided A → (A → Divided B) → Divided B
after m f =
    let r = f m.value in
    record { value = r.value; quotients = m.quotients ++ r.quotients }

-- the divisor lies in n..=32767
pub record Divides (n : ℕ) (q : Quotient) : Type 0 where
  pub from : pos n ≤ℤ q.divisor
  pub to : q.divisor ≤ℤ pos 32767
