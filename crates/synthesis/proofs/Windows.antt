-- A sample reads no more than the ten samples before it: of a longer list the ten last give the same.
use Rattle.std.proofs.Common.{ℕ, zero, suc, ◌+◌, ◌-◌, ◌≤◌, ◌≡◌, refl, sym, ap, ◌∙◌, List, arith, ℤ, length, take, drop, length-drop, length-take-le}
use Rattle.std.proofs.lemmas.List.{drop-take}
use Rattle.lists.specs.Lists.{at}
use Rattle.lists.proofs.Entries.{at_drop}
use Rattle.synthesis.specs.Recursion.{ago}
use Rattle.synthesis.specs.Synthesis.{acc, accs, unheld, sample}

module _ (a : List ℤ) (x : ℤ) (y : List ℤ) (d : ℕ) where
  ago_newest : (k : ℕ) → d + k ≤ length y → ago (drop d y) k ≡ ago y k
  ago_newest k h =
      let e : length y - d - k + d ≡ length y - k = omega arith in
      rw (length-drop d y) (sym (at_drop y d (length y - d - k)) ∙ ap (at y) e)

  acc_newest : (k : ℕ) → d + k ≤ length y → acc a x (drop d y) k ≡ acc a x y k
  unfolding acc
  acc_newest zero h = refl
  acc_newest (suc k) h = rw (acc_newest k (omega arith), ago_newest (suc k) h)

  accs_newest : (k : ℕ) → d + k ≤ length y → accs a x (drop d y) k ≡ accs a x y k
  unfolding accs
  accs_newest zero h = refl
  accs_newest (suc k) h =
      rw (accs_newest k (omega arith), acc_newest k (omega arith), ago_newest (suc k) h)

-- the ten before sample n of a buffer
module _ (a : List ℤ) (x : ℤ) (buf : List ℤ) (n : ℕ) (h : n + 10 ≤ length buf) where
  room : n + 10 ≤ length (take (n + 10) buf)
  room = rw (length-take-le (n + 10) buf h) (omega arith)

  pub acc_window : acc a x (take 10 (drop n buf)) 10 ≡ acc a x (take (n + 10) buf) 10
  acc_window = rw (← drop-take n 10 buf) (acc_newest a x (take (n + 10) buf) n 10 room)

  pub sample_window : sample 10 a x (take 10 (drop n buf)) ≡ sample 10 a x (take (n + 10) buf)
  sample_window = rw acc_window

  pub unheld_window : unheld 10 a x (take 10 (drop n buf)) ≡ unheld 10 a x (take (n + 10) buf)
  unheld_window = rw (acc_window, ← drop-take n 10 buf) (rw (accs_newest a x (take (n + 10) buf) n 10 room))
