-- The frame sheet with eight gains in place of an index sheet's indices: what stays where it is, what moves, and its lags.
use Rattle.std.proofs.Common.{ℕ, ◌+◌, ◌*◌, ◌≤◌, ◌<◌, ◌≡◌, sym, ap, ap₂, ◌∙◌, List, ◌++◌, arith, lit≤, ℤ, length, take, drop, length-append, length-drop, length-take-le, drop-drop}
use lib.Seq.{drop-append-add}
use Rattle.std.proofs.lemmas.List.{take-append-drop, take-append-le, drop-append-le, take_at, drop_at}
use Rattle.lists.specs.Lists.{at}
use Rattle.lists.proofs.Entries.{stretch_at}
use Rattle.pitch.specs.Lag.{Lag}
use Rattle.kinds.specs.Sheet.{lsfs_of, pitch_indices_of, gains_of, lags_of, lag_pair, innovation_at}
use Rattle.mr74.specs.Indexed.{with_gains}

module _ (gains sheet : List ℤ) (count : length sheet ≡ 178) (eight : length gains ≡ 8) where
  front : length (take 14 sheet) ≡ 14
  front = length-take-le 14 sheet (omega (arith, count))

  pub count_with : length (with_gains gains sheet) ≡ 182
  count_with =
      length-append (take 14 sheet) (gains ++ drop 18 sheet)
      ∙ omega (arith, front, eight, count, length-append gains (drop 18 sheet), length-drop 18 sheet)

  -- n numbers of the first fourteen stay where they are
  module _ (from n : ℕ) (h : from + n ≤ 14) where
    of_front : (rest : List ℤ) → take n (drop from (take 14 sheet ++ rest)) ≡ take n (drop from (take 14 sheet))
    of_front rest =
        ap (take n) (drop-append-le from (take 14 sheet) rest (omega (arith, front)))
        ∙ take-append-le n (drop from (take 14 sheet)) rest (omega (arith, front, length-drop from (take 14 sheet)))

    pub front_with : take n (drop from (with_gains gains sheet)) ≡ take n (drop from sheet)
    front_with =
        of_front (gains ++ drop 18 sheet) ∙ sym (of_front (drop 14 sheet))
        ∙ ap (λ (xs : List ℤ). take n (drop from xs)) (take-append-drop 14 sheet)

  pub gains_with : gains_of (with_gains gains sheet) ≡ gains
  gains_with =
      ap (take 8) (drop_at (take 14 sheet) (gains ++ drop 18 sheet) 14 front) ∙ take_at gains (drop 18 sheet) 8 eight

  pub innovation_with : (k : ℕ) → innovation_at 22 (with_gains gains sheet) k ≡ innovation_at 18 sheet k
  innovation_with k =
      let a : 22 + 40 * k ≡ length (take 14 sheet) + (length gains + 40 * k) = omega (arith, front, eight) in
      ap (take 40)
      (ap (λ (n : ℕ). drop n (with_gains gains sheet)) a
      ∙ drop-append-add (take 14 sheet) (gains ++ drop 18 sheet) (length gains + 40 * k)
      ∙ drop-append-add gains (drop 18 sheet) (40 * k)
      ∙ drop-drop (40 * k) 18 sheet)

  pub lsfs_with : lsfs_of (with_gains gains sheet) ≡ lsfs_of sheet
  lsfs_with = front_with 0 10 (lit≤ tt)

  pub pitch_indices_with : pitch_indices_of (with_gains gains sheet) ≡ pitch_indices_of sheet
  pitch_indices_with = front_with 10 4 (lit≤ tt)

  -- its lags
  index_with : (k : ℕ) → k < 4 → at (with_gains gains sheet) (10 + k) ≡ at sheet (10 + k)
  index_with k l =
      stretch_at (with_gains gains sheet) 10 4 k l
      ∙ ap (λ (xs : List ℤ). at xs k) pitch_indices_with
      ∙ sym (stretch_at sheet 10 4 k l)

  pub lags_with : lags_of (with_gains gains sheet) ≡ lags_of sheet
  lags_with =
      ap₂ (λ (xs ys : List Lag). xs ++ ys)
      (ap₂ lag_pair (index_with 0 (lit≤ tt)) (index_with 1 (lit≤ tt)))
      (ap₂ lag_pair (index_with 2 (lit≤ tt)) (index_with 3 (lit≤ tt)))
