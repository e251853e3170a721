-- Records in rank order. `before x y` says that x comes before y. Assumes nothing.
use Rattle.std.specs.Prelude.{◌≡◌, ℕ, ◌+◌, ◌-◌, ◌<◌, ◌≤◌, Bool, true, false, List, length, take, drop, slice_index_or}
use Rattle.std.specs.List.{AllPairs, insert, remove}

-- each record has this relation to all that stand behind it
abbrev pub Pairwise : {R : Type 0} → (R → R → Type 0) → List R → Type 0
Pairwise P xs = AllPairs P xs

-- each record comes before all that stand behind it
abbrev pub Ranked : {R : Type 0} → (R → R → Bool) → List R → Type 0
Ranked before xs = Pairwise (λ x y. before x y ≡ true) xs

-- the records in front of this place come before the record, and the one there, if there is one, does not
abbrev pub Place : {R : Type 0} → (R → R → Bool) → List R → R → ℕ → Type 0
Place {R} before xs x place =
    (place ≤ length xs) × ((k : ℕ) (d : R) → k < place → before (slice_index_or xs k d) x ≡ true) × ((d : R) → place < length xs → before (slice_index_or xs place d) x ≡ false)

-- two records have the same rank: neither comes before the other
abbrev pub Alike : {R : Type 0} → (R → R → Bool) → R → R → Type 0
Alike before x y = (before x y ≡ false) × (before y x ≡ false)

-- none of the records has the rank of this one, where `alike` says which have the same
abbrev pub NoneAlike : {R : Type 0} → (R → R → Type 0) → List R → R → Type 0
NoneAlike {R} alike xs x = (k : ℕ) (d : R) → k < length xs → alike (slice_index_or xs k d) x → ⊥

-- the record was put at its place among the first `count`, which stay in their order, and in rank order if they were and
-- none has the same rank; behind them everything is as it was
pub record InsertedByRank {R : Type 0} (before : R → R → Bool) (alike : R → R → Type 0) (count : ℕ) (x : R) (xs : List R) (place : ℕ) (ys : List R) : Type 0 where
  pub room : count < length xs
  pub placed : Place before (take count xs) x place
  pub front : take (count + 1) ys ≡ insert (take count xs) place x
  pub behind : drop (count + 1) ys ≡ drop (count + 1) xs
  pub ranked : Ranked before (take count xs) → NoneAlike alike (take count xs) x → Ranked before (take (count + 1) ys)

-- the record at this place among the first `count` was taken out; the others stay in their order, and in any rank order
-- that they were in; behind them everything is as it was
pub record RemovedFrom {R : Type 0} (count : ℕ) (xs : List R) (place : ℕ) (x : R) (ys : List R) : Type 0 where
  pub within : (place < count) × (count ≤ length xs)
  pub was : (d : R) → slice_index_or xs place d ≡ x
  pub front : take (count - 1) ys ≡ remove (take count xs) place
  pub behind : drop (count - 1) ys ≡ drop (count - 1) xs
  pub ranked : (before : R → R → Bool) → Ranked before (take count xs) → Ranked before (take (count - 1) ys)
