-- What copying a part of a slice one place up or down makes of it, as one record more or less.
use Rattle.std.proofs.Common.{◌≡◌, ℕ, ◌+◌, ◌-◌, ◌<◌, ◌≤◌, List, ◌++◌, length, take, drop, set, arith, rules}
use lib.Seq.{paste}
use Rattle.std.specs.List.{insert, remove}
use Rattle.std.proofs.lemmas.List.{same_lists, places, get_or-set_same}
use Rattle.std.proofs.lemmas.Bool.{cases_eq}

module _ {R : Type 0} (xs : List R) (count place : ℕ) where
  -- the records from `place` on were copied one place up, and the gap was filled
  pub opened : (x : R) → place ≤ count → count < length xs → set (paste xs (place + 1) (drop place xs) (count - place)) place x ≡ insert (take count xs) place x ++ drop (count + 1) xs
  opened x le lt = same_lists _ _ (search (rules, places)) (λ k d h. grind (arith, places, get_or-set_same, cases_eq k place))

  -- the records behind `place` were copied one place down
  pub closed : place < count → count ≤ length xs → paste xs place (drop (place + 1) xs) (count - (place + 1)) ≡ remove (take count xs) place ++ drop (count - 1) xs
  closed lt le = same_lists _ _ (search (rules, places)) (λ k d h. grind (arith, places))
