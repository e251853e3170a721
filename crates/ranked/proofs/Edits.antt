-- What insertion and removal promise, from what copying a part of the slice makes of it.
use Rattle.std.proofs.Common.{◌≡◌, ℕ, ◌+◌, ◌-◌, ◌<◌, ◌≤◌, Bool, true, false, List, ◌++◌, length, get_or, take, drop, set, sym, ap, ◌∙◌, arith}
use lib.Seq.{paste}
use Rattle.std.specs.List.{insert, remove}
use Rattle.std.proofs.lemmas.List.{take_at, drop_at, length-take, get_or_default}
use Rattle.std.proofs.lemmas.List.Edits.{length-insert, length-remove}
use Rattle.std.proofs.lemmas.List.Quantifiers.{all_pairs_remove}
use Rattle.ranked.specs.Ranks.{Place, InsertedByRank, RemovedFrom}
use Rattle.ranked.proofs.Orders.{ranked_inserted}
use Rattle.ranked.proofs.Slots.{opened, closed}

module _ {R : Type 0} (before : R → R → Bool) (alike : R → R → Type 0)
    (total : (x y : R) → before x y ≡ false → before y x ≡ false → alike x y)
    (transitive : (x y z : R) → before x y ≡ true → before y z ≡ true → before x z ≡ true) where
  pub insertion : (xs ys : List R) (count place : ℕ) (x : R) → count < length xs → Place before (take count xs) x place → ys ≡ paste xs (place + 1) (drop place xs) (count - place) → InsertedByRank before alike count x xs place (set ys place x)
  insertion xs ys count place x room placed copied =
      let n : length (take count xs) ≡ count = length-take count xs ∙ omega arith in
      let whole : set ys place x ≡ insert (take count xs) place x ++ drop (count + 1) xs = ap (λ l. set l place x) copied ∙ opened xs count place x (omega (arith, placed.0)) room in
      let long : length (insert (take count xs) place x) ≡ count + 1 = length-insert (take count xs) place x placed.0 ∙ omega arith in
      let front : take (count + 1) (set ys place x) ≡ insert (take count xs) place x = ap (take (count + 1)) whole ∙ take_at _ _ _ long in
      record {
        room = room;
        placed = placed;
        front = front;
        behind = ap (drop (count + 1)) whole ∙ drop_at _ _ _ long;
        ranked = λ ranked none. rw front (ranked_inserted before alike total transitive (take count xs) x place ranked none placed);
      }

pub removal : {R : Type 0} (xs ys : List R) (count place : ℕ) (x : R) → place < count → count ≤ length xs → x ≡ get_or xs place x → ys ≡ paste xs place (drop (place + 1) xs) (count - (place + 1)) → RemovedFrom count xs place x ys
removal xs ys count place x low fits was copied =
    let n : length (take count xs) ≡ count = length-take count xs ∙ omega arith in
    let m = length-remove (take count xs) place (omega arith) in
    let long : length (remove (take count xs) place) ≡ count - 1 = omega arith in
    let whole = copied ∙ closed xs count place low fits in
    let front : take (count - 1) ys ≡ remove (take count xs) place = ap (take (count - 1)) whole ∙ take_at _ _ _ long in
    record {
      within = (low, fits);
      was = λ d. get_or_default xs place d x (omega arith) ∙ sym was;
      front = front;
      behind = ap (drop (count - 1)) whole ∙ drop_at _ _ _ long;
      ranked = λ before ranked. rw front (all_pairs_remove (λ y z. before y z ≡ true) (take count xs) place (omega arith) ranked);
    }
