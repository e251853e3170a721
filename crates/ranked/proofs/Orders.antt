-- One record more or less leaves the relations between the others, and so their rank order.
use Rattle.std.proofs.Common.{◌≡◌, ℕ, ◌+◌, ◌-◌, ◌<◌, ◌≤◌, Bool, true, false, ◌⊎◌, List, ◌∷◌, length, get_or, ap, ◌∙◌, inl, inr, ⊎_elim, add-one, arith}
use Rattle.std.specs.List.{insert, AllByRecursion}
use Rattle.std.proofs.lemmas.List.Edits.{length-insert, get_or-insert_below, get_or-insert_at, get_or-insert_above}
use Rattle.std.proofs.ByRecursion.{All-get_or, All-from_get_or}
use Rattle.std.proofs.lemmas.Bool.{cases_lt, cases_order, cases_Bool}
use Rattle.std.proofs.lemmas.List.Kept.{AllPairs-cons}
use Rattle.ranked.specs.Ranks.{Pairwise, Ranked, Place, NoneAlike}

module _ {R : Type 0} (P : R → R → Type 0) (xs : List R) (place : ℕ) where
  -- with one record more: what stands at place k is the new record, or stood at place j
  stands : (x : R) → place ≤ length xs → (k : ℕ) (d : R) → k < length (insert xs place x) → ((k ≡ place) × (get_or (insert xs place x) k d ≡ x)) ⊎ ((j : ℕ) × (get_or (insert xs place x) k d ≡ get_or xs j d) × (j < length xs) × (((k < place) × (j ≡ k)) ⊎ ((place ≤ j) × (k ≡ j + 1))))
  stands x fits k d h =
      let n = length-insert xs place x fits in
      ⊎_elim
      (λ (e : k ≡ place). inl (e, rw e (get_or-insert_at xs place x d fits)))
      (⊎_elim
      (λ (l : k < place). inr (k, get_or-insert_below xs place x d k l fits, omega arith, inl (l, omega arith)))
      (λ (l : place < k). let e : k ≡ k - 1 + 1 = omega arith in
      inr (k - 1, ap (λ n. get_or (insert xs place x) n d) e ∙ get_or-insert_above xs place x d (k - 1) (omega arith) fits, omega arith, inr (omega arith, e))))
      (cases_order k place)

  pub pairwise_inserted : (x : R) → place ≤ length xs → Pairwise P xs → ((k : ℕ) (d : R) → k < place → P (get_or xs k d) x) → ((k : ℕ) (d : R) → place ≤ k → k < length xs → P x (get_or xs k d)) → Pairwise P (insert xs place x)
  pairwise_inserted x fits all front behind = λ i j d below within.
      ⊎_elim
      (λ a. ⊎_elim
      (λ b. absurd (omega arith))
      (λ b. let low : place ≤ b.0 = grind arith in rw (a.1, b.1) (behind b.0 d low b.2))
      (stands x fits j d within))
      (λ a. ⊎_elim
      (λ b. let low : a.0 < place = grind arith in rw (a.1, b.1) (front a.0 d low))
      (λ b. let less : a.0 < b.0 = grind arith in rw (a.1, b.1) (all a.0 b.0 d less b.2))
      (stands x fits j d within))
      (stands x fits i d (omega arith))

-- a record that has no other of its rank goes where its place is
module _ {R : Type 0} (before : R → R → Bool) (alike : R → R → Type 0)
    (total : (x y : R) → before x y ≡ false → before y x ≡ false → alike x y)
    (transitive : (x y z : R) → before x y ≡ true → before y z ≡ true → before x z ≡ true) where
  first : (x y : R) → (alike y x → ⊥) → before y x ≡ false → before x y ≡ true
  first x y apart after = ⊎_elim (λ e. e) (λ e. absurd (apart (total y x after e))) (cases_Bool (before x y))

  pub ranked_inserted : (xs : List R) (x : R) (place : ℕ) → Ranked before xs → NoneAlike alike xs x → Place before xs x place → Ranked before (insert xs place x)
  ranked_inserted xs x place ranked none (fits, front, there) =
      pairwise_inserted (λ y z. before y z ≡ true) xs place x fits ranked front
      (λ k d low within.
      let here : before x (get_or xs place d) ≡ true = first x (get_or xs place d) (none place d (omega arith)) (there d (omega arith)) in
      ⊎_elim
      (λ (l : place < k). transitive x (get_or xs place d) (get_or xs k d) here (ranked place k d l within))
      (λ (l : k ≤ place). let e : k ≡ place = omega arith in rw e here)
      (cases_lt place k))

-- the relation, over a list with one record more in front
module _ {R : Type 0} (P : R → R → Type 0) (x : R) (xs : List R) where
  pub pairwise_head : Pairwise P (x ∷ xs) → AllByRecursion (P x) xs
  pairwise_head all = All-from_get_or (P x) xs x (λ i within. rw add-one at (all 0 (i + 1) x (omega arith) (omega arith)))

  pub pairwise_tail : Pairwise P (x ∷ xs) → Pairwise P xs
  pairwise_tail all = λ i j d below within. rw (add-one, add-one) at (all (i + 1) (j + 1) d (omega arith) (omega arith))

  pub pairwise_cons : AllByRecursion (P x) xs → Pairwise P xs → Pairwise P (x ∷ xs)
  pairwise_cons first rest = AllPairs-cons P x xs (λ i d within. All-get_or (P x) xs i d within first) rest
