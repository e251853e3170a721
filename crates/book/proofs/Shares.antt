-- What orders that are filled in rank order get.
use Rattle.std.proofs.Common.{◌≡◌, ℕ, zero, suc, ◌+◌, ◌-◌, ◌<◌, ◌≤◌, min, ltb, List, [], ◌∷◌, ◌++◌, length, get_or, take, sum, refl, ap, ◌∙◌, ⊎_elim, arith}
use Rattle.std.proofs.lemmas.List.Sums.{sum_by-cons}
use Rattle.std.proofs.lemmas.List.{take_at}
use Rattle.std.proofs.lemmas.Bool.{cases_lt, cond_both, ltb-false}
use Rattle.book.specs.declared.order.Order.{Order}
use Rattle.book.specs.Lists.{FilledByRank, OnlyFills, filled, remaining, resting}
use Rattle.book.specs.Orders.{lessened}
use Rattle.book.proofs.Filling.{length-filled}

pub resting-cons : (x : Order) (xs : List Order) → resting (x ∷ xs) ≡ x.quantity + resting xs
resting-cons x xs = sum_by-cons (λ y. y.quantity) x xs

pub sum-cons : (f : ℕ) (fs : List ℕ) → sum (f ∷ fs) ≡ f + sum fs
sum-cons f fs = sum_by-cons (λ n. n) f fs

pub sum-filled : (volume : ℕ) (xs : List Order) → sum (filled volume xs) ≡ min volume (resting xs)
sum-filled volume [] = omega arith
sum-filled volume (x ∷ xs) = omega (arith, sum-cons (min volume x.quantity) (filled (volume - x.quantity) xs), sum-filled (volume - x.quantity) xs, resting-cons x xs)

filled_none : (xs : List Order) (k : ℕ) → get_or (filled 0 xs) k 0 ≡ 0
filled_none [] k = refl
filled_none (x ∷ xs) zero = omega arith
filled_none (x ∷ xs) (suc k) = ap (λ v. get_or (filled v xs) k 0) (omega arith) ∙ filled_none xs k

filled_within : (volume : ℕ) (xs : List Order) (k : ℕ) (d : Order) → k < length xs → get_or (filled volume xs) k 0 ≤ (get_or xs k d).quantity
filled_within volume [] k d lt = absurd (omega arith)
filled_within volume (x ∷ xs) zero d lt = omega arith
filled_within volume (x ∷ xs) (suc k) d lt = filled_within (volume - x.quantity) xs k d (omega arith)

filled_ranked : (volume : ℕ) (xs : List Order) (i j : ℕ) (d : Order) → i < j → j < length xs → 0 < get_or (filled volume xs) j 0 → get_or (filled volume xs) i 0 ≡ (get_or xs i d).quantity
filled_ranked volume [] i j d below lt some = absurd (omega arith)
filled_ranked volume (x ∷ xs) i zero d below lt some = absurd (omega arith)
filled_ranked volume (x ∷ xs) zero (suc j) d below lt some =
    ⊎_elim
    (λ (l : x.quantity < volume). omega arith)
    (λ (l : volume ≤ x.quantity). let none : volume - x.quantity ≡ 0 = omega arith in absurd (omega (arith, ap (λ v. get_or (filled v xs) j 0) none ∙ filled_none xs j)))
    (cases_lt x.quantity volume)
filled_ranked volume (x ∷ xs) (suc i) (suc j) d below lt some = filled_ranked (volume - x.quantity) xs i j d (omega arith) (omega arith) some

pub filled_by_rank : (volume : ℕ) (xs : List Order) → FilledByRank volume xs (filled volume xs)
filled_by_rank volume xs =
    record { long = length-filled volume xs; within = filled_within volume xs; whole = sum-filled volume xs; ranked = filled_ranked volume xs }

-- a sum above 0 has a number above 0
some_positive : (fs : List ℕ) → 0 < sum fs → (k : ℕ) × (k < length fs) × (0 < get_or fs k 0)
some_positive [] some = absurd (omega arith)
some_positive (zero ∷ fs) some =
    let later = some_positive fs (omega (arith, sum-cons 0 fs)) in
    (suc later.0, omega arith, later.2)
some_positive (suc f ∷ fs) some = (0, omega arith, omega arith)

-- the first order's fill, by what is true of fills in rank order
first_fill : (volume : ℕ) (x : Order) (xs : List Order) (f : ℕ) (fs : List ℕ) → FilledByRank volume (x ∷ xs) (f ∷ fs) → f ≡ min volume x.quantity
first_fill volume x xs f fs by_rank =
    let total = sum-cons f fs in
    let all = resting-cons x xs in
    let own = by_rank.within 0 x (omega arith) in
    ⊎_elim
    (λ (some : 0 < sum fs).
    let at = some_positive fs some in
    let whole = by_rank.ranked 0 (suc at.0) x (omega arith) (omega (arith, by_rank.long)) at.2 in
    omega (arith, by_rank.whole))
    (λ (none : sum fs ≤ 0). omega (arith, by_rank.whole))
    (cases_lt 0 (sum fs))

pub only_filled : (volume : ℕ) (xs : List Order) (fs : List ℕ) → FilledByRank volume xs fs → fs ≡ filled volume xs
only_filled volume [] [] by_rank = refl
only_filled volume [] (f ∷ fs) by_rank = absurd (omega (arith, by_rank.long))
only_filled volume (x ∷ xs) [] by_rank = absurd (omega (arith, by_rank.long))
only_filled volume (x ∷ xs) (f ∷ fs) by_rank =
    let here = first_fill volume x xs f fs by_rank in
    let total = sum-cons f fs in
    let all = resting-cons x xs in
    let rest : FilledByRank (volume - x.quantity) xs fs = record {
      long = omega (arith, by_rank.long);
      within = λ k d lt. by_rank.within (suc k) d (omega arith);
      whole = omega (arith, by_rank.whole);
      ranked = λ i j d below lt some. by_rank.ranked (suc i) (suc j) d (omega arith) (omega arith) some;
    } in
    ap (λ g. g ∷ fs) here ∙ ap (λ l. min volume x.quantity ∷ l) (only_filled (volume - x.quantity) xs fs rest)

-- what rests after each order got its fill, and what they got, is what rested before
pub resting-remaining : (xs : List Order) (fs : List ℕ) → length fs ≡ length xs → ((k : ℕ) (d : Order) → k < length xs → get_or fs k 0 ≤ (get_or xs k d).quantity) → resting (remaining xs fs) + sum fs ≡ resting xs
resting-remaining [] [] long within = refl
resting-remaining [] (f ∷ fs) long within = absurd (omega arith)
resting-remaining (x ∷ xs) [] long within = absurd (omega arith)
resting-remaining (x ∷ xs) (f ∷ fs) long within =
    let rest = resting-remaining xs fs (omega arith) (λ k d lt. within (suc k) d (omega arith)) in
    let own = within 0 x (omega arith) in
    let all = resting-cons x xs in
    let total = sum-cons f fs in
    cond_both (ltb f x.quantity) (lessened x f ∷ remaining xs fs) (remaining xs fs) (λ l. resting l + sum (f ∷ fs) ≡ resting (x ∷ xs))
    (λ e. omega (arith, resting-cons (lessened x f) (remaining xs fs)))
    (λ e. omega (arith, ltb-false f x.quantity e))

pub resting-filled : (volume : ℕ) (xs : List Order) → resting (remaining xs (filled volume xs)) + min volume (resting xs) ≡ resting xs
resting-filled volume xs = omega (arith, resting-remaining xs (filled volume xs) (length-filled volume xs) (filled_within volume xs), sum-filled volume xs)

-- the fills at the front of an array
pub fills_in_front : (volume : ℕ) (xs : List Order) (gs fs : List ℕ) → fs ≡ filled volume xs ++ gs → OnlyFills volume xs (take (length xs) fs)
fills_in_front volume xs gs fs e =
    let front : take (length xs) fs ≡ filled volume xs = ap (take (length xs)) e ∙ take_at (filled volume xs) gs (length xs) (length-filled volume xs) in
    rw front (filled_by_rank volume xs, only_filled volume xs)
