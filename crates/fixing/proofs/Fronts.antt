-- Fronts of the two sides: the orders of a ranked side that count stand first.
use Rattle.std.proofs.Common.{◌≡◌, ℕ, ◌+◌, ◌-◌, ◌<◌, ◌≤◌, Bool, true, false, ltb, List, length, get_or, take, drop, reverse, length-drop, sym, ap, ◌∙◌, ⊎_elim, arith}
use Rattle.std.proofs.lemmas.List.{get_or-drop, get_or-reverse, get_or-take, length-reverse, length-take-le}
use Rattle.std.proofs.lemmas.List.Sums.{sum_by_more, sum_by-take-le}
use Rattle.std.proofs.lemmas.Bool.{cases_lt, or_cases, and_parts, ltb-true, eqb-true, le-leb, lt-leb, leb-true, leb-false}
use Rattle.ranked.specs.Ranks.{Ranked}
use Rattle.book.specs.declared.order.Order.{Order}
use Rattle.book.specs.Lists.{resting}
use Rattle.book.specs.Orders.{buys_before, no_order, sells_before}
use Rattle.fixing.specs.declared.walk.Front.{Front}
use Rattle.fixing.specs.Volumes.{buy_counts, sell_counts}
use Rattle.fixing.specs.Walks.{Counts}
use Rattle.fixing.proofs.Counting.{counted_front}

-- an order that ranks before another has no worse a price
pub sell_price : (x y : Order) → sells_before x y ≡ true → x.price ≤ y.price
sell_price x y first =
    ⊎_elim
    (λ e. omega (arith, ltb-true x.price y.price e))
    (λ e. omega (arith, eqb-true x.price y.price (and_parts _ _ e).0))
    (or_cases (ltb x.price y.price) _ first)

pub buy_price : (x y : Order) → buys_before x y ≡ true → y.price ≤ x.price
buy_price x y first =
    ⊎_elim
    (λ e. omega (arith, ltb-true y.price x.price e))
    (λ e. omega (arith, eqb-true x.price y.price (and_parts _ _ e).0))
    (or_cases (ltb y.price x.price) _ first)

pub sells_rise : (xs : List Order) → Ranked sells_before xs → (i j : ℕ) (d : Order) → i ≤ j → j < length xs → (get_or xs i d).price ≤ (get_or xs j d).price
sells_rise xs ranked i j d le lt =
    ⊎_elim
    (λ (l : i < j). sell_price (get_or xs i d) (get_or xs j d) (ranked i j d l lt))
    (λ (l : j ≤ i). let e : i ≡ j = omega arith in rw e (omega arith))
    (cases_lt i j)

pub buys_fall : (xs : List Order) → Ranked buys_before xs → (i j : ℕ) (d : Order) → i ≤ j → j < length xs → (get_or xs j d).price ≤ (get_or xs i d).price
buys_fall xs ranked i j d le lt =
    ⊎_elim
    (λ (l : i < j). buy_price (get_or xs i d) (get_or xs j d) (ranked i j d l lt))
    (λ (l : j ≤ i). let e : i ≡ j = omega arith in rw e (omega arith))
    (cases_lt i j)

-- what rests in a front, one order longer
pub resting_more : (xs : List Order) (n : ℕ) (d : Order) → n < length xs → resting (take (n + 1) xs) ≡ resting (take n xs) + (get_or xs n d).quantity
resting_more xs n d lt = sum_by_more (λ x. x.quantity) xs n d lt

pub resting_front : (xs : List Order) (n : ℕ) → resting (take n xs) ≤ resting xs
resting_front xs n = sum_by-take-le (λ x. x.quantity) xs n

-- a front, by what rests there
pub front_quantity : (counts : Order → Bool) (xs : List Order) (front : Front) → Counts counts xs front → front.quantity ≡ resting (take front.orders xs)
front_quantity counts xs front of = of.quantity ∙ counted_front counts xs front.orders of.fits of.inside of.behind

pub make_front : (counts : Order → Bool) (xs : List Order) (front : Front) → front.orders ≤ length xs → front.quantity ≡ resting (take front.orders xs) → ((k : ℕ) (d : Order) → k < front.orders → counts (get_or xs k d) ≡ true) → ((k : ℕ) (d : Order) → front.orders ≤ k → k < length xs → counts (get_or xs k d) ≡ false) → Counts counts xs front
make_front counts xs front fits quantity inside behind =
    record { fits = fits; inside = inside; behind = behind; quantity = quantity ∙ sym (counted_front counts xs front.orders fits inside behind) }

-- the front so far, while it grows along the sell side up to a price
abbrev pub UpTo : List Order → ℕ → ℕ → ℕ → Type 0
UpTo xs price n quantity =
    (n ≤ length xs) × (quantity ≡ resting (take n xs)) × ((k : ℕ) (d : Order) → k < n → sell_counts price (get_or xs k d) ≡ true)

pub up_start : (xs : List Order) (price below : ℕ) (front : Front) → below ≤ price → Counts (sell_counts below) xs front → UpTo xs price front.orders front.quantity
up_start xs price below front le of =
    (of.fits, front_quantity (sell_counts below) xs front of, λ k d lt. le-leb (get_or xs k d).price price (omega (arith, leb-true (get_or xs k d).price below (of.inside k d lt))))

-- one order more: `i` of those behind the first `n₀` were added before
pub up_more : (xs : List Order) (price n₀ i n quantity : ℕ) (x : Order) → UpTo xs price n quantity → n ≡ n₀ + i → (i < length (drop n₀ xs)) × ((d : Order) → get_or (drop n₀ xs) i d ≡ x) × (sell_counts price x ≡ true) → (n < length xs) × UpTo xs price (n + 1) (quantity + x.quantity)
up_more xs price n₀ i n quantity x (fits, sum, inside) at (lt, is, here) =
    let low : n < length xs = omega (arith, length-drop n₀ xs) in
    let there : (d : Order) → get_or xs n d ≡ x = λ d. ap (λ k. get_or xs k d) at ∙ sym (get_or-drop n₀ xs i d) ∙ is d in (
      low,
      (
        omega arith,
        omega (arith, resting_more xs n no_order low, ap (λ (o : Order). o.quantity) (there no_order)),
        λ k e below.
            ⊎_elim
            (λ (l : k < n). inside k e l)
            (λ (l : n ≤ k). let same : k ≡ n = omega arith in rw (same, there e) here)
            (cases_lt k n),
      ),
    )

pub up_end : (xs : List Order) (price n₀ i : ℕ) (front : Front) → Ranked sells_before xs → UpTo xs price front.orders front.quantity → front.orders ≡ n₀ + i → ((d : Order) → i < length (drop n₀ xs) → sell_counts price (get_or (drop n₀ xs) i d) ≡ false) → Counts (sell_counts price) xs front
up_end xs price n₀ i front ranked (fits, sum, inside) at stop =
    make_front (sell_counts price) xs front fits sum inside (λ k e low lt.
    let here : sell_counts price (get_or xs front.orders e) ≡ false = ap (λ m. sell_counts price (get_or xs m e)) at ∙ ap (sell_counts price) (sym (get_or-drop n₀ xs i e)) ∙ stop e (omega (arith, length-drop n₀ xs)) in
    lt-leb (get_or xs k e).price price (omega (arith, leb-false (get_or xs front.orders e).price price here, sells_rise xs ranked front.orders k e low lt)))

-- the front so far, while it shrinks along the buy side down to what is above a price
abbrev pub Above : List Order → ℕ → ℕ → ℕ → Type 0
Above xs price n quantity =
    (n ≤ length xs) × (quantity ≡ resting (take n xs)) × ((k : ℕ) (d : Order) → n ≤ k → k < length xs → buy_counts (price + 1) (get_or xs k d) ≡ false)

pub above_start : (xs : List Order) (price : ℕ) (front : Front) → Counts (buy_counts price) xs front → Above xs price front.orders front.quantity
above_start xs price front of =
    (of.fits, front_quantity (buy_counts price) xs front of, λ k d low lt. lt-leb (price + 1) (get_or xs k d).price (omega (arith, leb-false price (get_or xs k d).price (of.behind k d low lt))))

-- what stands at a place of the first n orders, from behind
from_behind : (xs : List Order) (n i : ℕ) (d : Order) → n ≤ length xs → i < n → get_or (reverse (take n xs)) i d ≡ get_or xs (n - 1 - i) d
from_behind xs n i d fits low =
    let long : length (take n xs) ≡ n = length-take-le n xs fits in
    get_or-reverse (take n xs) i d (omega arith) ∙ ap (λ m. get_or (take n xs) (m - 1 - i) d) long ∙ get_or-take n xs (n - 1 - i) d (omega arith)

-- one order less: `i` of the first `n₀`, from behind, were taken off before
pub above_less : (xs : List Order) (price n₀ i n quantity : ℕ) (x : Order) → Above xs price n quantity → n₀ ≤ length xs → n + i ≡ n₀ → (i < length (reverse (take n₀ xs))) × ((d : Order) → get_or (reverse (take n₀ xs)) i d ≡ x) × (sell_counts price x ≡ true) → (0 < n) × (x.quantity ≤ quantity) × Above xs price (n - 1) (quantity - x.quantity)
above_less xs price n₀ i n quantity x (fits, sum, behind) fits₀ at (lt, is, here) =
    let low : i < n₀ = omega (arith, length-reverse (take n₀ xs), length-take-le n₀ xs fits₀) in
    let place : n₀ - 1 - i ≡ n - 1 = omega arith in
    let there : (d : Order) → get_or xs (n - 1) d ≡ x = λ d. ap (λ m. get_or xs m d) (sym place) ∙ sym (from_behind xs n₀ i d fits₀ low) ∙ is d in
    let e : n - 1 + 1 ≡ n = omega arith in
    let own = ap (λ (o : Order). o.quantity) (there no_order) in
    let more = ap (λ m. resting (take m xs)) (sym e) ∙ resting_more xs (n - 1) no_order (omega arith) in (
      omega arith,
      omega arith,
      (
        omega arith,
        omega arith,
        λ k f above lt'.
            ⊎_elim
            (λ (l : n - 1 < k). behind k f (omega arith) lt')
            (λ (l : k ≤ n - 1). let same : k ≡ n - 1 = omega arith in rw (same, there f) (lt-leb (price + 1) x.price (omega (arith, leb-true x.price price here))))
            (cases_lt (n - 1) k),
      ),
    )

pub above_end : (xs : List Order) (price n₀ i : ℕ) (front : Front) → Ranked buys_before xs → Above xs price front.orders front.quantity → n₀ ≤ length xs → front.orders + i ≡ n₀ → ((d : Order) → i < length (reverse (take n₀ xs)) → sell_counts price (get_or (reverse (take n₀ xs)) i d) ≡ false) → Counts (buy_counts (price + 1)) xs front
above_end xs price n₀ i front ranked (fits, sum, behind) fits₀ at stop =
    make_front (buy_counts (price + 1)) xs front fits sum
    (λ k e low.
    let last : i < n₀ = omega arith in
    let place : n₀ - 1 - i ≡ front.orders - 1 = omega arith in
    let here : sell_counts price (get_or xs (front.orders - 1) e) ≡ false = ap (λ m. sell_counts price (get_or xs m e)) (sym place) ∙ ap (sell_counts price) (sym (from_behind xs n₀ i e fits₀ last)) ∙ stop e (omega (arith, length-reverse (take n₀ xs), length-take-le n₀ xs fits₀)) in
    le-leb (price + 1) (get_or xs k e).price (omega (arith, leb-false (get_or xs (front.orders - 1) e).price price here, buys_fall xs ranked k (front.orders - 1) e (omega arith) (omega arith))))
    behind
