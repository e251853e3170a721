-- The quantity of the orders that count.
use Rattle.std.proofs.Common.{◌≡◌, ℕ, zero, suc, ◌+◌, ◌<◌, ◌≤◌, Bool, true, false, cond, List, [], ◌∷◌, length, get_or, take, sum, sym, refl, ap, ◌∙◌, inl, ⊎_elim, zero-le, arith}
use Rattle.std.proofs.lemmas.List.Sums.{sum_by-cons, sum_by-le-sum_by}
use Rattle.std.proofs.lemmas.Bool.{false≢true, cases_Bool, cases_lt, cond-true, cond-false, le-leb, leb-true, leb-false, lt-leb}
use Rattle.book.specs.declared.order.Order.{Order}
use Rattle.book.specs.Lists.{resting}
use Rattle.book.proofs.Shares.{resting-cons, sum-cons}
use Rattle.fixing.specs.Prices.{Offered, Candidate}
use Rattle.fixing.specs.Volumes.{FillsOf, TradesTheMost, buy_counts, counted, demand, sell_counts, supply, volume}

-- what one order counts
one_le : (b : Bool) (n : ℕ) → cond b n 0 ≤ n
one_le true n = omega arith
one_le false n = omega arith

one_le_one : (b c : Bool) (n : ℕ) → (b ≡ true → c ≡ true) → cond b n 0 ≤ cond c n 0
one_le_one true true n implies = omega arith
one_le_one true false n implies = absurd (false≢true (implies refl))
one_le_one false c n implies = zero-le

module _ (counts : Order → Bool) where
  pub counted_yes : (x : Order) (xs : List Order) → counts x ≡ true → counted counts (x ∷ xs) ≡ x.quantity + counted counts xs
  counted_yes x xs yes' = sum_by-cons (λ y. cond (counts y) y.quantity 0) x xs ∙ ap (λ n. n + counted counts xs) (cond-true (counts x) x.quantity 0 yes')

  pub counted_no : (x : Order) (xs : List Order) → counts x ≡ false → counted counts (x ∷ xs) ≡ counted counts xs
  counted_no x xs no' = sum_by-cons (λ y. cond (counts y) y.quantity 0) x xs ∙ ap (λ n. n + counted counts xs) (cond-false (counts x) x.quantity 0 no') ∙ omega arith

  -- where just the first n orders count, their quantity is what rests there
  pub counted_front : (xs : List Order) (n : ℕ) → n ≤ length xs → ((k : ℕ) (d : Order) → k < n → counts (get_or xs k d) ≡ true) → ((k : ℕ) (d : Order) → n ≤ k → k < length xs → counts (get_or xs k d) ≡ false) → counted counts xs ≡ resting (take n xs)
  counted_front [] zero fits inside behind = refl
  counted_front [] (suc n) fits inside behind = absurd (omega arith)
  counted_front (x ∷ xs) zero fits inside behind =
      counted_no x xs (behind 0 x (omega arith) (omega arith)) ∙ counted_front xs 0 (omega arith) (λ k d lt. absurd (omega arith)) (λ k d le lt. behind (suc k) d (omega arith) (omega arith))
  counted_front (x ∷ xs) (suc n) fits inside behind =
      counted_yes x xs (inside 0 x (omega arith)) ∙ ap (λ m. x.quantity + m) (counted_front xs n (omega arith) (λ k d lt. inside (suc k) d (omega arith)) (λ k d le lt. behind (suc k) d (omega arith) (omega arith))) ∙ sym (resting-cons x (take n xs))

  pub counted_le_resting : (xs : List Order) → counted counts xs ≤ resting xs
  counted_le_resting xs = sum_by-le-sum_by (λ x. cond (counts x) x.quantity 0) (λ x. x.quantity) xs (λ x. one_le (counts x) x.quantity)

  -- fills give no more than what counts
  pub fills_counted : (xs : List Order) (fs : List ℕ) → FillsOf counts xs fs → sum fs ≤ counted counts xs
  fills_counted [] [] fills = omega arith
  fills_counted [] (f ∷ fs) fills = absurd (omega (arith, fills.long))
  fills_counted (x ∷ xs) [] fills = absurd (omega (arith, fills.long))
  fills_counted (x ∷ xs) (f ∷ fs) fills =
      let rest = fills_counted xs fs (record {
        long = omega (arith, fills.long);
        within = λ k d lt. fills.within (suc k) d (omega arith);
        none = λ k d lt e. fills.none (suc k) d (omega arith) e;
      }) in
      let total = sum-cons f fs in
      ⊎_elim
      (λ e. omega (arith, counted_yes x xs e, fills.within 0 x (omega arith)))
      (λ e. omega (arith, counted_no x xs e, fills.none 0 x (omega arith) e))
      (cases_Bool (counts x))

-- if one order counting means that it counts otherwise too, then no less counts otherwise
pub counted_more : (counts also : Order → Bool) → ((x : Order) → counts x ≡ true → also x ≡ true) → (xs : List Order) → counted counts xs ≤ counted also xs
counted_more counts also implies xs =
    sum_by-le-sum_by (λ x. cond (counts x) x.quantity 0) (λ x. cond (also x) x.quantity 0) xs (λ x. one_le_one (counts x) (also x) x.quantity (implies x))

-- demand falls and supply rises with the price
pub demand_falls : (p q : ℕ) → p ≤ q → (xs : List Order) → demand q xs ≤ demand p xs
demand_falls p q le xs = counted_more (buy_counts q) (buy_counts p) (λ x e. le-leb p x.price (omega (arith, leb-true q x.price e))) xs

pub supply_rises : (p q : ℕ) → p ≤ q → (xs : List Order) → supply p xs ≤ supply q xs
supply_rises p q le xs = counted_more (sell_counts p) (sell_counts q) (λ x e. le-leb x.price q (omega (arith, leb-true x.price p e))) xs

offered_here : (x : Order) (xs : List Order) → Offered (x ∷ xs) x.price
offered_here x xs = (0, omega arith, λ d. refl)

offered_later : (x : Order) (xs : List Order) (q : ℕ) → Offered xs q → Offered (x ∷ xs) q
offered_later x xs q (k, lt, is) = (suc k, omega arith, is)

-- the next price of a buy order has the same demand
pub next_buy : (p : ℕ) (xs : List Order) → 0 < demand p xs → (q : ℕ) × Offered xs q × (p ≤ q) × (demand q xs ≡ demand p xs)
next_buy p [] some = absurd (omega arith)
next_buy p (x ∷ xs) some =
    ⊎_elim
    (λ (counts : buy_counts p x ≡ true).
    let le : p ≤ x.price = leb-true p x.price counts in
    let all = counted_yes (buy_counts p) x xs counts in
    let own = counted_yes (buy_counts x.price) x xs (le-leb x.price x.price (omega arith)) in
    let fewer = demand_falls p x.price le xs in
    ⊎_elim
    (λ (more : 0 < demand p xs).
    let (q, offered, low, same) = next_buy p xs more in
    ⊎_elim
    (λ (l : q < x.price). (q, offered_later x xs q offered, low, omega (arith, counted_yes (buy_counts q) x xs (le-leb q x.price (omega arith)))))
    (λ (l : x.price ≤ q). (x.price, offered_here x xs, le, omega (arith, demand_falls x.price q l xs)))
    (cases_lt q x.price))
    (λ (none : demand p xs ≤ 0). (x.price, offered_here x xs, le, omega arith))
    (cases_lt 0 (demand p xs)))
    (λ (not_counts : buy_counts p x ≡ false).
    let all = counted_no (buy_counts p) x xs not_counts in
    let (q, offered, low, same) = next_buy p xs (omega arith) in
    (q, offered_later x xs q offered, low, omega (arith, counted_no (buy_counts q) x xs (lt-leb q x.price (omega (arith, leb-false p x.price not_counts))))))
    (cases_Bool (buy_counts p x))

-- what could trade at any price could trade at a candidate
pub some_candidate : (buys sells : List Order) (p : ℕ) → 0 < volume buys sells p → (q : ℕ) × Candidate buys sells q × (volume buys sells p ≤ volume buys sells q)
some_candidate buys sells p some =
    let (q, offered, low, same) = next_buy p buys (omega arith) in
    (q, inl offered, omega (arith, supply_rises p q low sells))

-- so what trades the most at the candidates trades the most
pub most_at_candidates : (buys sells : List Order) (most : ℕ) → ((q : ℕ) → Candidate buys sells q → volume buys sells q ≤ most) → (p : ℕ) → volume buys sells p ≤ most
most_at_candidates buys sells most at p =
    ⊎_elim
    (λ (some : 0 < volume buys sells p). let (q, candidate, le) = some_candidate buys sells p some in omega (arith, at q candidate))
    (λ (none : volume buys sells p ≤ 0). omega arith)
    (cases_lt 0 (volume buys sells p))

pub trades_the_most : (buys sells : List Order) (most : ℕ) → ((q : ℕ) → Candidate buys sells q → volume buys sells q ≤ most) → TradesTheMost buys sells most
trades_the_most buys sells most at price bought sold quantity fills =
    omega (arith, most_at_candidates buys sells most at price, fills_counted (buy_counts price) buys bought fills.buyers, fills_counted (sell_counts price) sells sold fills.sellers, fills.bought_all, fills.sold_all)
