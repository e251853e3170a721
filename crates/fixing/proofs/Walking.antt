-- The walk over the prices of both sides: each step goes to the next price, and the best offer stays the best.
use Rattle.std.proofs.Common.{◌≡◌, ℕ, ◌+◌, ◌-◌, ◌<◌, ◌≤◌, ◌⊎◌, List, length, get_or, take, Some, None, Option, sym, ap, ◌∙◌, subst, inl, inr, ⊎_elim, arith, MatchOption}
use Rattle.std.proofs.lemmas.List.{get_or_default, get_or-take, length-take-le}
use Rattle.std.proofs.lemmas.Option.{get_or_from_slice_get, slice_get-get_or, slice_get_within}
use Rattle.std.specs.List.{slice_get}
use Rattle.std.proofs.lemmas.Bool.{cases_lt, le-leb, lt-leb, leb-true, leb-false}
use Rattle.ranked.specs.Ranks.{Ranked}
use Rattle.book.specs.declared.order.Order.{Order}
use Rattle.book.specs.Orders.{buys_before, no_order, sells_before}
use Rattle.fixing.specs.declared.offer.Offer.{Offer}
use Rattle.fixing.specs.declared.walk.Front.{Front}
use Rattle.fixing.specs.Prices.{Better, Candidate}
use Rattle.fixing.specs.Volumes.{buy_counts, sell_counts}
use Rattle.fixing.specs.Walks.{Beats, BestOf, BestUpTo, Counts, IsOffer, LowestLeft}
use Rattle.fixing.proofs.Fronts.{buys_fall, front_quantity, make_front, sells_rise}
use Rattle.fixing.proofs.Preference.{beats_if_better, better_if_beats, better_self, better_trans}

-- the lowest price that is left stands at the end of one of the two parts
pub lowest_left : (buys sells : List Order) (above below price : ℕ) (d : Order) → Ranked buys_before buys → Ranked sells_before sells → above ≤ length buys → (0 < above → price ≤ (get_or buys (above - 1) d).price) → (below < length sells → price ≤ (get_or sells below d).price) → (((0 < above) × ((get_or buys (above - 1) d).price ≡ price)) ⊎ ((below < length sells) × ((get_or sells below d).price ≡ price))) → LowestLeft buys sells above below price
lowest_left buys sells above below price d ranked ranked' fits buy sell is =
    record {
      left = ⊎_elim
          (λ (some, e). inl (above - 1, omega arith, λ f. ap (λ (x : Order). x.price) (get_or_default buys (above - 1) f d (omega arith)) ∙ e))
          (λ (some, e). inr (below, omega arith, some, λ f. ap (λ (x : Order). x.price) (get_or_default sells below f d some) ∙ e))
          is;
      buyers = λ k f lt.
          let same = ap (λ (x : Order). x.price) (get_or_default buys (above - 1) f d (omega arith)) in
          omega (arith, buys_fall buys ranked k (above - 1) f (omega arith) (omega arith), buy (omega arith));
      sellers = λ k f low lt.
          let same = ap (λ (x : Order). x.price) (get_or_default sells below f d (omega arith)) in
          omega (arith, sells_rise sells ranked' below k f low lt, sell (omega arith));
    }

-- the last order of a front of a side, and that the front has none
pub last_there : (xs : List Order) (n : ℕ) (x d : Order) → n ≤ length xs → slice_get (take n xs) (length (take n xs) - 1) ≡ Some x → (0 < n) × (get_or xs (n - 1) d ≡ x)
last_there xs n x d fits e =
    let long : length (take n xs) ≡ n = length-take-le n xs fits in
    let some : 0 < n = omega (arith, slice_get_within (take n xs) (length (take n xs) - 1) x e) in
    (some, sym (get_or-take n xs (n - 1) d (omega arith)) ∙ ap (λ k. get_or (take n xs) (k - 1) d) (sym long) ∙ get_or_from_slice_get (take n xs) (length (take n xs) - 1) x d e)

pub last_missing : (xs : List Order) (n : ℕ) → n ≤ length xs → slice_get (take n xs) (length (take n xs) - 1) ≡ None → n ≡ 0
last_missing xs n fits e =
    let long : length (take n xs) ≡ n = length-take-le n xs fits in
    ⊎_elim
    (λ (some : 0 < n). let there = slice_get-get_or (take n xs) (length (take n xs) - 1) no_order (omega arith) in absurd cc)
    (λ (none : n ≤ 0). omega arith)
    (cases_lt 0 n)

module _ (buys sells : List Order) (base price next : ℕ) (above below : Front)
    (buyers : Counts (buy_counts (price + 1)) buys above) (sellers : Counts (sell_counts price) sells below)
    (lowest : LowestLeft buys sells above.orders below.orders next) where
  -- the walk goes up
  pub goes_up : price < next
  goes_up =
      ⊎_elim
      (λ (k, lt, e). omega (arith, leb-true (price + 1) (get_or buys k no_order).price (buyers.inside k no_order lt), e no_order))
      (λ (k, low, lt, e). omega (arith, leb-false (get_or sells k no_order).price price (sellers.behind k no_order low lt), e no_order))
      lowest.left

  -- the buy orders above the price are those at the next price or above it
  pub buyers_at_next : Counts (buy_counts next) buys above
  buyers_at_next =
      make_front (buy_counts next) buys above buyers.fits (front_quantity (buy_counts (price + 1)) buys above buyers)
      (λ k d lt. le-leb next (get_or buys k d).price (lowest.buyers k d lt))
      (λ k d low lt. lt-leb next (get_or buys k d).price (omega (arith, goes_up, leb-false (price + 1) (get_or buys k d).price (buyers.behind k d low lt))))

  pub candidate_next : Candidate buys sells next
  candidate_next = ⊎_elim (λ (k, lt, e). inl (k, omega (arith, buyers.fits), e)) (λ (k, low, lt, e). inr (k, lt, e)) lowest.left

  -- there is no candidate between the price and the next
  none_between : (q : ℕ) → Candidate buys sells q → q ≤ next → (q ≤ price) ⊎ (q ≡ next)
  none_between q (inl (k, lt, e)) le =
      ⊎_elim
      (λ (l : k < above.orders). inr (omega (arith, lowest.buyers k no_order l, e no_order)))
      (λ (l : above.orders ≤ k). inl (omega (arith, leb-false (price + 1) (get_or buys k no_order).price (buyers.behind k no_order l lt), e no_order)))
      (cases_lt k above.orders)
  none_between q (inr (k, lt, e)) le =
      ⊎_elim
      (λ (l : k < below.orders). inl (omega (arith, leb-true (get_or sells k no_order).price price (sellers.inside k no_order l), e no_order)))
      (λ (l : below.orders ≤ k). inr (omega (arith, lowest.sellers k no_order l lt, e no_order)))
      (cases_lt k below.orders)

  -- the better one of the best offer so far and that at the next price is the best up to there
  module _ (offer : Offer) (of : IsOffer buys sells offer) (at : offer.price ≡ next) where
    takes_new : ((q : ℕ) → Candidate buys sells q → q ≤ price → Better buys sells base q offer.price → ⊥) → BestUpTo buys sells base next (Some offer)
    takes_new none = (
      of,
      omega arith,
      λ q candidate le better.
          ⊎_elim (λ l. none q candidate l better) (λ e. better_self buys sells base offer.price (subst (λ x. Better buys sells base x offer.price) (e ∙ sym at) better)) (none_between q candidate le),
    )

    pub best_of_next : (best : Option Offer) (r : Offer) → BestUpTo buys sells base price best → MatchOption best (r ≡ offer) (λ old. (Beats offer old base × (r ≡ offer)) ⊎ ((Beats offer old base → ⊥) × (r ≡ old))) → BestUpTo buys sells base next (Some r)
    best_of_next None r none e = rw e (takes_new (λ q candidate le _. none q candidate le))
    best_of_next (Some old) r (is, low, none) (inl (beats, e)) =
        rw e (takes_new (λ q candidate le better. none q candidate le (better_trans buys sells base q offer.price old.price better (better_if_beats buys sells base offer old of is beats))))
    best_of_next (Some old) r (is, low, none) (inr (not-beats, e)) =
        rw e (
          is,
          omega (arith, goes_up),
          λ q candidate le better.
              ⊎_elim
              (λ l. none q candidate l better)
              (λ same. not-beats (beats_if_better buys sells base offer old of is (subst (λ x. Better buys sells base x old.price) (same ∙ sym at) better)))
              (none_between q candidate le),
        )

  -- each step passes an order, and the fronts only move on
  pub fewer_left : (above' below' : Front) → Counts (buy_counts (next + 1)) buys above' → Counts (sell_counts next) sells below' → above'.orders + (length sells - below'.orders) < above.orders + (length sells - below.orders)
  fewer_left above' below' buyers' sellers' =
      let up = goes_up in
      let less : above'.orders ≤ above.orders =
      ⊎_elim
      (λ (l : above.orders < above'.orders). absurd (omega (arith, up, leb-true (next + 1) (get_or buys above.orders no_order).price (buyers'.inside above.orders no_order l), leb-false (price + 1) (get_or buys above.orders no_order).price (buyers.behind above.orders no_order (omega arith) (omega (arith, buyers'.fits))))))
      (λ l. l)
      (cases_lt above.orders above'.orders) in
      let more : below.orders ≤ below'.orders =
      ⊎_elim
      (λ (l : below'.orders < below.orders). absurd (omega (arith, up, leb-true (get_or sells below'.orders no_order).price price (sellers.inside below'.orders no_order l), leb-false (get_or sells below'.orders no_order).price next (sellers'.behind below'.orders no_order (omega arith) (omega (arith, sellers.fits))))))
      (λ l. l)
      (cases_lt below'.orders below.orders) in
      ⊎_elim
      (λ (k, lt, e).
      ⊎_elim
      (λ (l : k < above'.orders). absurd (omega (arith, leb-true (next + 1) (get_or buys k no_order).price (buyers'.inside k no_order l), e no_order)))
      (λ (l : above'.orders ≤ k). omega (arith, sellers'.fits))
      (cases_lt k above'.orders))
      (λ (k, low, lt, e).
      ⊎_elim
      (λ (l : k < below'.orders). omega (arith, sellers'.fits))
      (λ (l : below'.orders ≤ k). absurd (omega (arith, leb-false (get_or sells k no_order).price next (sellers'.behind k no_order l lt), e no_order)))
      (cases_lt k below'.orders))
      lowest.left

-- where no order is left, the best offer so far is the best of all
module _ (buys sells : List Order) (base price : ℕ) (above below : Front)
    (buyers : Counts (buy_counts (price + 1)) buys above) (sellers : Counts (sell_counts price) sells below)
    (none : above.orders ≡ 0) (none' : length sells ≤ below.orders) where
  past : (q : ℕ) → Candidate buys sells q → q ≤ price
  past q (inl (k, lt, e)) = omega (arith, leb-false (price + 1) (get_or buys k no_order).price (buyers.behind k no_order (omega arith) lt), e no_order)
  past q (inr (k, lt, e)) = omega (arith, leb-true (get_or sells k no_order).price price (sellers.inside k no_order (omega arith)), e no_order)

  pub walked_all : (best : Option Offer) → BestUpTo buys sells base price best → BestOf buys sells base best
  walked_all None found = λ q candidate. found q candidate (past q candidate)
  walked_all (Some o) (is, _, found) = (is, λ q candidate better. found q candidate (past q candidate) better)
