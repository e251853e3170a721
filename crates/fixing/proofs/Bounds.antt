-- What the limits of orders mean for sums and prices.
use Rattle.std.proofs.Common.{◌≡◌, ℕ, ◌<◌, ◌≤◌, Bool, List, length, get_or, None, sym, refl, ap, ◌∙◌, inl, inr, arith}
use Rattle.std.proofs.lemmas.List.Sums.{sum_by-le}
use Rattle.std.proofs.lemmas.List.{take_all}
use Rattle.std.proofs.lemmas.Bool.{le-leb, lt-leb}
use Rattle.std.proofs.lemmas.Bool.Decides.{nat_tests}
use Rattle.rules.specs.Limits.{greatest_price, greatest_quantity}
use Rattle.book.specs.declared.order.Order.{Order}
use Rattle.book.specs.Lists.{Sound, resting}
use Rattle.book.specs.Orders.{WithinLimits, buys_before, no_order, sells_before}
use Rattle.fixing.specs.declared.walk.Front.{Front}
use Rattle.fixing.specs.Prices.{Candidate}
use Rattle.fixing.specs.Volumes.{buy_counts, most_resting, sell_counts}
use Rattle.fixing.specs.Walks.{Counts, WalkedTo}
use Rattle.fixing.proofs.Counting.{counted_le_resting}
use Rattle.fixing.proofs.Fronts.{make_front}

within_quantity : (x : Order) → WithinLimits x → x.quantity ≤ greatest_quantity
within_quantity x within = grind (arith, nat_tests)

pub within_price : (x : Order) → WithinLimits x → (1 ≤ x.price) × (x.price ≤ greatest_price)
within_price x within = (grind (arith, nat_tests), grind (arith, nat_tests))

pub resting_bound : (before : Order → Order → Bool) (xs : List Order) → Sound before xs → resting xs ≤ most_resting
resting_bound before xs sound =
    omega (arith, sum_by-le (λ x. x.quantity) greatest_quantity xs (λ k d lt. within_quantity (get_or xs k d) (sound.within k d lt)), sound.few)

pub priced : (before : Order → Order → Bool) (xs : List Order) → Sound before xs → (k : ℕ) (d : Order) → k < length xs → 1 ≤ (get_or xs k d).price
priced before xs sound k d lt = (within_price (get_or xs k d) (sound.within k d lt)).0

-- no front holds more than a side may
pub fronts_bound : (buys sells : List Order) (price : ℕ) (above below : Front) → Sound buys_before buys → Sound sells_before sells → Counts (buy_counts price) buys above → Counts (sell_counts price) sells below → (above.quantity ≤ most_resting) × (below.quantity ≤ most_resting)
fronts_bound buys sells price above below sound sound' buyers sellers = (
  omega (arith, buyers.quantity, counted_le_resting (buy_counts price) buys, resting_bound buys_before buys sound),
  omega (arith, sellers.quantity, counted_le_resting (sell_counts price) sells, resting_bound sells_before sells sound'),
)

-- the walk starts below all prices
pub walk_starts : (buys sells : List Order) (base : ℕ) (all : Front) → Sound buys_before buys → Sound sells_before sells → all.orders ≡ length buys → all.quantity ≡ resting buys → WalkedTo buys sells base 0 all (record { orders = 0; quantity = 0 }) None
walk_starts buys sells base all sound sound' orders quantity =
    record {
      buyers = make_front (buy_counts 1) buys all (omega arith) (quantity ∙ ap resting (sym (take_all all.orders buys (omega arith))))
          (λ k d lt. le-leb 1 (get_or buys k d).price (priced buys_before buys sound k d (omega arith)))
          (λ k d low lt. absurd (omega arith));
      sellers = make_front (sell_counts 0) sells (record { orders = 0; quantity = 0 }) (omega arith) refl
          (λ k d lt. absurd (omega arith))
          (λ k d low lt. lt-leb (get_or sells k d).price 0 (priced sells_before sells sound' k d lt));
      found = none;
    }
  where
    none : (q : ℕ) → Candidate buys sells q → q ≤ 0 → ⊥
    none q (inl (k, lt, e)) le = omega (arith, priced buys_before buys sound k no_order lt, e no_order)
    none q (inr (k, lt, e)) le = omega (arith, priced sells_before sells sound' k no_order lt, e no_order)
