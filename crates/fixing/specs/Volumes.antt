-- What could be traded at a price. `buys` and `sells` are the orders of the two sides. Assumes nothing.
use Rattle.std.specs.Prelude.{◌≡◌, ℕ, ◌+◌, ◌-◌, ◌*◌, ◌<◌, ◌≤◌, min, Bool, false, if◌then◌else◌, List, length, ℤ, pos, ◌-ℤ◌, sum_by, sum, nat_le, slice_index, slice_index_or}
use Rattle.rules.specs.Limits.{greatest_quantity, most_orders}
use Rattle.book.specs.declared.order.Order.{Order}

-- a buy order counts at its price and below it
abbrev pub buy_counts : ℕ → Order → Bool
buy_counts price x = nat_le price x.price

-- a sell order counts at its price and above it
abbrev pub sell_counts : ℕ → Order → Bool
sell_counts price x = nat_le x.price price

-- the quantity of the orders that count
abbrev pub counted : (Order → Bool) → List Order → ℕ
counted counts xs = sum_by (λ x. if counts x then x.quantity else 0) xs

-- D: the quantity of the buy orders at this price or above it
abbrev pub demand : ℕ → List Order → ℕ
demand price buys = counted (buy_counts price) buys

-- S: the quantity of the sell orders at this price or below it
abbrev pub supply : ℕ → List Order → ℕ
supply price sells = counted (sell_counts price) sells

abbrev pub volume : List Order → List Order → ℕ → ℕ
volume buys sells price = min (demand price buys) (supply price sells)

abbrev pub leftover : List Order → List Order → ℕ → ℤ
leftover buys sells price = pos (demand price buys) -ℤ pos (supply price sells)

-- no side has more than this: as many orders as it may, of the greatest quantity
abbrev pub most_resting : ℕ
most_resting = most_orders * greatest_quantity

-- how far apart two numbers are
abbrev pub distance : ℕ → ℕ → ℕ
distance m n = (m - n) + (n - m)

-- the leftover without sign
abbrev pub imbalance : List Order → List Order → ℕ → ℕ
imbalance buys sells price = distance (demand price buys) (supply price sells)

-- fills of one side: a quantity for each order, at most its own, and 0 for an order that does not count
pub record FillsOf (counts : Order → Bool) (xs : List Order) (fills : List ℕ) : Type 0 where
  pub long : length fills ≡ length xs
  pub within : (k : ℕ) (d : Order) → k < length xs → slice_index fills k ≤ (slice_index_or xs k d).quantity
  pub none : (k : ℕ) (d : Order) → k < length xs → counts (slice_index_or xs k d) ≡ false → slice_index fills k ≡ 0

-- fills of both sides at a price, which come to the same quantity
pub record FillsAt (price : ℕ) (buys sells : List Order) (bought sold : List ℕ) (quantity : ℕ) : Type 0 where
  pub buyers : FillsOf (buy_counts price) buys bought
  pub sellers : FillsOf (sell_counts price) sells sold
  pub bought_all : sum bought ≡ quantity
  pub sold_all : sum sold ≡ quantity

-- no fills at any one price come to more
abbrev pub TradesTheMost : List Order → List Order → ℕ → Type 0
TradesTheMost buys sells most =
    (price : ℕ) (bought sold : List ℕ) (quantity : ℕ) → FillsAt price buys sells bought sold quantity → quantity ≤ most
