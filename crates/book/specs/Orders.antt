-- Orders, and their rank on each side. Assumes nothing.
use Rattle.std.specs.Prelude.{◌≡◌, ℕ, ◌-◌, Bool, ◌&&◌, ◌||◌, IsTrue, ◌==◌, nat_le, nat_lt}
use Rattle.rules.specs.Limits.{greatest_price, greatest_quantity}
use Rattle.book.specs.declared.order.Order.{Order}

-- buy orders rank by the higher price, then by the smaller stamp
abbrev pub buys_before : Order → Order → Bool
buys_before x y = nat_lt y.price x.price || (x.price == y.price && nat_lt x.stamp y.stamp)

-- sell orders rank by the lower price, then by the smaller stamp
abbrev pub sells_before : Order → Order → Bool
sells_before x y = nat_lt x.price y.price || (x.price == y.price && nat_lt x.stamp y.stamp)

-- the rank of an order is its price and its stamp
abbrev pub SameRank : Order → Order → Type 0
SameRank x y = (x.price ≡ y.price) × (x.stamp ≡ y.stamp)

-- price and quantity are within their limits
abbrev pub within_limits : Order → Bool
within_limits x = nat_le 1 x.price && nat_le x.price greatest_price && nat_le 1 x.quantity && nat_le x.quantity greatest_quantity

abbrev pub WithinLimits : Order → Type 0
WithinLimits x = IsTrue (within_limits x)

-- the order with this much less of its quantity
abbrev pub lessened : Order → ℕ → Order
lessened x by = record { number = x.number; stamp = x.stamp; member = x.member; price = x.price; quantity = x.quantity - by }

-- what stands where there is no order
abbrev pub no_order : Order
no_order = record { number = 0; stamp = 0; member = 0; price = 0; quantity = 0 }
