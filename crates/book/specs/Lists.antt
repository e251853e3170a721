-- What a side of the book holds, as a list of orders in rank order, and what calls make of it. Assumes nothing.
use Rattle.std.specs.Prelude.{◌≡◌, ℕ, ◌-◌, ◌<◌, ◌≤◌, min, Bool, if◌then◌else◌, List, [], ◌∷◌, length, Some, None, sum_by, sum, Option, ◌≢◌, nat_lt, slice_index, slice_index_or, slice_set}
use Rattle.std.specs.List.{All, remove}
use Rattle.rules.specs.Limits.{most_orders}
use Rattle.ranked.specs.Ranks.{Pairwise, Ranked}
use Rattle.book.specs.declared.order.Order.{Order}
use Rattle.book.specs.Orders.{WithinLimits, lessened}

-- two orders differ in number and in stamp
abbrev pub Apart : Order → Order → Type 0
Apart x y = (x.number ≢ y.number) × (x.stamp ≢ y.stamp)

-- the orders are few enough, in rank order, no number and no stamp stands twice, and each order is within its limits
pub record Sound (before : Order → Order → Bool) (xs : List Order) : Type 0 where
  pub few : length xs ≤ most_orders
  pub ranked : Ranked before xs
  pub apart : Pairwise Apart xs
  pub within : All WithinLimits xs

-- the order may be put among the others
pub record Acceptable (xs : List Order) (x : Order) : Type 0 where
  pub within : WithinLimits x
  pub room : length xs < most_orders
  pub apart : All (λ y. Apart y x) xs

-- two orders of the same rank have the same stamp, where `alike` says which have the same rank
abbrev pub RanksByStamp : (Order → Order → Type 0) → Type 0
RanksByStamp alike = (x y : Order) → alike x y → x.stamp ≡ y.stamp

-- an order with less of its quantity has the rank that it had
abbrev pub KeepsRank : (Order → Order → Bool) → Type 0
KeepsRank before = (x y : Order) (by : ℕ) → (before (lessened x by) y ≡ before x y) × (before y (lessened x by) ≡ before y x)

-- the order stands at this place
abbrev pub At : ℕ → List Order → Order → Type 0
At place xs x = (place < length xs) × ((d : Order) → slice_index_or xs place d ≡ x)

-- the order that comes first
abbrev pub first : List Order → Option Order
first [] = None
first (x ∷ xs) = Some x

-- the quantity that rests
abbrev pub resting : List Order → ℕ
resting xs = sum_by (λ x. x.quantity) xs

-- the order at a place has this much less of its quantity; with nothing left it is gone
abbrev pub reduced : List Order → ℕ → Order → ℕ → List Order
reduced xs place x by = if nat_lt by x.quantity then slice_set xs place (lessened x by) else remove xs place

-- what each order gets of a volume that is given out in rank order: its whole quantity, or what the orders before it leave
abbrev pub filled : ℕ → List Order → List ℕ
filled volume [] = []
filled volume (x ∷ xs) = min volume x.quantity ∷ filled (volume - x.quantity) xs

-- the same by what is true of it
pub record FilledByRank (volume : ℕ) (xs : List Order) (fills : List ℕ) : Type 0 where
  -- a fill for each order, of no more than its quantity
  pub long : length fills ≡ length xs
  pub within : (k : ℕ) (d : Order) → k < length xs → slice_index fills k ≤ (slice_index_or xs k d).quantity
  -- the volume is given out, or all that rests if that is less
  pub whole : sum fills ≡ min volume (resting xs)
  -- an order that ranks before one that got something is filled whole
  pub ranked : (i j : ℕ) (d : Order) → i < j → j < length xs → 0 < slice_index fills j → slice_index fills i ≡ (slice_index_or xs i d).quantity

-- these are the fills in rank order, and there are no others
abbrev pub OnlyFills : ℕ → List Order → List ℕ → Type 0
OnlyFills volume xs fills = FilledByRank volume xs fills × ((others : List ℕ) → FilledByRank volume xs others → others ≡ fills)

-- what is left of the orders once each got its fill; those with nothing left are gone
abbrev pub remaining : List Order → List ℕ → List Order
remaining [] fills = []
remaining (x ∷ xs) [] = x ∷ xs
remaining (x ∷ xs) (fill ∷ fills) = if nat_lt fill x.quantity then lessened x fill ∷ remaining xs fills else remaining xs fills
