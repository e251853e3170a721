-- A walk over the prices of both sides, from the lowest up. Assumes nothing.
use Rattle.std.specs.Prelude.{◌≡◌, ℕ, ◌+◌, ◌<◌, ◌≤◌, min, Bool, true, false, ◌⊎◌, List, length, Option, MatchOption, slice_index_or}
use Rattle.book.specs.declared.order.Order.{Order}
use Rattle.fixing.specs.declared.offer.Offer.{Offer}
use Rattle.fixing.specs.declared.walk.Front.{Front}
use Rattle.fixing.specs.Volumes.{buy_counts, sell_counts, counted, demand, distance, supply}
use Rattle.fixing.specs.Prices.{Better, Candidate, LargerThen}

-- just the orders of the front count, and this is their quantity
pub record Counts (counts : Order → Bool) (xs : List Order) (front : Front) : Type 0 where
  pub fits : front.orders ≤ length xs
  pub inside : (k : ℕ) (d : Order) → k < front.orders → counts (slice_index_or xs k d) ≡ true
  pub behind : (k : ℕ) (d : Order) → front.orders ≤ k → k < length xs → counts (slice_index_or xs k d) ≡ false
  pub quantity : front.quantity ≡ counted counts xs

-- an offer is a candidate with its demand and supply
pub record IsOffer (buys sells : List Order) (o : Offer) : Type 0 where
  pub candidate : Candidate buys sells o.price
  pub demand : o.demand ≡ demand o.price buys
  pub supply : o.supply ≡ supply o.price sells

-- one offer is better than another, by their own numbers
abbrev pub Beats : Offer → Offer → ℕ → Type 0
Beats o other base =
    LargerThen (min o.demand o.supply) (min other.demand other.supply) (LargerThen (distance other.demand other.supply) (distance o.demand o.supply) (LargerThen (distance other.price base) (distance o.price base) (other.price < o.price)))

-- the best offer at a price up to this one
abbrev pub BestUpTo : List Order → List Order → ℕ → ℕ → Option Offer → Type 0
BestUpTo buys sells base price best =
    MatchOption best ((p : ℕ) → Candidate buys sells p → p ≤ price → ⊥) (λ o. IsOffer buys sells o × (o.price ≤ price) × ((p : ℕ) → Candidate buys sells p → p ≤ price → Better buys sells base p o.price → ⊥))

-- the best offer of all, if there is a candidate
abbrev pub BestOf : List Order → List Order → ℕ → Option Offer → Type 0
BestOf buys sells base best =
    MatchOption best ((p : ℕ) → Candidate buys sells p → ⊥) (λ o. IsOffer buys sells o × ((p : ℕ) → Candidate buys sells p → Better buys sells base p o.price → ⊥))

-- the lowest price of the first `above` buy orders and of the sell orders from `below` on
pub record LowestLeft (buys sells : List Order) (above below price : ℕ) : Type 0 where
  pub left : ((k : ℕ) × (k < above) × ((d : Order) → (slice_index_or buys k d).price ≡ price)) ⊎ ((k : ℕ) × (below ≤ k) × (k < length sells) × ((d : Order) → (slice_index_or sells k d).price ≡ price))
  pub buyers : (k : ℕ) (d : Order) → k < above → price ≤ (slice_index_or buys k d).price
  pub sellers : (k : ℕ) (d : Order) → below ≤ k → k < length sells → price ≤ (slice_index_or sells k d).price

-- the walk has come past this price: what is above it on the buy side, and not above it on the sell side
pub record WalkedTo (buys sells : List Order) (base price : ℕ) (above below : Front) (best : Option Offer) : Type 0 where
  pub buyers : Counts (buy_counts (price + 1)) buys above
  pub sellers : Counts (sell_counts price) sells below
  pub found : BestUpTo buys sells base price best
