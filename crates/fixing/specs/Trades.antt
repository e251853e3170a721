-- The trades of a fixing. Assumes nothing.
use Rattle.std.specs.Prelude.{◌≡◌, ℕ, ◌≤◌, cond, List, [], ◌∷◌, ◌++◌, sum_by, ◌==◌, ◌≢◌}
use Rattle.std.specs.List.{AllByRecursion}
use Rattle.ranked.specs.Ranks.{Pairwise}
use Rattle.book.specs.declared.order.Order.{Order}
use Rattle.rules.specs.declared.trade.Trade.{Trade}

-- the number of the order on one side of a trade
abbrev pub buyer : Trade → ℕ
buyer t = t.buy

abbrev pub seller : Trade → ℕ
seller t = t.sell

-- the quantity of the trades
abbrev pub traded : List Trade → ℕ
traded trades = sum_by (λ t. t.quantity) trades

-- what an order gets: the sum of its trades
abbrev pub gets : (Trade → ℕ) → List Trade → Order → ℕ
gets side trades x = sum_by (λ t. cond (side t == x.number) t.quantity 0) trades

-- the trades go to the orders of a side in rank order: first those of the first order, which come to its fill, and so on
abbrev pub Dealt : (Trade → ℕ) → List Order → List ℕ → List Trade → Type 0
Dealt side [] [] trades = trades ≡ []
Dealt side [] (fill ∷ fills) trades = ⊥
Dealt side (x ∷ xs) [] trades = ⊥
Dealt side (x ∷ xs) (fill ∷ fills) trades =
    (own : List Trade) × (others : List Trade) × (trades ≡ own ++ others) × AllByRecursion (λ t. side t ≡ x.number) own × (traded own ≡ fill) × Dealt side xs fills others

-- two trades are of two other orders on one side at least
abbrev pub OtherOrders : Trade → Trade → Type 0
OtherOrders t u = t.buy ≡ u.buy → t.sell ≢ u.sell

-- the fills of the two sides are paired in rank order into trades at this price, one for each two orders that meet
pub record Paired (price : ℕ) (buys sells : List Order) (bought sold : List ℕ) (trades : List Trade) : Type 0 where
  pub buyers : Dealt buyer buys bought trades
  pub sellers : Dealt seller sells sold trades
  pub priced : AllByRecursion (λ t. t.price ≡ price) trades
  pub some : AllByRecursion (λ t. 1 ≤ t.quantity) trades
  pub once : Pairwise OtherOrders trades
