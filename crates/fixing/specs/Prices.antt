-- The fixing price, by comparison. Assumes nothing.
use Rattle.std.specs.Prelude.{◌≡◌, ℕ, ◌<◌, ◌⊎◌, List, length, pos, MatchOption, slice_index_or}
use Rattle.book.specs.declared.order.Order.{Order}
use Rattle.fixing.specs.declared.theoretical.Theoretical.{Theoretical}
use Rattle.fixing.specs.Volumes.{volume, imbalance, leftover, distance}

-- some order of this side has this price
abbrev pub Offered : List Order → ℕ → Type 0
Offered xs price = (k : ℕ) × (k < length xs) × ((d : Order) → (slice_index_or xs k d).price ≡ price)

-- the prices of resting orders are those that may become the fixing price
abbrev pub Candidate : List Order → List Order → ℕ → Type 0
Candidate buys sells price = Offered buys price ⊎ Offered sells price

-- the first number is larger; or they are the same, and then what follows decides
abbrev pub LargerThen : ℕ → ℕ → Type 0 → Type 0
LargerThen m n Rest = (n < m) ⊎ ((m ≡ n) × Rest)

-- one price is better than another: more volume, then a smaller leftover without sign, then nearer the base, then higher
abbrev pub Better : List Order → List Order → ℕ → ℕ → ℕ → Type 0
Better buys sells base p q =
    LargerThen (volume buys sells p) (volume buys sells q) (LargerThen (imbalance buys sells q) (imbalance buys sells p) (LargerThen (distance q base) (distance p base) (q < p)))

-- the fixing price is a candidate at which something trades, and no candidate is better
pub record FixingPrice (buys sells : List Order) (base price : ℕ) : Type 0 where
  pub candidate : Candidate buys sells price
  pub trades : 0 < volume buys sells price
  pub best : (other : ℕ) → Candidate buys sells other → Better buys sells base other price → ⊥

-- the fixing price with its volume and its leftover; or no price, if nothing trades at any candidate
abbrev pub IsTheoretical : List Order → List Order → ℕ → Theoretical → Type 0
IsTheoretical buys sells base t =
    MatchOption t.price (((p : ℕ) → Candidate buys sells p → volume buys sells p ≡ 0) × (t.volume ≡ 0) × (t.leftover ≡ pos 0)) (λ p. FixingPrice buys sells base p × (t.volume ≡ volume buys sells p) × (t.leftover ≡ leftover buys sells p))

-- there is no other theoretical result
abbrev pub OnlyTheoretical : List Order → List Order → ℕ → Theoretical → Type 0
OnlyTheoretical buys sells base t = (other : Theoretical) → IsTheoretical buys sells base other → other ≡ t
