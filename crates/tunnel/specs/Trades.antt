-- The trades that a tunnel is told, and which of them count. Assumes nothing.
use Rattle.std.specs.Prelude.{◌≡◌, ℕ, ◌+◌, Bool, IsTrue, if◌then◌else◌, ◌&&◌, List, [], ◌∷◌, nat_le, sum_by}
use Rattle.rules.specs.Limits.{greatest_price, greatest_second, greatest_quantity, greatest_tally}
use Rattle.tunnel.specs.declared.trade.ToldTrade.{ToldTrade}

-- price, quantity and second are within their limits, and the tally stays within its own
abbrev pub counts : ℕ → ToldTrade → Bool
counts tally x =
    nat_le 1 x.price && nat_le x.price greatest_price && nat_le 1 x.quantity && nat_le x.quantity greatest_quantity && nat_le x.second greatest_second && nat_le (tally + x.quantity) greatest_tally

abbrev pub Counts : ℕ → ToldTrade → Type 0
Counts tally x = IsTrue (counts tally x)

-- the tally after a trade was told
abbrev pub tallied : ℕ → ToldTrade → ℕ
tallied tally x = if counts tally x then tally + x.quantity else tally

-- of the trades, told in this order from a tally on, those that count
abbrev pub counting : ℕ → List ToldTrade → List ToldTrade
counting tally [] = []
counting tally (x ∷ xs) = if counts tally x then x ∷ counting (tally + x.quantity) xs else counting tally xs

-- the trades `ys`, told in this order after `xs`, as a list with the trade last told first
abbrev pub newest_first : List ToldTrade → List ToldTrade → List ToldTrade
newest_first [] xs = xs
newest_first (y ∷ ys) xs = newest_first ys (y ∷ xs)

-- the sum of their quantities
abbrev pub quantity_of : List ToldTrade → ℕ
quantity_of = sum_by (λ x. x.quantity)

-- telling the trades, one after another, leads from `t` to `u`; `tells` is the tunnel's rule for one trade
abbrev pub Told : {A : Type 0} → (A → ToldTrade → A → Type 0) → A → List ToldTrade → A → Type 0
Told tells t [] u = t ≡ u
Told {A = A} tells t (x ∷ xs) u = (m : A) × tells t x m × Told tells m xs u

-- after any trades told from a day's start on, the tally is the quantity of those that count
abbrev pub TallyIsWhatCounted : {A : Type 0} → (A → ℕ) → (A → A → Type 0) → (A → ToldTrade → A → Type 0) → Type 0
TallyIsWhatCounted {A = A} tally starts tells =
    (t begun u : A) (told : List ToldTrade) → starts t begun → Told tells begun told u → tally u ≡ quantity_of (counting 0 told)
