-- The centre of the mean-price tunnel, over the trades that were told since the day's start, and the range around it.
-- A list of trades has the trade last told first. Assumes nothing.
use Rattle.std.specs.Prelude.{◌≡◌, ℕ, ◌+◌, ◌*◌, ◌/◌, ◌%◌, ◌≤◌, min, max, if◌then◌else◌, List, [], ◌∷◌, ℤ, pos, ◌+ℤ◌, ◌-ℤ◌, ◌*ℤ◌, ◌≤ℤ◌, ◌<ℤ◌, ◌==◌, nat_lt}
use Rattle.rules.specs.Limits.{greatest_price, greatest_band}
use Rattle.rules.specs.Ticks.{IsTick, Multiple, down, up}
use Rattle.tunnel.specs.Ranges.{Range}
use Rattle.tunnel.specs.declared.trade.ToldTrade.{ToldTrade}

-- period k is the seconds 15k to 15k + 14
abbrev pub period : ℕ → ℕ
period second = second / 15

-- the latest period of the trades, 0 if there are none; the trade last told counts in it, also if its own second is of
-- an earlier period
abbrev pub latest : List ToldTrade → ℕ
latest [] = 0
latest (x ∷ xs) = max (period x.second) (latest xs)

-- the sum of a number over the trades that count in the period before period k
abbrev pub sum_before : (ToldTrade → ℕ) → ℕ → List ToldTrade → ℕ
sum_before f k [] = 0
sum_before f k (x ∷ xs) = (if latest (x ∷ xs) + 1 == k then f x else 0) + sum_before f k xs

-- the quantity of those trades
abbrev pub quantity_before : ℕ → List ToldTrade → ℕ
quantity_before = sum_before (λ x. x.quantity)

-- what was paid for it: the sum of price by quantity
abbrev pub value_before : ℕ → List ToldTrade → ℕ
value_before = sum_before (λ x. x.price * x.quantity)

-- the price last told before period k, and the settlement price if there is none
abbrev pub price_before : ℕ → ℕ → List ToldTrade → ℕ
price_before settlement k [] = settlement
price_before settlement k (x ∷ xs) = if nat_lt (latest (x ∷ xs)) k then x.price else price_before settlement k xs

-- a price as a fraction: a value, and the quantity that it is divided by
abbrev pub Fraction : Type 0
Fraction = ℕ × ℕ

-- the centre in period k, which is not before the latest period of the trades
abbrev pub centre : ℕ → List ToldTrade → ℕ → Fraction
centre settlement xs k =
    if quantity_before k xs == 0 then (price_before settlement k xs, 1) else (value_before k xs, quantity_before k xs)

-- the centre for a question at a second: it counts as of the latest period of the trades if its own is earlier
abbrev pub centre_at : ℕ → List ToldTrade → ℕ → Fraction
centre_at settlement xs second = centre settlement xs (max (period second) (latest xs))

-- `low` is the greatest multiple of the tick that is at most centre - w
abbrev pub LowLimit : ℕ → ℕ → Fraction → ℤ → Type 0
LowLimit tick w (value, quantity) low =
    Multiple tick low × (((low +ℤ pos w) *ℤ pos quantity) ≤ℤ pos value) × (pos value <ℤ ((low +ℤ pos tick +ℤ pos w) *ℤ pos quantity))

-- `high` is the least multiple of the tick that is at least centre + w
abbrev pub HighLimit : ℕ → ℕ → Fraction → ℤ → Type 0
HighLimit tick w (value, quantity) high =
    Multiple tick high × (pos value ≤ℤ ((high -ℤ pos w) *ℤ pos quantity)) × (((high -ℤ pos tick -ℤ pos w) *ℤ pos quantity) <ℤ pos value)

-- the range between the limits around a centre: a trade at a limit goes to auction, so that neither is inside
abbrev pub Between : ℕ → ℕ → Fraction → Range → Type 0
Between tick w c range =
    (low high : ℤ) × LowLimit tick w c low × HighLimit tick w c high × (range ≡ (low +ℤ pos 1, high -ℤ pos 1))

-- the same as a function: the limits are whole numbers, so the centre may be rounded to one first
abbrev pub between : ℕ → ℕ → Fraction → Range
between tick w (value, quantity) = (
  down tick (pos (value / quantity) -ℤ pos w) +ℤ pos 1,
  up tick (pos (value / quantity + min 1 (value % quantity)) +ℤ pos w) -ℤ pos 1,
)

-- a half-width, and a price, within their limits
abbrev pub IsWidth : ℕ → Type 0
IsWidth w = (1 ≤ w) × (w ≤ greatest_band)

abbrev pub IsPrice : ℕ → Type 0
IsPrice price = (1 ≤ price) × (price ≤ greatest_price)

-- tick, half-width and settlement price within their limits
abbrev pub AreParameters : ℕ → ℕ → ℕ → Type 0
AreParameters tick w settlement = IsTick tick × IsWidth w × IsPrice settlement
