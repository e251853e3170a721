-- The ranges of a tunnel, and the questions for them. Assumes nothing.
use Rattle.std.specs.Prelude.{ℕ, Bool, IsTrue, if◌then◌else◌, ◌&&◌, ℤ, pos, nat_le}
use Rattle.rules.specs.Limits.{greatest_price, greatest_second}

-- the low and the high end; both are inside, and they may be negative
abbrev pub Range : Type 0
Range = ℤ × ℤ

-- base price and second are within their limits
abbrev pub askable : ℕ → ℕ → Bool
askable base second = nat_le 1 base && nat_le base greatest_price && nat_le second greatest_second

abbrev pub Askable : ℕ → ℕ → Type 0
Askable base second = IsTrue (askable base second)

-- the answer to a question outside the limits
abbrev pub no_price : Range
no_price = (pos 1, pos 0)

-- the range that turns no price away
abbrev pub every_price_range : Range
every_price_range = (pos 1, pos greatest_price)

-- the range of a tunnel that has `range` at a base price and a second within their limits
abbrev pub asked : ℕ → ℕ → Range → Range
asked base second range = if askable base second then range else no_price
