-- Bands, and the ranges around a base price. Assumes nothing.
use Rattle.std.specs.Prelude.{ℕ, ℤ, pos, ◌+ℤ◌, neg_ℤ, ◌≤ℤ◌}
use Rattle.rules.specs.Limits.{greatest_band}
use Rattle.rules.specs.Ticks.{down, up, RoundedDown, RoundedUp}
use Rattle.tunnel.specs.Ranges.{Range}

-- a low and a high band within their limits
abbrev pub IsBand : ℤ → ℤ → Type 0
IsBand low high = (neg_ℤ (pos greatest_band) ≤ℤ low) × (low ≤ℤ pos 0) × (pos 0 ≤ℤ high) × (high ≤ℤ pos greatest_band)

-- base + low rounded down to the tick, and base + high rounded up
abbrev pub around : ℕ → ℤ → ℤ → ℕ → Range
around tick low high base = (down tick (pos base +ℤ low), up tick (pos base +ℤ high))

-- the same by comparison: the ends are the multiples of the tick that lie next to base + low and base + high
abbrev pub Around : ℕ → ℤ → ℤ → ℕ → Range → Type 0
Around tick low high base range = RoundedDown tick (pos base +ℤ low) range.0 × RoundedUp tick (pos base +ℤ high) range.1
