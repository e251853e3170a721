-- Daily limits. Assumes nothing.
use Rattle.std.specs.Prelude.{ℕ, ◌≤◌}
use Rattle.rules.specs.Limits.{greatest_price}

-- a lowest and a highest price within their limits
abbrev pub AreLimits : ℕ → ℕ → Type 0
AreLimits low high = (1 ≤ low) × (low ≤ high) × (high ≤ greatest_price)
