-- What a layer of limits makes of the ranges below.
use Rattle.std.proofs.Common.{◌≡◌, ℕ, rules, tests}
use Rattle.tunnel.specs.Ranges.{Range, Askable, no_price}
use Rattle.daily.specs.Narrowing.{limited}
use Rattle.daily.specs.declared.limits.DailyLimits.{DailyLimits}

-- outside the limits of a question the layer answers what is below
pub not_limited : (low high base second : ℕ) (below : Range) → ¬ Askable base second → below ≡ no_price → limited low high base second below ≡ no_price
not_limited low high base second below out e = search (rules, tests)

-- the same limits over the same range
pub same_limited : (l k : DailyLimits) (base second : ℕ) (below other : Range) → l ≡ k → below ≡ other → limited l.low l.high base second below ≡ limited k.low k.high base second other
same_limited l k base second below other e f = λ i. limited (e i).low (e i).high base second (f i)
