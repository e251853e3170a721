-- The ends of a range around a base price.
use Rattle.std.proofs.Common.{◌≡◌, ℕ, ◌^◌, ◌<◌, ◌≤◌, ℤ, pos, ◌+ℤ◌, neg_ℤ, ◌≤ℤ◌, ap, ◌∙◌, arith, w32, w64, to_z, of_z}
use lib.Signed.{mag}
use Rattle.std.proofs.lemmas.Int.{ints, to_z-of_z}
use Rattle.rules.specs.Limits.{greatest_price, greatest_band}
use Rattle.rules.proofs.Rounding.{down_rounded, up_rounded}
use Rattle.tunnel.specs.Ranges.{Range}
use Rattle.band.specs.Bands.{around, Around}

-- a base price and a distance within their limits, added as i32
pub summed : (base : ℕ) (z : ℤ) → base ≤ greatest_price → neg_ℤ (pos greatest_band) ≤ℤ z → z ≤ℤ pos greatest_band → to_z w32 (of_z w32 (to_z w32 base +ℤ to_z w32 (of_z w32 z))) ≡ pos base +ℤ z
summed base z b l h = omega (arith, ints)

-- an end that was answered as `r`, for a number `z` that was computed as `y`
pub answered : (f : ℤ → ℤ) (z y r : ℤ) → mag r < 2 ^ 63 → r ≡ f y → y ≡ z → to_z w64 (of_z w64 r) ≡ f z
answered f z y r fits e same = to_z-of_z w64 r (record { sfits = fits }) ∙ e ∙ ap f same

pub around_rounded : (tick : ℕ) (low high : ℤ) (base : ℕ) (range : Range) → 1 ≤ tick → range ≡ around tick low high base → Around tick low high base range
around_rounded tick low high base range h e =
    (down_rounded tick (pos base +ℤ low) range.0 h (ap (λ r. r.0) e), up_rounded tick (pos base +ℤ high) range.1 h (ap (λ r. r.1) e))
