-- The theoretical result at the best offer. Assumes nothing.
use Rattle.std.specs.Prelude.{◌≡◌, ◌<◌, min, pos, ◌-ℤ◌, Some, None}
use Rattle.fixing.specs.declared.offer.Offer.{Offer}
use Rattle.fixing.specs.declared.theoretical.Theoretical.{Theoretical}

-- nothing trades
abbrev pub no_price : Theoretical
no_price = record { price = None; volume = 0; leftover = pos 0 }

-- the result at an offer: its price with volume and leftover, or no price if its volume is 0
pub record TakenFrom (o : Offer) (r : Theoretical) : Type 0 where
  pub nothing : min o.demand o.supply ≡ 0 → r ≡ no_price
  pub something : 0 < min o.demand o.supply → r ≡ record { price = Some o.price; volume = min o.demand o.supply; leftover = pos o.demand -ℤ pos o.supply }
