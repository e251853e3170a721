-- Averages as fractions. Assumes nothing.
use Rattle.std.specs.Prelude.{◌+◌, Option}
use Rattle.std.specs.Option.{option_map_or}
use Rattle.mean.specs.Means.{Fraction}
use Rattle.mean.specs.declared.average.Average.{Average}

-- the average as the fraction that it is
abbrev pub fraction : Average → Fraction
fraction a = (a.value, a.quantity)

-- two averages together: what was paid in all, by the quantity in all
abbrev pub together : Fraction → Fraction → Fraction
together (v, q) (w, r) = (v + w, q + r)

-- what was paid in all, and for how much, where there may be no trade
abbrev pub totals : Option Average → Fraction
totals told = option_map_or fraction told (0, 0)
