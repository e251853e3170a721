-- What daily limits leave of a range. Assumes nothing.
use Rattle.std.specs.Prelude.{ℕ, if◌then◌else◌, pos}
use Rattle.std.specs.Int.{int_max, int_min}
use Rattle.tunnel.specs.Ranges.{Range, askable}

-- the larger low and the smaller high end of the limits and the range below; outside the limits of a question, what is below
abbrev pub limited : ℕ → ℕ → ℕ → ℕ → Range → Range
limited low high base second below =
    if askable base second then (int_max (pos low) below.0, int_min (pos high) below.1) else below
