-- The ranges of a band tunnel. Assumes nothing.
use Rattle.std.specs.Prelude.{ℕ}
use Rattle.tunnel.specs.Ranges.{Range, Askable, asked}
use Rattle.band.specs.Bands.{around, Around}
use Rattle.band.specs.declared.band.Band.{Band}
use Rattle.band.specs.declared.band_tunnel.BandTunnel.{BandTunnel}

-- the range that a band gives
abbrev pub ranging : BandTunnel → Band → ℕ → ℕ → Range
ranging t band base second = asked base second (around t.tick.value band.low band.high base)

-- the same by comparison, within the limits of a question
abbrev pub Ranging : BandTunnel → Band → ℕ → ℕ → Range → Type 0
Ranging t band base second range = Askable base second → Around t.tick.value band.low band.high base range
