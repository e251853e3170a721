-- The rule of an outside maker's tunnel. Assumes nothing.
use Rattle.std.specs.Prelude.{ℕ, pos, ◌+ℤ◌, ◌-ℤ◌}
use Rattle.tunnel.specs.Ranges.{Range}

abbrev pub beside : ℕ → ℕ → Range
beside width price = (pos price -ℤ pos width, pos price +ℤ pos width)
