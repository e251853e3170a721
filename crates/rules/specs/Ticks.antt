-- Ticks, and numbers rounded to a multiple of one. Assumes nothing.
use Rattle.std.specs.Prelude.{◌≡◌, ℕ, ◌≤◌, ℤ, pos, ◌+ℤ◌, ◌-ℤ◌, ◌*ℤ◌, neg_ℤ, ◌≤ℤ◌, ◌<ℤ◌}
use Rattle.std.specs.Int.{int_rem_euclid}
use Rattle.rules.specs.Limits.{greatest_tick}

-- a tick within its limits
abbrev pub IsTick : ℕ → Type 0
IsTick tick = (1 ≤ tick) × (tick ≤ greatest_tick)

abbrev pub Multiple : ℕ → ℤ → Type 0
Multiple tick z = (k : ℤ) × (z ≡ k *ℤ pos tick)

-- `r` is the greatest multiple of the tick that is at most `z`
abbrev pub RoundedDown : ℕ → ℤ → ℤ → Type 0
RoundedDown tick z r = Multiple tick r × (r ≤ℤ z) × (z <ℤ (r +ℤ pos tick))

-- `r` is the least multiple of the tick that is at least `z`
abbrev pub RoundedUp : ℕ → ℤ → ℤ → Type 0
RoundedUp tick z r = Multiple tick r × (z ≤ℤ r) × (r <ℤ (z +ℤ pos tick))

-- the same as functions: `int_rem_euclid z n` is what `z` is above a multiple of `n`, from 0 to n - 1
abbrev pub down : ℕ → ℤ → ℤ
down tick z = z -ℤ int_rem_euclid z (pos tick)

abbrev pub up : ℕ → ℤ → ℤ
up tick z = z +ℤ int_rem_euclid (neg_ℤ z) (pos tick)
