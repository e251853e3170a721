-- The limits, under the names that src/limits.rt gives them.
-- Assumes nothing.
use Rattle.std.specs.Prelude.{ℕ}

-- prices run from 1 to this
abbrev pub greatest_price : ℕ
greatest_price = 10_000_000

-- seconds run from 0 to this
abbrev pub greatest_second : ℕ
greatest_second = 100_000

-- member numbers run from 1 to this
abbrev pub greatest_member : ℕ
greatest_member = 9_999

-- quantities run from 1 to this, and a group may set a smaller one
abbrev pub greatest_quantity : ℕ
greatest_quantity = 10_000

-- ticks run from 1 to this
abbrev pub greatest_tick : ℕ
greatest_tick = 1_000

-- bands and half-widths of tunnels are at most this, without sign
abbrev pub greatest_band : ℕ
greatest_band = 1_000_000

-- a tunnel's tally never passes this
abbrev pub greatest_tally : ℕ
greatest_tally = 100_000_000_000

-- stamps run from 1 to this
abbrev pub greatest_stamp : ℕ
greatest_stamp = 1_000_000

-- a side of the book holds at most this many orders
abbrev pub most_orders : ℕ
most_orders = 256

-- one call makes at most this many trades
abbrev pub most_trades : ℕ
most_trades = 511

-- a session tape is at most this long
abbrev pub most_tape_bytes : ℕ
most_tape_bytes = 65_536
