-- The mean-price tunnel, over the trades that it was told. Assumes nothing.
use Rattle.std.specs.Prelude.{◌≡◌, ℕ, ◌+◌, List, [], ◌∷◌}
use Rattle.tunnel.specs.Ranges.{Range, Askable, asked}
use Rattle.tunnel.specs.Trades.{Counts, Told, counting, newest_first}
use Rattle.tunnel.specs.declared.trade.ToldTrade.{ToldTrade}
use Rattle.mean.specs.Means.{period, centre_at, between, Between}
use Rattle.mean.specs.Summaries.{Remembers, centre_in}
use Rattle.mean.specs.declared.mean_tunnel.MeanTunnel.{MeanTunnel}

-- what the tunnel keeps is the summary of these trades, the one last told first
abbrev pub Remembered : MeanTunnel → List ToldTrade → Type 0
Remembered t told = Remembers t.settlement t.summary told

-- the range for auctions that the rule gives after these trades
abbrev pub ByTheRule : MeanTunnel → List ToldTrade → ℕ → Range → Type 0
ByTheRule t told second range = Between t.tick.value t.half_width (centre_at t.settlement told second) range

-- the range for auctions, by what the tunnel keeps
abbrev pub auctioning : MeanTunnel → ℕ → ℕ → Range
auctioning t base second = asked base second (between t.tick.value t.half_width (centre_in t.summary (period second)))

-- tick, half-width and settlement price are the same
abbrev pub Alike : MeanTunnel → MeanTunnel → Type 0
Alike t u = (u.tick ≡ t.tick) × (u.half_width ≡ t.half_width) × (u.settlement ≡ t.settlement)

-- what a day's start makes of a tunnel
abbrev pub Starts : MeanTunnel → MeanTunnel → Type 0
Starts t u = Alike t u × Remembered u []

-- what a told trade makes of a tunnel
abbrev pub Tells : MeanTunnel → ToldTrade → MeanTunnel → Type 0
Tells t x u =
    Alike t u × (Counts t.summary.tally x → (u.summary.tally ≡ t.summary.tally + x.quantity) × ((told : List ToldTrade) → Remembered t told → Remembered u (x ∷ told))) × ((Counts t.summary.tally x → ⊥) → u.summary ≡ t.summary)

-- after any trades told from a day's start on, the range for auctions is the one that the rule gives for those that count
abbrev pub RangeByWhatCounted : Type 0
RangeByWhatCounted =
    (t begun u : MeanTunnel) (told : List ToldTrade) → Starts t begun → Told Tells begun told u → (base second : ℕ) → Askable base second → ByTheRule t (newest_first (counting 0 told) []) second (auctioning u base second)
