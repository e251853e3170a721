-- What the tunnel keeps of the trades it was told. Assumes nothing.
use Rattle.std.specs.Prelude.{◌≡◌, ℕ, ◌+◌, if◌then◌else◌, List, ◌==◌, nat_le}
use Rattle.std.specs.Option.{option_map_or}
use Rattle.tunnel.specs.Trades.{quantity_of}
use Rattle.tunnel.specs.declared.trade.ToldTrade.{ToldTrade}
use Rattle.mean.specs.Averages.{fraction, totals}
use Rattle.mean.specs.Means.{Fraction, latest, value_before, quantity_before, price_before, centre}
use Rattle.mean.specs.declared.summary.Summary.{Summary}

-- the summary is of these trades, the one last told first
pub record Remembers (settlement : ℕ) (s : Summary) (xs : List ToldTrade) : Type 0 where
  pub tally : s.tally ≡ quantity_of xs
  pub period : s.period ≡ latest xs
  pub current : totals s.current ≡ (value_before (latest xs + 1) xs, quantity_before (latest xs + 1) xs)
  pub centred : fraction s.centre ≡ centre settlement xs (latest xs)
  pub last : s.last ≡ price_before settlement (latest xs + 1) xs

-- the summary is of some trades
abbrev pub RemembersSome : ℕ → Summary → Type 0
RemembersSome settlement s = ∥ ((told : List ToldTrade) × Remembers settlement s told) ∥₁

-- the centre in a period, by what the summary keeps
abbrev pub centre_in : Summary → ℕ → Fraction
centre_in s k =
    if nat_le k s.period then fraction s.centre else if k == s.period + 1 then option_map_or fraction s.current (s.last, 1) else (s.last, 1)
