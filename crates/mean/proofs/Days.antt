-- A day's trades, and the range that they leave.
use Rattle.std.specs.Prelude.{Option, None, Some}
use Rattle.std.specs.Option.{option_map_or}
use Rattle.std.proofs.Common.{◌≡◌, ℕ, ◌≤◌, List, [], sym, ap, ◌∙◌, subst, arith}
use Rattle.std.proofs.lemmas.Bool.{cond-true}
use Rattle.tunnel.specs.Ranges.{Range, askable, no_price}
use Rattle.tunnel.specs.Trades.{counting, newest_first}
use Rattle.tunnel.specs.declared.trade.ToldTrade.{ToldTrade}
use Rattle.tunnel.proofs.Telling.{counted_more}
use Rattle.mean.specs.Means.{Fraction, period, centre_at, between, Between}
use Rattle.mean.specs.Averages.{fraction}
use Rattle.mean.specs.Summaries.{Remembers, centre_in}
use Rattle.mean.specs.Tunnels.{Remembered, ByTheRule, auctioning, Alike, Tells, RangeByWhatCounted}
use Rattle.mean.specs.declared.average.Average.{Average}
use Rattle.mean.specs.declared.summary.Summary.{Summary}
use Rattle.mean.specs.declared.mean_tunnel.MeanTunnel.{MeanTunnel}
use Rattle.mean.proofs.Between.{ends_between}
use Rattle.mean.proofs.Centres.{centre_kept}

-- there is something to divide by
some_next : (current : Option Average) (last : ℕ) → 1 ≤ (option_map_or fraction current (last, 1)).1
some_next None last = omega arith
some_next (Some told) last = told.some

some_centre : (s : Summary) (k : ℕ) → 1 ≤ (centre_in s k).1
some_centre s k = grind (arith, s.centre.some, some_next s.current s.last)

alike_trans : (t u v : MeanTunnel) → Alike t u → Alike u v → Alike t v
alike_trans t u v (a, b, c) (d, e, f) = (d ∙ a, e ∙ b, f ∙ c)

still : (t u : MeanTunnel) (told : List ToldTrade) → Alike t u → u.summary ≡ t.summary → Remembered t told → Remembered u told
still t u told (tick, width, settled) same r = subst (λ s. Remembers u.settlement s told) (sym same) (subst (λ p. Remembers p t.summary told) (sym settled) r)

-- what a tunnel that remembers these trades computes is by the rule
pub ruled : (t : MeanTunnel) (told : List ToldTrade) (second : ℕ) (range : Range) → Remembered t told → range ≡ between t.tick.value t.half_width (centre_in t.summary (period second)) → ByTheRule t told second range
ruled t told second range r e =
    let k = period second in
    let here = ends_between t.tick.value t.half_width (centre_in t.summary k) range t.tick.within.0 (some_centre t.summary k) e in
    let P : Fraction → Type 0 = λ c. Between t.tick.value t.half_width c range in
    subst P (centre_kept t.settlement t.summary told k r) here

-- by the parameters of a tunnel that is alike
ruled_alike : (t u : MeanTunnel) (told : List ToldTrade) (second : ℕ) (range : Range) → Alike t u → ByTheRule u told second range → ByTheRule t told second range
ruled_alike t u told second range (tick, width, settled) h =
    let P : ℕ → Type 0 = λ p. Between u.tick.value u.half_width (centre_at p told second) range in
    let Q : ℕ → Type 0 = λ w. Between u.tick.value w (centre_at t.settlement told second) range in
    let R : ℕ → Type 0 = λ n. Between n t.half_width (centre_at t.settlement told second) range in
    subst R (ap (λ v. v.value) tick) (subst Q width (subst P settled h))

pub range_by_what_counted : RangeByWhatCounted
range_by_what_counted t begun u told (alike, none) all base second h =
    let (same, r) =
    counted_more Tells (λ v. v.summary.tally) (λ v xs. Alike t v × Remembered v xs)
    (λ v x w xs tells counts p. let (more, keeps) = tells.1 counts in (more, (alike_trans t v w p.0 tells.0, keeps xs p.1)))
    (λ v x w xs tells other p. let kept = tells.2 other in (ap (λ s. s.tally) kept, (alike_trans t v w p.0 tells.0, still v w xs tells.0 kept p.1)))
    0 told [] begun u none.tally (alike, none) all in
    let counted = newest_first (counting 0 told) [] in
    let asked = cond-true (askable base second) (between u.tick.value u.half_width (centre_in u.summary (period second))) no_price h in
    ruled_alike t u counted second (auctioning u base second) same (ruled u counted second (auctioning u base second) r asked)
