use Rattle.std.proofs.Common.{pos, ◌+ℤ◌, ap₂, arith}
use Rattle.std.proofs.lemmas.Int.{ints}
use Rattle.rules.specs.Ticks.{down, up}
use Rattle.band.proofs.Ends.{answered, summed, around_rounded}
use Rattle.band.proofs.band.Band.around.Goals as goal

pub returns : goal.returns
returns c =
    let tick = c.args.tick.value in
    let band = c.args.self in
    let base = c.args.base in
    let low = answered (down tick) (pos base +ℤ band.low) _ c.down.result c.down.type_inv c.down.ensures.value (summed base band.low c.requires band.within.0 (omega (arith, ints, band.within.1))) in
    let high = answered (up tick) (pos base +ℤ band.high) _ c.up.result c.up.type_inv c.up.ensures.value (summed base band.high c.requires (omega (arith, ints, band.within.2)) band.within.3) in
    let range = ap₂ (λ l h. (l, h)) low high in
    record {
      range = range;
      rounded = around_rounded tick band.low band.high base _ c.args.tick.within.0 range;
    }
