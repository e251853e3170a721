use Rattle.std.proofs.Common.{ap₂}
use Rattle.mean.proofs.Between.{floor_within, ceil_within, low_end, high_end}
use Rattle.mean.proofs.average.Average.range.Goals as goal

pub returns : goal.returns
returns c =
    let tick = c.args.tick.value in
    let t = c.args.tick.within.0 in
    let w = c.args.half_width in
    let value = c.args.self.value in
    let quantity = c.args.self.quantity in
    let low = low_end tick _ w _ c.down-low.result t (floor_within value quantity c.args.self.some c.args.self.priced) c.requires c.floor.ensures.value c.down-low.type_inv c.down-low.ensures.value in
    let high = high_end tick _ w _ c.up-high.result t (ceil_within value quantity c.args.self.some c.args.self.priced) c.requires c.ceil.ensures.value c.up-high.type_inv c.up-high.ensures.value in
    ap₂ (λ l h. (l, h)) low high
