use Rattle.std.proofs.Common.{arith, rules}
use Rattle.ranked.specs.Ranks.{Alike}
use Rattle.ranked.proofs.Edits.{insertion}
use Rattle.ranked.proofs.slice.insert.Goals as goal

pub returns : goal.returns
returns g c =
    let before = g.K.Ranking.before in
    insertion before (Alike before) (λ x y one other. (one, other)) g.met.K.Ranking.transitive c.args.slots.now c.copy_within.new.self c.args.count c.place-place.result c.args.item (omega arith) (search rules) c.copy_within.ensures.after
