use Rattle.std.proofs.Common.{◌≡◌, length, arith, rules}
use Rattle.rules.specs.Limits.{most_orders}
use Rattle.std.proofs.lemmas.List.{length-take-le}
use Rattle.ranked.specs.Ranks.{Alike}
use Rattle.book.specs.Lists.{Acceptable}
use Rattle.book.specs.Tables.{held}
use Rattle.book.proofs.Sides.{none_alike, sound_inserted}
use Rattle.book.proofs.table.OrderTable.insert.Goals as goal

pub returns-clause-sound : goal.returns-clause-sound
returns-clause-sound g c =
    let t = c.args.self.now in
    let before = g.K.Ranking.before in
    let done = c.in_ok-place.ensures in
    let n = length-take-le t.count t.orders (omega (arith, done.room)) in
    let long : length t.orders ≡ most_orders = search rules in
    let ok : Acceptable (held t) c.args.order = record { within = search rules; room = omega (arith, done.room); apart = search rules } in
    λ by_stamp sound. rw done.front (sound_inserted before (held t) c.args.order c.in_ok-place.place done.placed.0 sound ok (rw done.front at (done.ranked sound.ranked (none_alike (Alike before) by_stamp (held t) c.args.order ok))))
