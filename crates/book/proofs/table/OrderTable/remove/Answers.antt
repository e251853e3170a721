use Rattle.std.proofs.Common.{arith}
use Rattle.std.proofs.lemmas.List.{length-take-le}
use Rattle.book.specs.Tables.{held}
use Rattle.book.proofs.Sides.{sound_removed}
use Rattle.book.proofs.table.OrderTable.remove.Goals as goal

pub returns-clause-sound : goal.returns-clause-sound
returns-clause-sound c =
    let t = c.args.self.now in
    let done = c.in_ok-order.ensures in
    let n = length-take-le t.count t.orders done.within.1 in
    λ before sound. rw done.front (sound_removed before (held t) c.args.place (omega (arith, done.within.0)) sound)
