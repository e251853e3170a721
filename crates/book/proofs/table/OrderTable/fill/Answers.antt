use Rattle.std.proofs.Common.{◌≡◌, ◌-◌, ◌≤◌, ◌++◌, length, take, replicate, arith, rules}
use Rattle.rules.specs.Limits.{most_orders}
use Rattle.std.proofs.lemmas.List.{length-take}
use Rattle.book.specs.Lists.{filled, remaining}
use Rattle.book.specs.Tables.{held}
use Rattle.book.proofs.Filling.{settled_front}
use Rattle.book.proofs.Shares.{resting-filled}
use Rattle.book.proofs.Sides.{sound_remaining}
use Rattle.book.proofs.table.OrderTable.fill.Goals as goal

pub returns : goal.returns
returns c =
    let t = c.args.self.now in
    let n = length-take t.count t.orders in
    let ys = c.settle-self.new.orders in
    let count = c.settle-self.result in
    let front : take count ys ≡ remaining (held t) c.fills-fills.result = search rules in
    let all : c.fills-fills.result ≡ filled c.args.volume (held t) ++ replicate (most_orders - length (held t)) 0 = search rules in
    let fewer : count ≤ length (held t) = search rules in
    let long : length ys ≡ length (held t) = search rules in
    let left = settled_front (held t) ys _ c.fills-fills.result _ c.args.volume count all front (omega arith) in
    record { left = left; resting = rw left (resting-filled c.args.volume (held t)); few = omega (arith, c.requires); sound = λ before keeps sound. rw left (sound_remaining before keeps (held t) (filled c.args.volume (held t)) sound) }
