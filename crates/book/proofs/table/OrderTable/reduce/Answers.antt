use Rattle.std.proofs.Common.{◌≡◌, ◌<◌, ltb, length, set, sym, ◌∙◌, arith, rules}
use Rattle.std.proofs.lemmas.Bool.{cond-true, lt-ltb}
use Rattle.std.proofs.lemmas.List.{length-take}
use Rattle.std.specs.List.{remove}
use Rattle.rules.specs.Limits.{most_orders}
use Rattle.book.specs.Lists.{At}
use Rattle.book.specs.Orders.{lessened}
use Rattle.book.specs.Tables.{held}
use Rattle.book.proofs.Places.{reduced_held}
use Rattle.book.proofs.Sides.{sound_lessened}
use Rattle.book.proofs.table.OrderTable.reduce.Goals as goal

pub returns-then-left-eq0-clause-sound : goal.returns-then-left-eq0-clause-sound
returns-then-left-eq0-clause-sound c = λ before keeps sound. c.remove.ensures.sound before sound

pub returns-else-left-eq0 : goal.returns-else-left-eq0
returns-else-left-eq0 c =
    let t = c.args.self.now in
    let x = c.in_ok-order.order.now in
    let found = c.in_ok-order.ensures.lookup in
    let left = c.in_ok-left.ensures in
    let long : length t.orders ≡ most_orders = search rules in
    let there : At c.args.place (held t) x = rw (← c.orders.ensures) (found.3.0, λ d. sym (found.3.1 d)) in
    let less : c.args.by < x.quantity = omega arith in
    let written = reduced_held t.orders t.count c.args.place c.args.by c.in_ok-left.left x (omega (arith, there.0, length-take t.count t.orders)) there left.1 in
    record {
      answer = (x, there, left.0, left.1, written ∙ sym (cond-true (ltb c.args.by x.quantity) (set (held t) c.args.place (lessened x c.args.by)) (remove (held t) c.args.place) (lt-ltb _ _ less)));
      few = c.requires;
      sound = λ before keeps sound. rw written (sound_lessened (held t) c.args.place c.args.by x there before keeps less sound);
    }
