use Rattle.std.proofs.Common.{◌≡◌, ◌-◌, ◌<◌, ◌++◌, length, replicate, ap, ◌∙◌, arith, rules}
use Rattle.rules.specs.Limits.{most_orders}
use Rattle.std.proofs.lemmas.List.{take_all}
use Rattle.book.specs.Lists.{filled}
use Rattle.book.specs.Orders.{no_order}
use Rattle.book.proofs.Filling.{length-filled, fill_more}
use Rattle.book.proofs.Shares.{fills_in_front}
use Rattle.book.proofs.fills.fills.Goals as goal

pub loop-i-preserved : goal.loop-i-preserved
loop-i-preserved c =
    let lt : c.loop-i.i < length c.args.orders.now = search rules in
    let next = fill_more c.args.volume c.loop-i.left most_orders c.args.orders.now c.loop-i.fills c.loop-i.i no_order lt c.requires c.loop-i.invariant.1 c.loop-i.invariant.2 in
    (omega arith, rw c.min-fill.ensures next.0, rw c.min-fill.ensures next.1)

pub returns : goal.returns
returns c =
    let n = length-filled c.args.volume c.args.orders.now in
    let end : c.loop-i.i ≡ length c.args.orders.now = omega arith in
    let value = c.loop-i.invariant.1 ∙ ap (λ l. l ++ replicate (most_orders - c.loop-i.i) 0) (take_all c.loop-i.i (filled c.args.volume c.args.orders.now) (omega arith)) ∙ ap (λ k. filled c.args.volume c.args.orders.now ++ replicate (most_orders - k) 0) end in
    record { value = value; by_rank = fills_in_front c.args.volume c.args.orders.now _ _ value }
