use Rattle.std.proofs.Common.{◌+◌, drop, length-drop, ap, ◌∙◌, arith, rules, tests}
use Rattle.std.proofs.lemmas.Iterator.{YieldsList-from_slice}
use Rattle.std.proofs.lemmas.List.{take_all}
use Rattle.std.specs.Slice.Iter.{iter_rest}
use Rattle.book.specs.Orders.{sells_before}
use Rattle.fixing.specs.Volumes.{sell_counts}
use Rattle.fixing.proofs.Bounds.{resting_bound}
use Rattle.fixing.proofs.Fronts.{resting_front, up_start, up_more, up_end}
use Rattle.fixing.proofs.Passing.{passing_turn, passing_end}
use Rattle.fixing.proofs.walk.Sides.up_to.Goals as goal

pub loop-order-init : goal.loop-order-init
loop-order-init c =
    let (below, le, of) = c.requires in
    (omega arith, up_start c.args.self.now.sells.now c.args.price below c.args.front le of)

pub overflow_add-front-in-loop-order : goal.overflow_add-front-in-loop-order
overflow_add-front-in-loop-order c =
    let sells = c.args.self.now.sells.now in
    let behind = drop c.args.front.orders sells in
    let source = YieldsList-from_slice _ (ap iter_rest c.take_while-order-items.ensures.source ∙ c.iter-next.ensures.rest ∙ take_all _ behind (omega (arith, length-drop c.args.front.orders sells))) in
    let turn = passing_turn c.loop-order.yielded _ c.loop-order.yielded_by _ _ c.next.ensures.steps c.into_iter-order-iterator.ensures.into_iter_gives (sell_counts c.args.price) behind source c.take_while-order-items.ensures.closure c.take_while-order-items.ensures.done (λ x b q k. search (rules, tests)) c.in-Some.order c.in-Some.is in
    let more = up_more sells c.args.price c.args.front.orders _ c.loop-order.front.orders c.loop-order.front.quantity c.in-Some.order.now c.loop-order.invariant.1 c.loop-order.invariant.0 turn in
    omega (arith, more.1.1, resting_bound sells_before sells c.args.self.now.sellers, resting_front sells (c.loop-order.front.orders + 1))

pub returns : goal.returns
returns c =
    let sells = c.args.self.now.sells.now in
    let behind = drop c.args.front.orders sells in
    let source = YieldsList-from_slice _ (ap iter_rest c.take_while-order-items.ensures.source ∙ c.iter-next.ensures.rest ∙ take_all _ behind (omega (arith, length-drop c.args.front.orders sells))) in
    let stop = passing_end c.loop-order.yielded _ c.loop-order.yielded_by _ _ c.next.ensures.steps c.into_iter-order-iterator.ensures.into_iter_gives (sell_counts c.args.price) behind source c.take_while-order-items.ensures.closure c.take_while-order-items.ensures.done (λ x b q k. search (rules, tests)) c.in-None.is in
    up_end sells c.args.price c.args.front.orders _ c.loop-order.front c.args.self.now.sellers.ranked c.loop-order.invariant.1 c.loop-order.invariant.0 stop
