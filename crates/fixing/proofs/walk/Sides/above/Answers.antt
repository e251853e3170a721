use Rattle.std.proofs.Common.{take, reverse, ap, ◌∙◌, arith, rules, tests}
use Rattle.std.proofs.lemmas.Iterator.Adapters.{YieldsList-from_rev_slice}
use Rattle.std.proofs.lemmas.List.{length_push}
use Rattle.std.specs.Slice.Iter.{iter_rest}
use Rattle.std.specs.Iterator.Adapters.{rev_source}
use Rattle.fixing.specs.Volumes.{sell_counts}
use Rattle.fixing.proofs.Fronts.{above_start, above_less, above_end}
use Rattle.fixing.proofs.Passing.{passing_turn, passing_end}
use Rattle.fixing.proofs.walk.Sides.above.Goals as goal

pub loop-order-init : goal.loop-order-init
loop-order-init c = (omega arith, above_start c.args.self.now.buys.now c.args.price c.args.front c.requires)

pub loop-order-preserved : goal.loop-order-preserved
loop-order-preserved c =
    let buys = c.args.self.now.buys.now in
    let first = take c.args.front.orders buys in
    let source = YieldsList-from_rev_slice first (ap (λ s. iter_rest (rev_source s)) c.take_while-order-items.ensures.source ∙ ap iter_rest c.rev-last.ensures.source ∙ c.iter.ensures.rest) in
    let turn = passing_turn c.loop-order.yielded _ c.loop-order.yielded_by _ _ c.next.ensures.steps c.into_iter-order-iterator.ensures.into_iter_gives (sell_counts c.args.price) (reverse first) source c.take_while-order-items.ensures.closure c.take_while-order-items.ensures.done (λ x b q k. search (rules, tests)) c.in-Some.order c.in-Some.is in
    let less = above_less buys c.args.price c.args.front.orders _ c.loop-order.front.orders c.loop-order.front.quantity c.in-Some.order.now c.loop-order.invariant.1 c.requires.fits c.loop-order.invariant.0 turn in
    let some = less.0 in
    (omega (arith, length_push c.loop-order.yielded c.in-Some.order), less.2)

pub returns : goal.returns
returns c =
    let buys = c.args.self.now.buys.now in
    let first = take c.args.front.orders buys in
    let source = YieldsList-from_rev_slice first (ap (λ s. iter_rest (rev_source s)) c.take_while-order-items.ensures.source ∙ ap iter_rest c.rev-last.ensures.source ∙ c.iter.ensures.rest) in
    let stop = passing_end c.loop-order.yielded _ c.loop-order.yielded_by _ _ c.next.ensures.steps c.into_iter-order-iterator.ensures.into_iter_gives (sell_counts c.args.price) (reverse first) source c.take_while-order-items.ensures.closure c.take_while-order-items.ensures.done (λ x b q k. search (rules, tests)) c.in-None.is in
    above_end buys c.args.price c.args.front.orders _ c.loop-order.front c.args.self.now.buyers.ranked c.loop-order.invariant.1 c.requires.fits c.loop-order.invariant.0 stop
