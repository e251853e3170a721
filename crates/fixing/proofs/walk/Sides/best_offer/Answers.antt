use Rattle.std.proofs.Common.{refl, arith}
use Rattle.book.specs.Orders.{buys_before}
use Rattle.fixing.proofs.Bounds.{fronts_bound, resting_bound, walk_starts}
use Rattle.fixing.proofs.Walking.{best_of_next, buyers_at_next, candidate_next, fewer_left, goes_up, walked_all}
use Rattle.fixing.proofs.walk.Sides.best_offer.Goals as goal

pub whole-left-requires : goal.whole-left-requires
whole-left-requires c = omega (arith, resting_bound buys_before c.args.self.now.buys.now c.args.self.now.buyers)

pub loop-price-init : goal.loop-price-init
loop-price-init c =
    (0, walk_starts c.args.self.now.buys.now c.args.self.now.sells.now c.args.base c.whole-left.result c.args.self.now.buyers c.args.self.now.sellers c.whole-left.ensures.orders c.whole-left.ensures.quantity)

pub up_to-done-requires : goal.up_to-done-requires
up_to-done-requires c =
    let (price, walked) = c.loop-price.invariant in
    let up = goes_up c.args.self.now.buys.now c.args.self.now.sells.now c.args.base price c.in-Some.price c.loop-price.left c.loop-price.done walked.buyers walked.sellers c.in-Some.ensures in
    (price, omega arith, walked.sellers)

pub above-left-requires : goal.above-left-requires
above-left-requires c =
    let (price, walked) = c.loop-price.invariant in
    buyers_at_next c.args.self.now.buys.now c.args.self.now.sells.now c.args.base price c.in-Some.price c.loop-price.left c.loop-price.done walked.buyers walked.sellers c.in-Some.ensures

pub loop-price-smaller : goal.loop-price-smaller
loop-price-smaller c =
    let (price, walked) = c.loop-price.invariant in
    fewer_left c.args.self.now.buys.now c.args.self.now.sells.now c.args.base price c.in-Some.price c.loop-price.left c.loop-price.done walked.buyers walked.sellers c.in-Some.ensures c.above-left.result c.up_to-done.result c.above-left.ensures c.up_to-done.ensures

pub loop-price-preserved : goal.loop-price-preserved
loop-price-preserved c =
    let buys = c.args.self.now.buys.now in
    let sells = c.args.self.now.sells.now in
    let next = c.in-Some.price in
    let left = c.loop-price.left in
    let done = c.loop-price.done in
    let (price, walked) = c.loop-price.invariant in
    let lowest = c.in-Some.ensures in
    let there = buyers_at_next buys sells c.args.base price next left done walked.buyers walked.sellers lowest in (
      next,
      record {
        buyers = c.above-left.ensures;
        sellers = c.up_to-done.ensures;
        found = best_of_next buys sells c.args.base price next left done walked.buyers walked.sellers lowest _ (record { candidate = candidate_next buys sells c.args.base price next left done walked.buyers walked.sellers lowest; demand = there.quantity; supply = c.up_to-done.ensures.quantity }) refl c.loop-price.best c.better.result walked.found c.better.ensures;
      },
    )

pub returns : goal.returns
returns c =
    let (price, walked) = c.loop-price.invariant in
    let none = c.in_default.ensures in
    walked_all c.args.self.now.buys.now c.args.self.now.sells.now c.args.base price c.loop-price.left c.loop-price.done walked.buyers walked.sellers none.0 none.1 c.loop-price.best walked.found

pub invariant_of-offer : goal.invariant_of-offer
invariant_of-offer c =
    let (price, walked) = c.loop-price.invariant in
    let there = buyers_at_next c.args.self.now.buys.now c.args.self.now.sells.now c.args.base price c.in-Some.price c.loop-price.left c.loop-price.done walked.buyers walked.sellers c.in-Some.ensures in
    record { bounded = fronts_bound c.args.self.now.buys.now c.args.self.now.sells.now c.in-Some.price c.loop-price.left c.up_to-done.result c.args.self.now.buyers c.args.self.now.sellers there c.up_to-done.ensures }
