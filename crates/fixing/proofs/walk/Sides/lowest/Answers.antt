use Rattle.std.proofs.Common.{sym, ap, inl, inr, arith}
use Rattle.book.specs.declared.order.Order.{Order}
use Rattle.book.specs.Orders.{no_order}
use Rattle.fixing.proofs.Walking.{last_there, last_missing, lowest_left}
use Rattle.fixing.proofs.walk.Sides.lowest.Goals as goal

pub returns-in-Some-Some : goal.returns-in-Some-Some
returns-in-Some-Some c =
    let buys = c.args.self.now.buys.now in
    let sells = c.args.self.now.sells.now in
    let (some, buy) = last_there buys c.args.above c.in-Some-Some.buy.now no_order c.requires (sym c.in-Some-Some.ensures.value) in
    let found = c.in-Some-Some.ensures'.lookup.3 in
    let own = ap (λ (x : Order). x.price) buy in
    let other = ap (λ (x : Order). x.price) (found.1 no_order) in
    let lt = found.0 in
    lowest_left buys sells c.args.above c.args.below _ no_order c.args.self.now.buyers.ranked c.args.self.now.sellers.ranked c.requires (λ _. omega (arith, c.min.ensures)) (λ _. omega (arith, c.min.ensures)) (grind arith)

pub returns-in-Some-None : goal.returns-in-Some-None
returns-in-Some-None c =
    let buys = c.args.self.now.buys.now in
    let (some, buy) = last_there buys c.args.above c.in-Some-None.buy.now no_order c.requires (sym c.in-Some-None.ensures.value) in
    let past = c.in-Some-None.ensures'.lookup.3 in
    let own = ap (λ (x : Order). x.price) buy in
    lowest_left buys c.args.self.now.sells.now c.args.above c.args.below _ no_order c.args.self.now.buyers.ranked c.args.self.now.sellers.ranked c.requires (λ _. omega arith) (λ there. absurd (omega arith)) (inl (some, own))

pub returns-in-None-Some : goal.returns-in-None-Some
returns-in-None-Some c =
    let buys = c.args.self.now.buys.now in
    let none = last_missing buys c.args.above c.requires (sym c.in-None-Some.ensures.value) in
    let found = c.in-None-Some.ensures'.lookup.3 in
    let other = ap (λ (x : Order). x.price) (found.1 no_order) in
    lowest_left buys c.args.self.now.sells.now c.args.above c.args.below _ no_order c.args.self.now.buyers.ranked c.args.self.now.sellers.ranked c.requires (λ there. absurd (omega arith)) (λ _. omega arith) (inr (found.0, sym other))
