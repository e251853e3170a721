use Rattle.std.proofs.Common.{◌≡◌, ◌<◌, length, take, ap, ◌∙◌, arith}
use Rattle.std.proofs.lemmas.List.{take_all}
use Rattle.book.specs.Lists.{remaining}
use Rattle.book.specs.Orders.{no_order}
use Rattle.book.proofs.Filling.{settle_keeps, settle_drops, remaining_front}
use Rattle.book.proofs.fills.settle.Goals as goal
use Rattle.book.proofs.fills.settle.Goals.{then-fill-order, else-fill-order}

pub loop-i-preserved : goal.loop-i-preserved
loop-i-preserved c =
    let xs = c.args.orders.now in
    let fs = c.args.fills.now in
    let ys = c.loop-i.orders in
    let lt : c.loop-i.i < length xs = omega arith in
    let lt' : c.loop-i.i < length fs = omega arith in
    let (low, front, rest) = c.loop-i.invariant in
    elim c.if-fill-order.branch [
      | then-fill-order w ↦ let next = settle_keeps xs ys fs c.loop-i.count c.loop-i.i no_order lt lt' c.loop-i.auto.orders low front rest w.if-fill-order.true in rw (w.count-is, w.orders-is) (omega arith, next.0, next.1)
      | else-fill-order w ↦ let next = settle_drops xs ys fs c.loop-i.count c.loop-i.i no_order lt lt' c.loop-i.auto.orders low front rest w.if-fill-order.false in rw (w.count-is, w.orders-is) (omega arith, next.0, next.1)
    ]

pub returns : goal.returns
returns c =
    let xs = c.args.orders.now in
    let fs = c.args.fills.now in
    let end : c.loop-i.i ≡ length xs = omega arith in
    record {
      left = c.loop-i.invariant.1 ∙ ap (λ k. remaining (take k xs) (take k fs)) end ∙ ap (λ l. remaining l (take (length xs) fs)) (take_all (length xs) xs (omega arith)) ∙ remaining_front xs fs (omega arith);
      fewer = omega (arith, c.loop-i.invariant.0);
    }
