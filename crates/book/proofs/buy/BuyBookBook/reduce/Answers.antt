use Rattle.book.specs.Orders.{buys_before}
use Rattle.book.proofs.Sides.{buys_keep_rank}
use Rattle.book.proofs.buy.BuyBookBook.reduce.Goals as goal

pub invariant_of-self-clause-sound : goal.invariant_of-self-clause-sound
invariant_of-self-clause-sound c = c.reduce.ensures.sound buys_before buys_keep_rank c.args.self.now.sound
