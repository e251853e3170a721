use Rattle.book.specs.Orders.{sells_before}
use Rattle.book.proofs.Sides.{sells_keep_rank}
use Rattle.book.proofs.sell.SellBookBook.fill.Goals as goal

pub invariant_of-self-clause-sound : goal.invariant_of-self-clause-sound
invariant_of-self-clause-sound c = c.fill.ensures.sound sells_before sells_keep_rank c.args.self.now.sound
