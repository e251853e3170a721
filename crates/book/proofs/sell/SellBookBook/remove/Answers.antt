use Rattle.book.specs.Orders.{sells_before}
use Rattle.book.proofs.sell.SellBookBook.remove.Goals as goal

pub invariant_of-self-clause-sound : goal.invariant_of-self-clause-sound
invariant_of-self-clause-sound c = c.remove.ensures.sound sells_before c.args.self.now.sound
