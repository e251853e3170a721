use Rattle.book.specs.Orders.{buys_before}
use Rattle.book.proofs.buy.BuyBookBook.remove.Goals as goal

pub invariant_of-self-clause-sound : goal.invariant_of-self-clause-sound
invariant_of-self-clause-sound c = c.remove.ensures.sound buys_before c.args.self.now.sound
