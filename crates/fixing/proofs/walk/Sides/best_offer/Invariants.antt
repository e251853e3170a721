use Rattle.std.proofs.Common.{ℕ, ◌+◌, ◌-◌, length}
use Rattle.fixing.specs.Walks.{WalkedTo}
use Rattle.fixing.proofs.walk.Sides.best_offer.Given as goal

abbrev pub invariant-loop-price : goal.invariant-loop-price
invariant-loop-price l = (price : ℕ) × WalkedTo l.self.buys.now l.self.sells.now l.base price l.left l.done l.best

abbrev pub decreases-loop-price : goal.decreases-loop-price
decreases-loop-price l = l.left.orders + (length l.self.sells.now - l.done.orders)
