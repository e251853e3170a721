use Rattle.std.proofs.Common.{◌≡◌, ◌+◌, length}
use Rattle.fixing.proofs.Fronts.{UpTo}
use Rattle.fixing.proofs.walk.Sides.up_to.Given as goal

abbrev pub invariant-loop-order : goal.invariant-loop-order
invariant-loop-order l = (l.front.orders ≡ l.initial.front.orders + length l.yielded) × UpTo l.self.sells.now l.fn.price l.front.orders l.front.quantity
