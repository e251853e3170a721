use Rattle.std.proofs.Common.{◌≡◌, ◌+◌, length}
use Rattle.fixing.proofs.Fronts.{Above}
use Rattle.fixing.proofs.walk.Sides.above.Given as goal

abbrev pub invariant-loop-order : goal.invariant-loop-order
invariant-loop-order l = (l.front.orders + length l.yielded ≡ l.initial.front.orders) × Above l.self.buys.now l.fn.price l.front.orders l.front.quantity
