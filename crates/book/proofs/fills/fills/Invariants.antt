use Rattle.std.proofs.Common.{◌≡◌, ◌-◌, ◌≤◌, ◌++◌, length, take, drop, replicate}
use Rattle.rules.specs.Limits.{most_orders}
use Rattle.book.specs.Lists.{filled}
use Rattle.book.proofs.fills.fills.Given as goal

abbrev pub invariant-loop-i : goal.invariant-loop-i
invariant-loop-i l =
    (l.i ≤ length l.orders) × (l.fills ≡ take l.i (filled l.volume l.orders) ++ replicate (most_orders - l.i) 0) × (filled l.left (drop l.i l.orders) ≡ drop l.i (filled l.volume l.orders))
