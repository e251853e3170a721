use Rattle.std.proofs.Common.{◌≡◌, ◌≤◌, take, drop}
use Rattle.book.specs.Lists.{remaining}
use Rattle.book.proofs.fills.settle.Given as goal

abbrev pub invariant-loop-i : goal.invariant-loop-i
invariant-loop-i l =
    (l.count ≤ l.i) × (take l.count l.orders ≡ remaining (take l.i l.initial.orders) (take l.i l.fills)) × (drop l.i l.orders ≡ drop l.i l.initial.orders)
