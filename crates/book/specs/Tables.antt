-- The orders of a table. Assumes nothing.
use Rattle.std.specs.Prelude.{List, take}
use Rattle.book.specs.declared.order.Order.{Order}
use Rattle.book.specs.declared.table.OrderTable.{OrderTable}

-- the orders that it holds stand at its front
abbrev pub held : OrderTable → List Order
held t = take t.count t.orders
