-- The front of a table, where what stands at a place of it is written anew.
use Rattle.std.proofs.Common.{◌≡◌, ℕ, ◌-◌, ◌<◌, List, get_or, take, set, sym, ◌∙◌}
use Rattle.std.proofs.lemmas.List.{get_or-take}
use Rattle.std.proofs.Math.Seq.{take-set-lt}
use Rattle.book.specs.declared.order.Order.{Order}
use Rattle.book.specs.Lists.{At}
use Rattle.book.specs.Orders.{lessened, no_order}

-- the order has what is left of its quantity
pub reduced_held : (os : List Order) (count place by left : ℕ) (x : Order) → place < count → At place (take count os) x → left ≡ x.quantity - by → take count (set os place (record (get_or os place no_order) { quantity = left })) ≡ set (take count os) place (lessened x by)
reduced_held os count place by left x low there is =
    let same : get_or os place no_order ≡ x = sym (get_or-take count os place no_order low) ∙ there.1 no_order in
    rw (same, is) (take-set-lt count os place (lessened x by) low)
