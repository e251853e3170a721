use Rattle.fixing.proofs.theoretical.theoretical_result.Goals as goal

pub returns : goal.returns
returns c = rw (c.orders.ensures, c.orders-2.ensures) at c.theoretical.ensures
