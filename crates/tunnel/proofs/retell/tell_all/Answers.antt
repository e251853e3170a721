use Rattle.tunnel.proofs.Telling.{tally_is_what_counted}
use Rattle.tunnel.proofs.retell.tell_all.Goals as goal

pub returns-clause-tally_is_what_counted : goal.returns-clause-tally_is_what_counted
returns-clause-tally_is_what_counted g c = tally_is_what_counted g.T.Tunnel.tally g.T.Tunnel.starts g.T.Tunnel.tells g.met.T.Tunnel.day_starts_at_zero g.met.T.Tunnel.told_trade_adds_its_quantity g.met.T.Tunnel.other_trade_leaves_the_tally
