use Rattle.std.proofs.Common.{take}
use Rattle.tunnel.specs.Trades.{Told}
use Rattle.tunnel.proofs.retell.tell_all.Given as goal

abbrev pub invariant-loop-trade : goal.invariant-loop-trade
invariant-loop-trade g l = Told g.T.Tunnel.tells l.initial.tunnel (take l.trade-index l.trades) l.tunnel
