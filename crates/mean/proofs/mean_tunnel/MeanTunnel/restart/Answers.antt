use Rattle.mean.proofs.Days.{range_by_what_counted}
use Rattle.mean.proofs.mean_tunnel.MeanTunnel.restart.Goals as goal

pub returns-clause-range_by_what_counted : goal.returns-clause-range_by_what_counted
returns-clause-range_by_what_counted c = range_by_what_counted
