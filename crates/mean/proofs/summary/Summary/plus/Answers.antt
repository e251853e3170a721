use Rattle.std.proofs.Common.{◌∷◌, ◌∙◌, ap, refl, rules}
use mathlib.Core.Logic.{∥∥₁_map}
use Rattle.mean.specs.Averages.{together, totals}
use Rattle.mean.proofs.Centres.{grown}
use Rattle.mean.proofs.summary.Summary.plus.Goals as goal

pub returns-clause-remembers : goal.returns-clause-remembers
returns-clause-remembers c = λ settlement told r.
    let same = ap (together (totals c.args.self.current)) c.of-traded.ensures in
    grown settlement c.args.self _ c.args.trade told r (search rules) c.max.ensures (λ h. c.told_with.ensures.latest h ∙ same) (search rules) c.centre.ensures refl

pub returns-clause-some : goal.returns-clause-some
returns-clause-some c = λ settlement some. ∥∥₁_map some (λ p. (c.args.trade ∷ p.0, returns-clause-remembers c settlement p.0 p.1))
