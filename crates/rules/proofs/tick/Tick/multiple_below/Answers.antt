use Rattle.std.proofs.Common.{arith}
use Rattle.std.proofs.lemmas.Int.{ints, to_z-of_z}
use Rattle.rules.proofs.Rounding.{down_rounded}
use Rattle.rules.proofs.tick.Tick.multiple_below.Goals as goal

pub returns-clause-rounded : goal.returns-clause-rounded
returns-clause-rounded c =
    down_rounded c.args.self.value c.args.number _ c.args.self.within.0 (search (arith, ints, to_z-of_z, c.rem_euclid.ensures.value))
