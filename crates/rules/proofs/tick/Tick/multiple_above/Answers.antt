use Rattle.std.proofs.Common.{arith}
use Rattle.std.proofs.lemmas.Int.{ints, to_z-of_z}
use Rattle.rules.proofs.Rounding.{up_rounded}
use Rattle.rules.proofs.tick.Tick.multiple_above.Goals as goal

pub returns-clause-rounded : goal.returns-clause-rounded
returns-clause-rounded c =
    up_rounded c.args.self.value c.args.number _ c.args.self.within.0 (search (arith, ints, to_z-of_z, c.rem_euclid.ensures.value))
