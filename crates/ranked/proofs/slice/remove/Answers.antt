use Rattle.std.proofs.Common.{arith}
use Rattle.std.proofs.lemmas.Grind.{common_steps}
use Rattle.ranked.proofs.Edits.{removal}
use Rattle.ranked.proofs.slice.remove.Goals as goal

pub returns : goal.returns
returns g c =
    let found = c.in_ok-item.ensures.lookup in
    let front = c.in_ok-get.ensures.lookup in
    removal c.args.slots.now c.copy_within.new.self c.args.count c.args.place c.in_ok-item.field-0.now (omega arith) (omega arith) (grind (arith, common_steps)) c.copy_within.ensures.after
