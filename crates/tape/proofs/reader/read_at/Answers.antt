use Rattle.std.proofs.Common.{◌≡◌, ◌+◌, length, Some, Ok, sym, subst, arith}
use Rattle.records.specs.Records.{spelling}
use Rattle.tape.specs.Tapes.{Stands}
use Rattle.tape.proofs.Laws.{reading}
use Rattle.tape.proofs.reader.read_at.Goals as goal

pub returns-in-Ok : goal.returns-in-Ok
returns-in-Ok c =
    let tape = c.args.tape.now in
    let place = c.args.place in
    let r = c.in-Ok.record in
    let next = place + 2 + c.length.result in
    let moved : place + length (spelling r) ≡ next = omega (arith, c.length.ensures.every r (sym c.kind.ensures)) in
    reading tape place (Ok (Some r)) next (subst (Stands tape place r) moved c.in-Ok.ensures.ok)
