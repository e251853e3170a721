use Rattle.std.proofs.Common.{◌+◌, ◌++◌, length, take, drop, sym, refl, ap, ◌∙◌, subst, arith, rules}
use Rattle.std.proofs.lemmas.List.{take_rest, drop-drop, get_or-drop}
use Rattle.records.specs.Records.{letter_of, spelling}
use Rattle.records.proofs.Numbers.{Bytes}
use Rattle.tape.specs.Tapes.{CutShort, MayStand, stated}
use Rattle.tape.proofs.Framed.{spelled_length, spelled_whole}
use Rattle.tape.proofs.reader.record_at.Goals as goal

pub returns-clause-ok : goal.returns-clause-ok
returns-clause-ok c =
    let tape = c.args.tape.now in
    let place = c.args.place in
    let rest = drop place tape in
    let same = take_rest tape place in
    let body = c.in_ok-body.body.now in
    let whole = subst (λ l. CutShort l → ⊥) same c.in_ok-body.ensures.whole in
    let is = c.in_ok-body.ensures.body ∙ ap (λ l. take (stated l) (drop 2 l)) same in
    let told = c.in_ok-kind.ensures in
    let r = c.record.result in
    let read = c.record.ensures in
    let small : Bytes tape = λ i. search rules in
    let bytes : Bytes rest = λ i. omega (arith, get_or-drop place tape i 0, small (place + i)) in
    let letter = ap letter_of read.kind ∙ told.letter in
    let long = spelled_length rest body whole is r told.some letter read.fields in
    let behind = drop-drop (2 + length body) place tape ∙ ap (λ n. drop (place + n) tape) long in
    let spelled = spelled_whole rest body whole is r told.some letter read.fields bytes in
    (read.fits, subst (MayStand place) (sym read.kind) told.stands, refl, spelled ∙ ap (λ l. spelling r ++ l) behind)
