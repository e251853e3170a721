use Rattle.std.proofs.Common.{[], ◌∷◌, ◌++◌, Ok, Err, vec_items, refl, ap, ◌∙◌}
use mathlib.Core.Path.{subst⁻¹}
use Rattle.std.proofs.lemmas.Result.{IfOk-weaker}
use Rattle.rules.specs.Refusals.{number}
use Rattle.tape.specs.Lines.{tape_refused_line}
use Rattle.tape.specs.Listings.{TheListing}
use Rattle.tape.specs.Listings.Listing.{unopened}
use Rattle.tape.proofs.Listed.{Sofar, one_more, at_end, at_fault, reads_as}
use Rattle.tape.proofs.OnlyText.{the_listing}
use Rattle.tape.proofs.listing.add_listing.Goals as goal

pub returns-in-Err : goal.returns-in-Err
returns-in-Err c =
    let tape = c.args.tape.now in
    let e = c.in-Err.refusal in
    let begun = ap (λ l. l ++ tape_refused_line (number e) 0) c.requires in
    IfOk-weaker c.add_fault.result _ _ (λ _ text. subst⁻¹ (TheListing tape) (text ∙ begun) (the_listing tape _ (unopened e c.in-Err.ensures.err))) c.add_fault.ensures

pub loop-record-preserved : goal.loop-record-preserved
loop-record-preserved c =
    let records = c.loop-record.invariant.listed.0 ++ (c.in-Ok-Some.record ∷ []) in
    let next = c.next_record.new.self.place in
    let reads = reads_as c.loop-record.reader.place next c.loop-record.invariant.same (ap (λ o. Ok o) c.in-Ok-Some.field-0-is) c.in-Ok-Some.ensures.reading.reads in
    let more = one_more c.args.tape.now _ _ _ c.loop-record.invariant.listed.1 c.in-Ok-Some.record next reads in
    let lists = subst⁻¹ (λ t. Sofar c.args.tape.now t next records) c.in_ok-add_record-in-Ok-Some.ensures more in
    record { same = c.in-Ok-Some.ensures.same ∙ c.loop-record.invariant.same; listed = (records, lists) }

pub returns-in-Ok-None : goal.returns-in-Ok-None
returns-in-Ok-None c =
    let tape = c.args.tape.now in
    let next = c.next_record.new.self.place in
    let reads = reads_as c.loop-record.reader.place next c.loop-record.invariant.same (ap (λ o. Ok o) c.in-Ok-None.field-0-is) c.in-Ok-None.ensures.reading.reads in
    the_listing tape _ (at_end tape _ _ _ c.loop-record.invariant.listed.1 next reads)

pub returns-in-Err-next_record : goal.returns-in-Err-next_record
returns-in-Err-next_record c =
    let tape = c.args.tape.now in
    let e = c.in-Err-next_record.refusal in
    let next = c.next_record.new.self.place in
    let reads = reads_as {a = Err e} c.loop-record.reader.place next c.loop-record.invariant.same refl c.in-Err-next_record.ensures.reading.reads in
    let here = ap (λ p. vec_items c.loop-record.text ++ tape_refused_line (number e) p) (c.place.ensures ∙ reads.2) in
    IfOk-weaker c.add_fault-in-Err-next_record.result _ _
    (λ _ text. subst⁻¹ (TheListing tape) (text ∙ here) (the_listing tape _ (at_fault tape _ _ _ c.loop-record.invariant.listed.1 e next reads)))
    c.add_fault-in-Err-next_record.ensures
