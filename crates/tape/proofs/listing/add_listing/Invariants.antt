use Rattle.std.proofs.Common.{◌≡◌, ◌-◌, List, length, vec_items}
use Rattle.records.specs.declared.Record.{Record}
use Rattle.tape.proofs.Listed.{Sofar}
use Rattle.tape.proofs.listing.add_listing.Given as goal

abbrev pub invariant-loop-record : goal.invariant-loop-record
invariant-loop-record l = record {
  same : l.reader.tape ≡ l.tape;
  listed : (records : List Record) × Sofar l.tape (vec_items l.text) l.reader.place records;
}

abbrev pub decreases-loop-record : goal.decreases-loop-record
decreases-loop-record l = length l.tape - l.reader.place
