use Rattle.std.proofs.Common.{◌≡◌, ◌+◌, ◌*◌, ◌≤◌, ◌++◌, length, take}
use Rattle.std.specs.List.{flat_map}
use Rattle.records.specs.Records.{spelled}
use Rattle.tape.proofs.writer.add_fields.Given as goal

abbrev pub invariant-loop-field : goal.invariant-loop-field
invariant-loop-field l = record {
  bytes : l.draft ≡ l.initial.draft ++ flat_map spelled (take l.field-index l.fields);
  bound : length l.draft ≤ length l.initial.draft + 4 * l.field-index;
}
