-- Each kind has a letter of its own, and one length. Assumes nothing.
use Rattle.std.proofs.Common.{◌≡◌, length, rules}
use Rattle.records.specs.Records.{letter_of, length_of, kind_of, body}
use Rattle.records.specs.declared.Kind.{Kind}
use Rattle.records.specs.declared.Record.{Record}

pub same_kind : (j k : Kind) → letter_of j ≡ letter_of k → j ≡ k
same_kind j k e = search rules

pub body_length : (r : Record) → length (body r) ≡ length_of (kind_of r)
body_length r = search rules
