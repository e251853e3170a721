-- The record that begins here, by what its length counts. Assumes nothing.
use Rattle.std.proofs.Common.{◌≡◌, ℕ, ◌+◌, ◌-◌, ◌<◌, List, ◌++◌, length, get_or, take, drop, ap, ◌∙◌, arith, rules, take-append-drop}
use Rattle.std.specs.List.{flat_map}
use Rattle.std.proofs.lemmas.List.{drop-drop}
use Rattle.std.proofs.lemmas.Grind.{common_steps}
use Rattle.std.proofs.lemmas.Slice.{first_rest}
use Rattle.records.specs.Bytes.{big_endian}
use Rattle.records.specs.Records as records
use Rattle.records.specs.Records.{letter_of, length_of, kind_of, fields_of, spelled, spelling}
use Rattle.tape.specs.Tapes.{stated, CutShort}
use Rattle.records.specs.declared.Record.{Record}
use Rattle.records.proofs.Numbers.{Bytes, spelled_number}

module _ (rest body : List ℕ) (whole : CutShort rest → ⊥) (is : body ≡ take (stated rest) (drop 2 rest)) where
  counts : length body ≡ stated rest
  counts = grind (arith, common_steps)

  -- the length, what it counts, and what follows
  split : Bytes rest → rest ≡ big_endian 2 (length body) ++ body ++ drop (2 + length body) rest
  split bytes =
      let two = spelled_number 2 rest bytes (omega (arith, whole)) in
      let number = counts in
      search (rules, take-append-drop, drop-drop)

  -- a record whose letter begins what the length counts, and whose fields follow
  module _ (r : Record) (some : 0 < length body) (letter : letter_of (kind_of r) ≡ get_or body 0 0) (behind : take (length body - 1) (drop 1 body) ≡ flat_map spelled (fields_of r)) where
    body_is : body ≡ records.body r
    body_is = search (rules, first_rest)

    pub spelled_length : 2 + length body ≡ length (spelling r)
    spelled_length = let same = body_is in search rules

    pub spelled_whole : Bytes rest → rest ≡ spelling r ++ drop (2 + length body) rest
    spelled_whole bytes = split bytes ∙ ap (λ l. big_endian 2 (length l) ++ l ++ drop (2 + length body) rest) body_is
