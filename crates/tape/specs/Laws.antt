-- What holds of every tape and every record. Assumes nothing.
use Rattle.std.specs.Prelude.{◌≡◌, ℕ, ◌+◌, ◌-◌, List, [], ◌∷◌, ◌++◌, length, take, drop, Some, None, Ok, Err, Option, Result}
use Rattle.std.specs.List.{flat_map}
use Rattle.rules.specs.declared.refusal.Refusal.{Refusal}
use Rattle.records.specs.Records.{RecordFits, kind_of, spelling}
use Rattle.tape.specs.Tapes.{MayStand, Reads, ReadUpTo, version}
use Rattle.records.specs.declared.Record.{Record}

-- the answer and the next place are the only ones that the rules allow
abbrev pub OnlyAnswer : List ℕ → ℕ → Result (Option Record) Refusal → ℕ → Type 0
OnlyAnswer tape place answer next = (a : Result (Option Record) Refusal) (n : ℕ) → Reads tape place a n → (a ≡ answer) × (n ≡ next)

-- wherever the record's spelling stands on a tape, at a place where such a record may stand, reading there gives the record
abbrev pub ReadsBack : Record → Type 0
ReadsBack r =
    (before after : List ℕ) (a : Result (Option Record) Refusal) (n : ℕ) → MayStand (length before) (kind_of r) →
    Reads (before ++ (spelling r ++ after)) (length before) a n → (a ≡ Ok (Some r)) × (n ≡ length before + length (spelling r))

-- no other record is spelled as this one is
abbrev pub SpelledAlone : Record → Type 0
SpelledAlone r = (s : Record) → RecordFits s → spelling s ≡ spelling r → s ≡ r

-- a record that was read is spelled by just the bytes that the reader passed
abbrev pub WritesBack : List ℕ → ℕ → Result (Option Record) Refusal → ℕ → Type 0
WritesBack tape place answer next = (r : Record) → answer ≡ Ok (Some r) → take (next - place) (drop place tape) ≡ spelling r

-- the records that a reader gave so far, and the one that it gave now
abbrev pub given : List Record → Result (Option Record) Refusal → List Record
given records (Ok None) = records
given records (Ok (Some r)) = records ++ (r ∷ [])
given records (Err e) = records

-- Up to its place, the tape is the version byte and the records that the reader gave, spelled one after another.
-- Where the reader answers that there is no further record, that is the whole tape.
abbrev pub GoesOn : List ℕ → ℕ → Result (Option Record) Refusal → ℕ → Type 0
GoesOn tape place answer next =
    (records : List Record) → ReadUpTo tape place records → ReadUpTo tape next (given records answer) × (answer ≡ Ok None → tape ≡ version ∷ flat_map spelling records)

-- all that is promised of one reading
pub record Reading (tape : List ℕ) (place : ℕ) (answer : Result (Option Record) Refusal) (next : ℕ) : Type 0 where
  pub reads : Reads tape place answer next
  pub only : OnlyAnswer tape place answer next
  pub written : WritesBack tape place answer next
  pub goes_on : GoesOn tape place answer next
