-- What stands on a tape, and when it is refused. Assumes nothing.
use Rattle.std.specs.Prelude.{◌≡◌, ℕ, ◌+◌, ◌<◌, ◌≤◌, ◌⊎◌, ◌↔◌, List, [], ◌∷◌, ◌++◌, length, take, drop, Some, None, Ok, Err, Option, Result, ◌≢◌, slice_index}
use Rattle.std.specs.List.{flat_map}
use Rattle.std.specs.Int.Digits.{number_from_digits}
use Rattle.rules.specs.Limits.{most_tape_bytes}
use Rattle.rules.specs.declared.refusal.Refusal.{Refusal}
use Rattle.rules.specs.declared.refusal.Refusal.TheVariants as refusal
use Rattle.records.specs.Records.{RecordFits, kind_of, letter_of, length_of, spelling}
use Rattle.records.specs.declared.Kind.{Kind}
use Rattle.records.specs.declared.Kind.TheVariants as kind
use Rattle.records.specs.declared.Record.{Record}

-- the byte that a tape begins with
abbrev pub version : ℕ
version = 1

-- the place of the first record, behind the version byte
abbrev pub first_place : ℕ
first_place = 1

-- the tape begins with the version byte
abbrev pub Versioned : List ℕ → Type 0
Versioned tape = take 1 tape ≡ version ∷ []

abbrev pub TooLong : List ℕ → Type 0
TooLong tape = most_tape_bytes < length tape

-- why a tape is not opened
abbrev pub NotOpened : List ℕ → Refusal → Type 0
NotOpened tape e = ((e ≡ refusal.NoVersionByte) × ¬ Versioned tape) ⊎ ((e ≡ refusal.TapeTooLong) × Versioned tape × TooLong tape)

-- Below, `rest` is what the tape holds from the place on where a record should begin.

-- the length that the first two bytes state
abbrev pub stated : List ℕ → ℕ
stated rest = number_from_digits 256 (take 2 rest)

-- the two bytes of the length, or what the length counts, are not all there
abbrev pub CutShort : List ℕ → Type 0
CutShort rest = length rest < 2 + stated rest

abbrev pub kind_letter : List ℕ → ℕ
kind_letter rest = slice_index rest 2

-- the group's record stands first, and no other record does
abbrev pub MayStand : ℕ → Kind → Type 0
MayStand place k = (place ≡ first_place) ↔ (k ≡ kind.Group)

-- length 0, a letter of no kind, a first record that is no group's, or a group's that is not first
abbrev pub NoneOfThisKind : ℕ → List ℕ → Type 0
NoneOfThisKind place rest = (stated rest ≡ 0) ⊎ ((k : Kind) → letter_of k ≡ kind_letter rest → ¬ MayStand place k)

-- no record of this kind has the length
abbrev pub LengthWrong : List ℕ → Type 0
LengthWrong rest = (k : Kind) → letter_of k ≡ kind_letter rest → length_of k ≢ stated rest

-- why the record that should begin at the place is refused: the first of three reasons
abbrev pub Faulty : List ℕ → ℕ → Refusal → Type 0
Faulty rest place e =
    ((e ≡ refusal.RecordCutShort) × CutShort rest) ⊎
    (((e ≡ refusal.NoRecordOfThisKindHere) × ¬ CutShort rest × NoneOfThisKind place rest) ⊎
    ((e ≡ refusal.LengthWrongForKind) × ¬ CutShort rest × ¬ NoneOfThisKind place rest × LengthWrong rest))

-- the tape holds the record at the place, and goes on at another
abbrev pub Stands : List ℕ → ℕ → Record → ℕ → Type 0
Stands tape place r next = RecordFits r × MayStand place (kind_of r) × (next ≡ place + length (spelling r)) × (drop place tape ≡ spelling r ++ drop next tape)

-- what a reader at the place answers, and the place where it stands then
abbrev pub Reads : List ℕ → ℕ → Result (Option Record) Refusal → ℕ → Type 0
Reads tape place (Ok None) next = (length tape ≤ place) × (next ≡ place)
Reads tape place (Ok (Some r)) next = Stands tape place r next
Reads tape place (Err e) next = (place < length tape) × Faulty (drop place tape) place e × (next ≡ place)

-- up to the place, the tape is the version byte and these records, spelled one after another
abbrev pub ReadUpTo : List ℕ → ℕ → List Record → Type 0
ReadUpTo tape place records = take place tape ≡ version ∷ flat_map spelling records
