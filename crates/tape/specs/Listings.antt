-- The text that lists a tape. Assumes nothing.
use Rattle.std.specs.Prelude.{◌≡◌, ℕ, ◌+◌, ◌<◌, List, [], ◌∷◌, ◌++◌, length, ◌≢◌}
use Rattle.std.specs.List.{flat_map, AllByRecursion}
use Rattle.rules.specs.Refusals.{number}
use Rattle.rules.specs.declared.refusal.Refusal.{Refusal}
use Rattle.tape.specs.Lines.{listed_line, tape_refused_line}
use Rattle.records.specs.Records.{RecordFits, kind_of, spelling}
use Rattle.tape.specs.Tapes.{Faulty, NotOpened, TooLong, first_place, version}
use Rattle.records.specs.declared.Kind.TheVariants as kind
use Rattle.records.specs.declared.Record.{Record}

-- the first record is the group's, and no other is
abbrev pub GroupFirst : List Record → Type 0
GroupFirst [] = Unit {0}
GroupFirst (r ∷ records) = (kind_of r ≡ kind.Group) × AllByRecursion (λ s. kind_of s ≢ kind.Group) records

-- the tape is the version byte, these records spelled one after another, and the rest
pub record Holds (tape : List ℕ) (records : List Record) (rest : List ℕ) : Type 0 where
  pub spelled : tape ≡ version ∷ (flat_map spelling records ++ rest)
  pub fit : AllByRecursion RecordFits records
  pub ordered : GroupFirst records
  pub short : ¬ TooLong tape

-- the place behind these records
abbrev pub place_behind : List Record → ℕ
place_behind records = first_place + length (flat_map spelling records)

-- What is listed of a tape:
-- of one that is not opened, why;
-- of one without fault, a line for each record, and these records are the tape;
-- of any other, a line for each record before the fault, and then the fault and its place.
pub data Listing (tape : List ℕ) : List ℕ → Type 0 where
  unopened : (e : Refusal) → NotOpened tape e → Listing tape (tape_refused_line (number e) 0)
  whole : (records : List Record) → Holds tape records [] → Listing tape (flat_map listed_line records)
  faulty : (records : List Record) (rest : List ℕ) (e : Refusal) → Holds tape records rest → 0 < length rest → Faulty rest (place_behind records) e →
      Listing tape (flat_map listed_line records ++ tape_refused_line (number e) (place_behind records))

-- the text lists the tape, and no other text does
abbrev pub TheListing : List ℕ → List ℕ → Type 0
TheListing tape text = Listing tape text × ((other : List ℕ) → Listing tape other → other ≡ text)
