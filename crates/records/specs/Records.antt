-- How a record is spelled on the tape. Assumes nothing.
use Rattle.std.specs.Prelude.{ℕ, ◌^◌, ◌<◌, List, [], ◌∷◌, ◌++◌, length, FitsSigned, ◌≡◌, ◌≢◌, Result, MatchResult}
use Rattle.std.specs.Int.{cast_unsigned, w32}
use Rattle.std.specs.List.{flat_map, AllByRecursion}
use Rattle.records.specs.Bytes.{big_endian}
use Rattle.records.specs.declared.Bands.{Bands}
use Rattle.records.specs.declared.Field.{Field}
use Rattle.records.specs.declared.Field.TheVariants.{Byte, Two, Four, Band, Form}
use Rattle.records.specs.declared.Kind.{Kind}
use Rattle.records.specs.declared.Kind.TheVariants as kind
use Rattle.records.specs.declared.NoSuchLetter.{NoSuchLetter}
use Rattle.records.specs.declared.Record.{Record}
use Rattle.records.specs.declared.Record.TheVariants as rec

-- the letter of each kind: G, B, S, A, X, L and T
abbrev pub letter_of : Kind → ℕ
letter_of kind.Group = 71
letter_of kind.Buy = 66
letter_of kind.Sell = 83
letter_of kind.Amendment = 65
letter_of kind.Cancellation = 88
letter_of kind.AuctionCall = 76
letter_of kind.Clock = 84

-- the answer is the kind with this letter, or an error with a letter that no kind has
abbrev pub IsKindOfLetter : ℕ → Result Kind NoSuchLetter → Type 0
IsKindOfLetter letter answer = MatchResult answer (λ k. letter_of k ≡ letter) (λ e. (e.0 ≡ letter) × ((k : Kind) → letter_of k ≢ letter))

abbrev pub kind_of : Record → Kind
kind_of (rec.Group g) = kind.Group
kind_of (rec.Buy e) = kind.Buy
kind_of (rec.Sell e) = kind.Sell
kind_of (rec.Amendment a) = kind.Amendment
kind_of (rec.Cancellation x) = kind.Cancellation
kind_of rec.AuctionCall = kind.AuctionCall
kind_of (rec.Clock t) = kind.Clock

abbrev pub band_fields : Bands → List Field
band_fields b = Band b.buy_low ∷ Band b.buy_high ∷ Band b.sell_low ∷ Band b.sell_high ∷ Band b.auction_low ∷ Band b.auction_high ∷ []

-- the fields of a record in the order of the tape
abbrev pub fields_of : Record → List Field
fields_of (rec.Group g) = Four g.tick ∷ Four g.greatest_quantity ∷ Byte g.liquid ∷ Four g.settlement ∷ Form g.form ∷ band_fields g.bands
fields_of (rec.Buy e) = Two e.member ∷ Four e.price ∷ Four e.quantity ∷ []
fields_of (rec.Sell e) = Two e.member ∷ Four e.price ∷ Four e.quantity ∷ []
fields_of (rec.Amendment a) = Two a.member ∷ Four a.number ∷ Four a.price ∷ Four a.quantity ∷ []
fields_of (rec.Cancellation x) = Two x.member ∷ Four x.number ∷ []
fields_of rec.AuctionCall = []
fields_of (rec.Clock t) = Four t.second ∷ Two t.draw ∷ []

-- no record has more fields than the group's
abbrev pub most_fields : ℕ
most_fields = 11

-- a field in bytes; a band is in two's complement
abbrev pub spelled : Field → List ℕ
spelled (Byte n) = big_endian 1 n
spelled (Two n) = big_endian 2 n
spelled (Four n) = big_endian 4 n
spelled (Band z) = big_endian 4 (cast_unsigned w32 z)
spelled (Form n) = big_endian 1 n

-- what a record's length counts: the letter and the fields
abbrev pub body : Record → List ℕ
body r = letter_of (kind_of r) ∷ flat_map spelled (fields_of r)

-- a record on the tape: the length in two bytes, and what it counts
abbrev pub spelling : Record → List ℕ
spelling r = big_endian 2 (length (body r)) ++ body r

-- the length that the records of a kind have
abbrev pub length_of : Kind → ℕ
length_of kind.Group = 39
length_of kind.Buy = 11
length_of kind.Sell = 11
length_of kind.Amendment = 15
length_of kind.Cancellation = 7
length_of kind.AuctionCall = 1
length_of kind.Clock = 7

-- a field within the width that it has on the tape
abbrev pub FieldFits : Field → Type 0
FieldFits (Byte n) = n < 2 ^ 8
FieldFits (Two n) = n < 2 ^ 16
FieldFits (Four n) = n < 2 ^ 32
FieldFits (Band z) = FitsSigned w32 z
FieldFits (Form n) = n < 2 ^ 8

-- every field of the record is within its width, as those of every record that the code holds are
abbrev pub RecordFits : Record → Type 0
RecordFits r = AllByRecursion FieldFits (fields_of r)
