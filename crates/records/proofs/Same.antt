-- The derived comparisons tell whether two values are the same. Assumes nothing.
use Rattle.std.proofs.Common.{◌≡◌, Decides, refl, ap, rules}
use Rattle.std.proofs.lemmas.Bool.Decides.{Decides-eqb, Decides-int_eq, Decides-and, Decides-like}
use Rattle.records.specs.declared.Amendment.{Amendment}
use Rattle.records.specs.declared.Bands.{Bands}
use Rattle.records.specs.declared.Cancellation.{Cancellation}
use Rattle.records.specs.declared.Clock.{Clock}
use Rattle.records.specs.declared.Entry.{Entry}
use Rattle.records.specs.declared.Field.{Field}
use Rattle.records.specs.declared.Group.{Group}
use Rattle.records.specs.declared.Kind.{Kind}
use Rattle.records.specs.declared.NoSuchLetter.{NoSuchLetter}
use Rattle.records.specs.declared.Record.{Record}
use Rattle.records.specs.declared.Record.TheVariants as rec
use Rattle.records.specs.contracts.AmendmentPartialEq.TheImpl as amendment_eq
use Rattle.records.specs.contracts.BandsPartialEq.TheImpl as bands_eq
use Rattle.records.specs.contracts.CancellationPartialEq.TheImpl as cancellation_eq
use Rattle.records.specs.contracts.ClockPartialEq.TheImpl as clock_eq
use Rattle.records.specs.contracts.EntryPartialEq.TheImpl as entry_eq
use Rattle.records.specs.contracts.FieldPartialEq.TheImpl as field_eq
use Rattle.records.specs.contracts.GroupPartialEq.TheImpl as group_eq
use Rattle.records.specs.contracts.KindPartialEq.TheImpl as kind_eq
use Rattle.records.specs.contracts.NoSuchLetterPartialEq.TheImpl as no_such_letter_eq
use Rattle.records.specs.contracts.RecordPartialEq.TheImpl as record_eq

pub bands_decided : (x y : Bands) → Decides ((bands_eq.ghosts).eq x y) (x ≡ y)
bands_decided x y =
    Decides-like _
    (λ h. λ i. record { buy_low = h.0 i; buy_high = h.1.0 i; sell_low = h.1.1.0 i; sell_high = h.1.1.1.0 i; auction_low = h.1.1.1.1.0 i; auction_high = h.1.1.1.1.1 i })
    (λ e. (ap (λ b. b.buy_low) e, (ap (λ b. b.buy_high) e, (ap (λ b. b.sell_low) e, (ap (λ b. b.sell_high) e, (ap (λ b. b.auction_low) e, ap (λ b. b.auction_high) e))))))
    (Decides-and _ _ (Decides-int_eq x.buy_low y.buy_low) (Decides-and _ _ (Decides-int_eq x.buy_high y.buy_high) (Decides-and _ _ (Decides-int_eq x.sell_low y.sell_low) (Decides-and _ _ (Decides-int_eq x.sell_high y.sell_high) (Decides-and _ _ (Decides-int_eq x.auction_low y.auction_low) (Decides-int_eq x.auction_high y.auction_high))))))

pub group_decided : (x y : Group) → Decides ((group_eq.ghosts).eq x y) (x ≡ y)
group_decided x y =
    Decides-like _
    (λ h. λ i. record { tick = h.0 i; greatest_quantity = h.1.0 i; liquid = h.1.1.0 i; settlement = h.1.1.1.0 i; form = h.1.1.1.1.0 i; bands = h.1.1.1.1.1 i })
    (λ e. (ap (λ g. g.tick) e, (ap (λ g. g.greatest_quantity) e, (ap (λ g. g.liquid) e, (ap (λ g. g.settlement) e, (ap (λ g. g.form) e, ap (λ g. g.bands) e))))))
    (Decides-and _ _ (Decides-eqb x.tick y.tick) (Decides-and _ _ (Decides-eqb x.greatest_quantity y.greatest_quantity) (Decides-and _ _ (Decides-eqb x.liquid y.liquid) (Decides-and _ _ (Decides-eqb x.settlement y.settlement) (Decides-and _ _ (Decides-eqb x.form y.form) (bands_decided x.bands y.bands))))))

pub entry_decided : (x y : Entry) → Decides ((entry_eq.ghosts).eq x y) (x ≡ y)
entry_decided x y = search rules

pub amendment_decided : (x y : Amendment) → Decides ((amendment_eq.ghosts).eq x y) (x ≡ y)
amendment_decided x y = search rules

pub cancellation_decided : (x y : Cancellation) → Decides ((cancellation_eq.ghosts).eq x y) (x ≡ y)
cancellation_decided x y = search rules

pub clock_decided : (x y : Clock) → Decides ((clock_eq.ghosts).eq x y) (x ≡ y)
clock_decided x y = search rules

pub kind_decided : (x y : Kind) → Decides ((kind_eq.ghosts).eq x y) (x ≡ y)
kind_decided x y = search rules

pub no_such_letter_decided : (x y : NoSuchLetter) → Decides ((no_such_letter_eq.ghosts).eq x y) (x ≡ y)
no_such_letter_decided x y = search rules

pub field_decided : (x y : Field) → Decides ((field_eq.ghosts).eq x y) (x ≡ y)
field_decided x y = search rules

pub record_decided : (x y : Record) → Decides ((record_eq.ghosts).eq x y) (x ≡ y)
record_decided (rec.Group x) (rec.Group y) = Decides-like _ (λ e. ap (λ g. rec.Group g) e) (λ e. cc) (group_decided x y)
record_decided (rec.Buy x) (rec.Buy y) = Decides-like _ (λ e. ap (λ g. rec.Buy g) e) (λ e. cc) (entry_decided x y)
record_decided (rec.Sell x) (rec.Sell y) = Decides-like _ (λ e. ap (λ g. rec.Sell g) e) (λ e. cc) (entry_decided x y)
record_decided (rec.Amendment x) (rec.Amendment y) = Decides-like _ (λ e. ap (λ g. rec.Amendment g) e) (λ e. cc) (amendment_decided x y)
record_decided (rec.Cancellation x) (rec.Cancellation y) = Decides-like _ (λ e. ap (λ g. rec.Cancellation g) e) (λ e. cc) (cancellation_decided x y)
record_decided rec.AuctionCall rec.AuctionCall = (λ e. refl, λ e. refl)
record_decided (rec.Clock x) (rec.Clock y) = Decides-like _ (λ e. ap (λ g. rec.Clock g) e) (λ e. cc) (clock_decided x y)
record_decided x y = (λ e. cc, λ e. cc)
