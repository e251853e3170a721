-- The number of each refusal. `Refusal::number` is proved to answer the number that the enum's definition gives the case, and this one.
-- Assumes nothing.
use Rattle.std.specs.Prelude.{ℕ}
use Rattle.rules.specs.declared.refusal.Refusal.{Refusal}
use Rattle.rules.specs.declared.refusal.Refusal.TheVariants as refusal

abbrev pub number : Refusal → ℕ
number refusal.TradeListTooShort = 1
number refusal.GroupSheetOutsideLimits = 2
number refusal.TunnelOutsideLimits = 3
number refusal.SecondBeforeMarket = 4
number refusal.SecondAboveGreatest = 5
number refusal.MemberOutsideLimits = 6
number refusal.NoSuchOrder = 7
number refusal.OrderOfAnotherMember = 8
number refusal.PriceOutsideLimits = 9
number refusal.PriceOffTick = 10
number refusal.QuantityOutsideLimits = 11
number refusal.PriceOutsideRange = 12
number refusal.AmendmentAltersNothing = 13
number refusal.AmendmentRetreatsInAuction = 14
number refusal.SideFull = 15
number refusal.StampsUsedUp = 16
number refusal.CancellationInAuction = 17
number refusal.AuctionAlreadyRuns = 18
number refusal.NoVersionByte = 19
number refusal.RecordCutShort = 20
number refusal.NoRecordOfThisKindHere = 21
number refusal.LengthWrongForKind = 22
number refusal.BufferTooShort = 23
number refusal.TapeTooLong = 24
