-- A record can be told from the bytes that spell it. Assumes nothing.
use Rattle.std.proofs.Common.{◌≡◌, ℕ, ◌^◌, ◌<◌, List, ◌++◌, length, get_or, take, drop, ℤ, sym, refl, ap, ◌∙◌, w32, rules, SFits, to_z, of_z}
use mir.Facts.{Fits-of_z}
use Rattle.std.specs.List.{flat_map}
use Rattle.std.specs.Int.Digits.{number_from_digits}
use Rattle.std.proofs.lemmas.List.{take_at}
use Rattle.std.proofs.lemmas.Int.{to_z-of_z}
use Rattle.records.specs.Bytes.{big_endian}
use Rattle.records.specs.Records.{RecordFits, body, fields_of, kind_of, spelled, spelling}
use Rattle.records.specs.declared.Kind.{Kind}
use Rattle.records.specs.declared.Kind.TheVariants as kind
use Rattle.records.specs.declared.Record.{Record}
use Rattle.records.specs.declared.Record.TheVariants as rec
use Rattle.records.proofs.Letters.{same_kind}
use Rattle.records.proofs.Numbers.{number_spelled}

-- the number in k bytes from place i
abbrev at : ℕ → ℕ → List ℕ → ℕ
at k i bs = number_from_digits 256 (take k (drop i bs))

abbrev band : ℕ → List ℕ → ℤ
band i bs = to_z w32 (at 4 i bs)

abbrev decoded : Kind → List ℕ → Record
decoded kind.Group bs = rec.Group (record {
  tick = at 4 0 bs;
  greatest_quantity = at 4 4 bs;
  liquid = at 1 8 bs;
  settlement = at 4 9 bs;
  form = at 1 13 bs;
  bands = record {
    buy_low = band 14 bs;
    buy_high = band 18 bs;
    sell_low = band 22 bs;
    sell_high = band 26 bs;
    auction_low = band 30 bs;
    auction_high = band 34 bs;
  };
})
decoded kind.Buy bs = rec.Buy (record { member = at 2 0 bs; price = at 4 2 bs; quantity = at 4 6 bs })
decoded kind.Sell bs = rec.Sell (record { member = at 2 0 bs; price = at 4 2 bs; quantity = at 4 6 bs })
decoded kind.Amendment bs = rec.Amendment (record { member = at 2 0 bs; number = at 4 2 bs; price = at 4 6 bs; quantity = at 4 10 bs })
decoded kind.Cancellation bs = rec.Cancellation (record { member = at 2 0 bs; number = at 4 2 bs })
decoded kind.AuctionCall bs = rec.AuctionCall
decoded kind.Clock bs = rec.Clock (record { second = at 4 0 bs; draw = at 2 4 bs })

one : (n : ℕ) → n < 2 ^ 8 → number_from_digits 256 (big_endian 1 n) ≡ n
one n h = number_spelled 1 n h

two : (n : ℕ) → n < 2 ^ 16 → number_from_digits 256 (big_endian 2 n) ≡ n
two n h = number_spelled 2 n h

four : (n : ℕ) → n < 2 ^ 32 → number_from_digits 256 (big_endian 4 n) ≡ n
four n h = number_spelled 4 n h

signed : (z : ℤ) → SFits w32 z → to_z w32 (number_from_digits 256 (big_endian 4 (of_z w32 z))) ≡ z
signed z h = ap (to_z w32) (four (of_z w32 z) (Fits-of_z h).fits) ∙ to_z-of_z w32 z h

decoded_back : (r : Record) → RecordFits r → decoded (kind_of r) (flat_map spelled (fields_of r)) ≡ r
decoded_back (rec.Group g) h = λ i. rec.Group (record {
  tick = four g.tick h.0 i;
  greatest_quantity = four g.greatest_quantity h.1.0 i;
  liquid = one g.liquid h.1.1.0 i;
  settlement = four g.settlement h.1.1.1.0 i;
  form = one g.form h.1.1.1.1.0 i;
  bands = record {
    buy_low = signed g.bands.buy_low h.1.1.1.1.1.0 i;
    buy_high = signed g.bands.buy_high h.1.1.1.1.1.1.0 i;
    sell_low = signed g.bands.sell_low h.1.1.1.1.1.1.1.0 i;
    sell_high = signed g.bands.sell_high h.1.1.1.1.1.1.1.1.0 i;
    auction_low = signed g.bands.auction_low h.1.1.1.1.1.1.1.1.1.0 i;
    auction_high = signed g.bands.auction_high h.1.1.1.1.1.1.1.1.1.1.0 i;
  };
})
decoded_back (rec.Buy e) h = λ i. rec.Buy (record { member = two e.member h.0 i; price = four e.price h.1.0 i; quantity = four e.quantity h.1.1.0 i })
decoded_back (rec.Sell e) h = λ i. rec.Sell (record { member = two e.member h.0 i; price = four e.price h.1.0 i; quantity = four e.quantity h.1.1.0 i })
decoded_back (rec.Amendment a) h = λ i. rec.Amendment (record { member = two a.member h.0 i; number = four a.number h.1.0 i; price = four a.price h.1.1.0 i; quantity = four a.quantity h.1.1.1.0 i })
decoded_back (rec.Cancellation x) h = λ i. rec.Cancellation (record { member = two x.member h.0 i; number = four x.number h.1.0 i })
decoded_back rec.AuctionCall h = refl
decoded_back (rec.Clock t) h = λ i. rec.Clock (record { second = four t.second h.0 i; draw = two t.draw h.1.0 i })

pub small : (r : Record) → length (body r) < 256 ^ 2
small r = search rules

-- a tape that begins with the spelling of one record does not begin with that of another
module _ (r s : Record) (after other : List ℕ) (same : spelling r ++ after ≡ spelling s ++ other) where
  same_length : length (body r) ≡ length (body s)
  same_length = sym (number_spelled 2 (length (body r)) (small r)) ∙ ap (λ l. number_from_digits 256 (take 2 l)) same ∙ number_spelled 2 (length (body s)) (small s)

  same_body : body r ≡ body s
  same_body =
      sym (take_at (body r) after (length (body r)) refl) ∙ ap (λ l. take (length (body r)) (drop 2 l)) same ∙ ap (λ n. take n (body s ++ other)) same_length ∙ take_at (body s) other (length (body s)) refl

  pub same_record : RecordFits r → RecordFits s → r ≡ s
  same_record fr fs =
      let k : kind_of r ≡ kind_of s = same_kind (kind_of r) (kind_of s) (ap (λ l. get_or l 0 0) same_body) in
      sym (decoded_back r fr) ∙ ap (λ j. decoded j (flat_map spelled (fields_of r))) k ∙ ap (λ l. decoded (kind_of s) (drop 1 l)) same_body ∙ decoded_back s fs
