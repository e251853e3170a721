-- The centre, by the trades and by the summary of them.
use Rattle.std.specs.Prelude.{Option, None, Some}
use Rattle.std.specs.Option.{option_map_or}
use Rattle.std.proofs.Common.{ap₂, ◌≡◌, ℕ, ◌+◌, ◌*◌, ◌<◌, ◌≤◌, max, cond, eqb, ◌⊎◌, List, [], ◌∷◌, sym, refl, ap, ◌∙◌, inl, inr, arith}
use Rattle.std.proofs.lemmas.Bool.{cases_lt}
use Rattle.std.proofs.lemmas.List.Sums.{sum_by-cons}
use Rattle.tunnel.specs.declared.trade.ToldTrade.{ToldTrade}
use Rattle.mean.specs.Averages.{fraction, together, totals}
use Rattle.mean.specs.Means.{period, latest, sum_before, value_before, quantity_before, price_before, centre}
use Rattle.mean.specs.Summaries.{Remembers, centre_in}
use Rattle.mean.specs.declared.average.Average.{Average}
use Rattle.mean.specs.declared.summary.Summary.{Summary}

-- of a period that begins later than the next, no trade counts in the one before
pub sum_none : (f : ToldTrade → ℕ) (k : ℕ) (xs : List ToldTrade) → latest xs + 1 < k → sum_before f k xs ≡ 0
sum_none f k [] h = refl
sum_none f k (x ∷ xs) h =
    let rest = sum_none f k xs (omega arith) in
    grind (arith, rest)

-- the price last told before any later period
pub price_any : (settlement j k : ℕ) (xs : List ToldTrade) → latest xs < j → latest xs < k → price_before settlement j xs ≡ price_before settlement k xs
price_any settlement j k [] g h = refl
price_any settlement j k (x ∷ xs) g h = grind arith

-- before, in, and after the period that follows the latest
centred_before : (settlement : ℕ) (s : Summary) (xs : List ToldTrade) (k : ℕ) → Remembers settlement s xs → k ≤ latest xs → centre_in s k ≡ centre settlement xs (max k (latest xs))
centred_before settlement s xs k r h =
    let e : max k (latest xs) ≡ latest xs = omega arith in
    let here : centre_in s k ≡ fraction s.centre = grind (arith, r.period) in
    here ∙ r.centred ∙ ap (centre settlement xs) (sym e)

-- of a period with trades their average is the centre of the next one, and of a period with none the last price
next_centre : (settlement : ℕ) (current : Option Average) (last : ℕ) (xs : List ToldTrade) → totals current ≡ (value_before (latest xs + 1) xs, quantity_before (latest xs + 1) xs) → last ≡ price_before settlement (latest xs + 1) xs → option_map_or fraction current (last, 1) ≡ centre settlement xs (latest xs + 1)
next_centre settlement None last xs e p =
    let none : quantity_before (latest xs + 1) xs ≡ 0 = sym (ap (λ f. f.1) e) in
    grind (arith, none, p)
next_centre settlement (Some told) last xs e p =
    let q : told.quantity ≡ quantity_before (latest xs + 1) xs = ap (λ f. f.1) e in
    let v : told.value ≡ value_before (latest xs + 1) xs = ap (λ f. f.0) e in
    grind (arith, q, v, told.some)

centred_next : (settlement : ℕ) (s : Summary) (xs : List ToldTrade) (k : ℕ) → Remembers settlement s xs → k ≡ latest xs + 1 → centre_in s k ≡ centre settlement xs (max k (latest xs))
centred_next settlement s xs k r h =
    let e : max k (latest xs) ≡ latest xs + 1 = omega arith in
    let here : centre_in s k ≡ option_map_or fraction s.current (s.last, 1) = grind (arith, r.period, h) in
    here ∙ next_centre settlement s.current s.last xs r.current r.last ∙ ap (centre settlement xs) (sym e)

centred_later : (settlement : ℕ) (s : Summary) (xs : List ToldTrade) (k : ℕ) → Remembers settlement s xs → latest xs + 1 < k → centre_in s k ≡ centre settlement xs (max k (latest xs))
centred_later settlement s xs k r h =
    let e : max k (latest xs) ≡ k = omega arith in
    let none = sum_none (λ x. x.quantity) k xs h in
    let price = r.last ∙ price_any settlement (latest xs + 1) k xs (omega arith) (omega arith) in
    let here : centre_in s k ≡ centre settlement xs k = grind (arith, none, price, r.period) in
    here ∙ ap (centre settlement xs) (sym e)

split : (k n : ℕ) → (k ≤ n) ⊎ ((k ≡ n + 1) ⊎ (n + 1 < k))
split k n = grind arith

-- what the summary answers is the centre of the trades that it is of
pub centre_kept : (settlement : ℕ) (s : Summary) (xs : List ToldTrade) (k : ℕ) → Remembers settlement s xs → centre_in s k ≡ centre settlement xs (max k (latest xs))
centre_kept settlement s xs k r =
    elim (split k (latest xs)) [
      | inl h ↦ centred_before settlement s xs k r h
      | inr (inl h) ↦ centred_next settlement s xs k r h
      | inr (inr h) ↦ centred_later settlement s xs k r h
    ]

-- a trade told now is in no period before its own
centre_before : (settlement : ℕ) (x : ToldTrade) (xs : List ToldTrade) → centre settlement (x ∷ xs) (latest (x ∷ xs)) ≡ centre settlement xs (latest (x ∷ xs))
centre_before settlement x xs =
    let k = latest (x ∷ xs) in
    let sums : (f : ToldTrade → ℕ) → sum_before f k (x ∷ xs) ≡ sum_before f k xs = λ f. grind arith in
    let price : price_before settlement k (x ∷ xs) ≡ price_before settlement k xs = grind arith in
    λ i. cond (eqb (sums (λ t. t.quantity) i) 0) (price i, 1) (sums (λ t. t.price * t.quantity) i, sums (λ t. t.quantity) i)

-- the sums of the latest period, with one more trade: in that period, or in a later one
sum_more : (f : ToldTrade → ℕ) (x : ToldTrade) (xs : List ToldTrade) → period x.second ≤ latest xs → sum_before f (latest (x ∷ xs) + 1) (x ∷ xs) ≡ sum_before f (latest xs + 1) xs + f x
sum_more f x xs h =
    let e : latest (x ∷ xs) ≡ latest xs = omega arith in
    let rest = ap (λ k. sum_before f (k + 1) xs) e in
    grind (arith, rest)

sum_first : (f : ToldTrade → ℕ) (x : ToldTrade) (xs : List ToldTrade) → latest xs < period x.second → sum_before f (latest (x ∷ xs) + 1) (x ∷ xs) ≡ f x
sum_first f x xs h =
    let rest = sum_none f (latest (x ∷ xs) + 1) xs (omega arith) in
    grind (arith, rest)

price_now : (settlement : ℕ) (x : ToldTrade) (xs : List ToldTrade) → price_before settlement (latest (x ∷ xs) + 1) (x ∷ xs) ≡ x.price
price_now settlement x xs = grind arith

-- a summary with a trade more is of the trades with that one in front
pub grown : (settlement : ℕ) (s t : Summary) (x : ToldTrade) (xs : List ToldTrade) → Remembers settlement s xs → t.tally ≡ s.tally + x.quantity → t.period ≡ max s.period (period x.second) → (period x.second ≤ s.period → totals t.current ≡ together (totals s.current) (x.price * x.quantity, x.quantity)) → (s.period < period x.second → totals t.current ≡ (x.price * x.quantity, x.quantity)) → fraction t.centre ≡ centre_in s (period x.second) → t.last ≡ x.price → Remembers settlement t (x ∷ xs)
grown settlement s t x xs r tally at within later centred last =
    let paid : ToldTrade → ℕ = λ y. y.price * y.quantity in
    let size : ToldTrade → ℕ = λ y. y.quantity in
    record {
      tally = omega (arith, tally, r.tally, sum_by-cons size x xs);
      period = omega (arith, at, r.period);
      current = elim (cases_lt s.period (period x.second)) [
        | inl h ↦ later h ∙ ap₂ (λ v q. (v, q)) (sym (sum_first paid x xs (omega (arith, h, r.period)))) (sym (sum_first size x xs (omega (arith, h, r.period))))
        | inr h ↦ within h ∙ ap (λ told. together told (x.price * x.quantity, x.quantity)) r.current ∙ ap₂ (λ v q. (v, q)) (sym (sum_more paid x xs (omega (arith, h, r.period)))) (sym (sum_more size x xs (omega (arith, h, r.period))))
      ];
      centred = centred ∙ centre_kept settlement s xs (period x.second) r ∙ sym (centre_before settlement x xs);
      last = last ∙ sym (price_now settlement x xs);
    }
