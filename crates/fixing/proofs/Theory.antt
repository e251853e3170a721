-- The theoretical result is the one that the best offer gives, and it trades the most.
use Rattle.std.proofs.Common.{◌≡◌, ℕ, ◌<◌, ◌≤◌, min, List, ℤ, pos, ◌-ℤ◌, Some, None, Option, sym, refl, ap, ◌∙◌, inl, ⊎_elim, arith, MatchOption}
use Rattle.std.proofs.lemmas.Bool.{cases_lt}
use Rattle.book.specs.declared.order.Order.{Order}
use Rattle.fixing.specs.declared.offer.Offer.{Offer}
use Rattle.fixing.specs.declared.theoretical.Theoretical.{Theoretical}
use Rattle.fixing.specs.Prices.{Better, Candidate, FixingPrice, IsTheoretical, OnlyTheoretical}
use Rattle.fixing.specs.Results.{TakenFrom, no_price}
use Rattle.fixing.specs.Volumes.{TradesTheMost, leftover, volume}
use Rattle.fixing.specs.Walks.{BestOf, IsOffer}
use Rattle.fixing.proofs.Counting.{trades_the_most}
use Rattle.fixing.proofs.Preference.{better_total}

same_result : (p q : Option ℕ) (v w : ℕ) (l m : ℤ) → p ≡ q → v ≡ w → l ≡ m → ◌≡◌ {A = Theoretical} (record { price = p; volume = v; leftover = l }) (record { price = q; volume = w; leftover = m })
same_result p q v w l m a b c =
    let step : ◌≡◌ {A = Theoretical} (record { price = p; volume = v; leftover = l }) (record { price = q; volume = v; leftover = l }) = ap (λ x. record { price = x; volume = v; leftover = l }) a in
    let step' : ◌≡◌ {A = Theoretical} (record { price = q; volume = v; leftover = l }) (record { price = q; volume = w; leftover = l }) = ap (λ x. record { price = q; volume = x; leftover = l }) b in
    let step'' : ◌≡◌ {A = Theoretical} (record { price = q; volume = w; leftover = l }) (record { price = q; volume = w; leftover = m }) = ap (λ x. record { price = q; volume = w; leftover = x }) c in
    step ∙ step' ∙ step''

module _ (buys sells : List Order) (base : ℕ) where
  -- where nothing trades at any candidate, there is no price
  module _ (none : (p : ℕ) → Candidate buys sells p → volume buys sells p ≡ 0) where
    pub no_price_is : IsTheoretical buys sells base no_price
    no_price_is = (none, refl, refl)

    only_none : (price : Option ℕ) (v : ℕ) (l : ℤ) → IsTheoretical buys sells base (record { price = price; volume = v; leftover = l }) → ◌≡◌ {A = Theoretical} (record { price = price; volume = v; leftover = l }) no_price
    only_none None v l (_, e, f) = same_result None None v 0 l (pos 0) refl e f
    only_none (Some p) v l (fixing, e, f) = absurd (omega (arith, fixing.trades, none p fixing.candidate))

    pub no_price_only : OnlyTheoretical buys sells base no_price
    no_price_only other is = only_none other.price other.volume other.leftover is

    pub no_price_most : TradesTheMost buys sells 0
    no_price_most = trades_the_most buys sells 0 (λ q candidate. omega (arith, none q candidate))

  -- the result at the best offer
  module _ (o : Offer) (of : IsOffer buys sells o) (best : (p : ℕ) → Candidate buys sells p → Better buys sells base p o.price → ⊥) where
    at_best : (q : ℕ) → Candidate buys sells q → volume buys sells q ≤ volume buys sells o.price
    at_best q candidate =
        ⊎_elim
        (λ (l : volume buys sells o.price < volume buys sells q). absurd (best q candidate (inl l)))
        (λ l. l)
        (cases_lt (volume buys sells o.price) (volume buys sells q))

    volume_is : min o.demand o.supply ≡ volume buys sells o.price
    volume_is = rw (of.demand, of.supply)

    leftover_is : pos o.demand -ℤ pos o.supply ≡ leftover buys sells o.price
    leftover_is = rw (of.demand, of.supply)

    module _ (some : 0 < min o.demand o.supply) where
      fixing : FixingPrice buys sells base o.price
      fixing = record { candidate = of.candidate; trades = omega (arith, volume_is); best = best }

      only_some : (price : Option ℕ) (v : ℕ) (l : ℤ) → IsTheoretical buys sells base (record { price = price; volume = v; leftover = l }) → ◌≡◌ {A = Theoretical} (record { price = price; volume = v; leftover = l }) (record { price = Some o.price; volume = min o.demand o.supply; leftover = pos o.demand -ℤ pos o.supply })
      only_some None v l (none, e, f) = absurd (omega (arith, volume_is, none o.price of.candidate))
      only_some (Some p) v l (other, e, f) =
          let same : p ≡ o.price = better_total buys sells base p o.price (best p other.candidate) (other.best o.price of.candidate) in
          same_result (Some p) (Some o.price) v _ l _ (ap Some same) (e ∙ ap (volume buys sells) same ∙ sym volume_is) (f ∙ ap (leftover buys sells) same ∙ sym leftover_is)

    none_trade : min o.demand o.supply ≡ 0 → (p : ℕ) → Candidate buys sells p → volume buys sells p ≡ 0
    none_trade none p candidate = omega (arith, at_best p candidate, volume_is)

    -- the three promises of the result
    pub promises : (r : Theoretical) → TakenFrom o r → IsTheoretical buys sells base r × OnlyTheoretical buys sells base r × TradesTheMost buys sells r.volume
    promises r taken =
        ⊎_elim
        (λ (some : 0 < min o.demand o.supply).
        rw (taken.something some)
        ((fixing some, volume_is, leftover_is), (λ other is. only_some some other.price other.volume other.leftover is), trades_the_most buys sells (min o.demand o.supply) (λ q candidate. omega (arith, at_best q candidate, volume_is))))
        (λ (none : min o.demand o.supply ≤ 0).
        let e : min o.demand o.supply ≡ 0 = omega arith in
        let all = none_trade e in
        rw (taken.nothing e) (no_price_is all, no_price_only all, no_price_most all))
        (cases_lt 0 (min o.demand o.supply))

  -- the promises of the result that is taken from the best offer, if there is one
  pub promises_of_best : (best : Option Offer) (r : Theoretical) → BestOf buys sells base best → MatchOption best (r ≡ no_price) (λ o. TakenFrom o r) → IsTheoretical buys sells base r × OnlyTheoretical buys sells base r × TradesTheMost buys sells r.volume
  promises_of_best None r none e =
      let all : (p : ℕ) → Candidate buys sells p → volume buys sells p ≡ 0 = λ p candidate. absurd (none p candidate) in
      rw e (no_price_is all, no_price_only all, no_price_most all)
  promises_of_best (Some o) r (of, best) taken = promises o of best r taken
