-- One price is better than another: an order of the prices in which no two are level.
use Rattle.std.proofs.Common.{◌≡◌, ℕ, ◌<◌, List, sym, ◌∙◌, inl, inr, ⊎_elim, arith}
use Rattle.std.proofs.lemmas.Bool.{cases_order}
use Rattle.book.specs.declared.order.Order.{Order}
use Rattle.fixing.specs.declared.offer.Offer.{Offer}
use Rattle.fixing.specs.Prices.{Better, LargerThen}
use Rattle.fixing.specs.Volumes.{distance, imbalance, volume}
use Rattle.fixing.specs.Walks.{Beats, IsOffer}

larger_trans : (m n k : ℕ) (R S Rest : Type 0) → (R → S → Rest) → LargerThen m n R → LargerThen n k S → LargerThen m k Rest
larger_trans m n k R S Rest then (inl l) (inl l') = inl (omega arith)
larger_trans m n k R S Rest then (inl l) (inr (e, s)) = inl (omega arith)
larger_trans m n k R S Rest then (inr (e, r)) (inl l') = inl (omega arith)
larger_trans m n k R S Rest then (inr (e, r)) (inr (e', s)) = inr (e ∙ e', then r s)

larger_same : (m : ℕ) (Rest : Type 0) → LargerThen m m Rest → Rest
larger_same m Rest (inl l) = absurd (omega arith)
larger_same m Rest (inr (e, rest)) = rest

larger_neither : (m n : ℕ) (R S : Type 0) → (LargerThen m n R → ⊥) → (LargerThen n m S → ⊥) → (R → ⊥) × (S → ⊥)
larger_neither m n R S one other =
    ⊎_elim
    (λ (e : m ≡ n). (λ r. one (inr (e, r)), λ s. other (inr (sym e, s))))
    (⊎_elim (λ (l : m < n). absurd (other (inl l))) (λ (l : n < m). absurd (one (inl l))))
    (cases_order m n)

module _ (buys sells : List Order) (base : ℕ) where
  pub better_trans : (p q r : ℕ) → Better buys sells base p q → Better buys sells base q r → Better buys sells base p r
  better_trans p q r =
      larger_trans (volume buys sells p) (volume buys sells q) (volume buys sells r) _ _ _ (λ a b.
      larger_trans (imbalance buys sells r) (imbalance buys sells q) (imbalance buys sells p) _ _ _ (λ c d.
      larger_trans (distance r base) (distance q base) (distance p base) (r < q) (q < p) (r < p) (λ e f. omega arith) c d) b a)

  pub better_self : (p : ℕ) → Better buys sells base p p → ⊥
  better_self p h = omega (arith, larger_same (distance p base) (p < p) (larger_same (imbalance buys sells p) _ (larger_same (volume buys sells p) _ h)))

  -- of two prices, one is better
  pub better_total : (p q : ℕ) → (Better buys sells base p q → ⊥) → (Better buys sells base q p → ⊥) → p ≡ q
  better_total p q one other =
      let (a, b) = larger_neither (volume buys sells p) (volume buys sells q) _ _ one other in
      let (c, d) = larger_neither (imbalance buys sells q) (imbalance buys sells p) _ _ a b in
      let (e, f) = larger_neither (distance q base) (distance p base) (q < p) (p < q) c d in
      ⊎_elim (λ same. same) (⊎_elim (λ l. absurd (f l)) (λ l. absurd (e l))) (cases_order p q)

  -- offers that have their demand and supply are compared as their prices are
  pub better_if_beats : (o other : Offer) → IsOffer buys sells o → IsOffer buys sells other → Beats o other base → Better buys sells base o.price other.price
  better_if_beats o other of of' h = rw (← of.demand, ← of.supply, ← of'.demand, ← of'.supply) h

  pub beats_if_better : (o other : Offer) → IsOffer buys sells o → IsOffer buys sells other → Better buys sells base o.price other.price → Beats o other base
  beats_if_better o other of of' h = rw (of.demand, of.supply, of'.demand, of'.supply) h
