-- Trades that go to the orders of a side in rank order.
use Rattle.std.proofs.Common.{◌≡◌, ℕ, ◌+◌, cond, eqb, List, [], ◌∷◌, ◌++◌, map, length, sum, sym, refl, ap, ◌∙◌, subst, arith}
use Rattle.std.specs.List.{AllByRecursion}
use Rattle.std.proofs.lemmas.List.{append_assoc, append-nil}
use Rattle.std.proofs.lemmas.List.Sums.{sum_by-append, sum_by-cons}
use Rattle.std.proofs.lemmas.Bool.{eq-eqb, ne_eqb, cond-true, cond-false}
use Rattle.ranked.specs.Ranks.{Pairwise}
use Rattle.ranked.proofs.Orders.{pairwise_head, pairwise_tail}
use Rattle.book.specs.declared.order.Order.{Order}
use Rattle.book.specs.Lists.{Apart}
use Rattle.book.proofs.Shares.{sum-cons}
use Rattle.rules.specs.declared.trade.Trade.{Trade}
use Rattle.fixing.specs.Trades.{Dealt, gets, traded}

module _ (side : Trade → ℕ) where
  -- one order more, with its trades
  pub dealt_push : (xs : List Order) (fs : List ℕ) (ts : List Trade) (x : Order) (own : List Trade) → Dealt side xs fs ts → AllByRecursion (λ t. side t ≡ x.number) own → Dealt side (xs ++ x ∷ []) (fs ++ traded own ∷ []) (ts ++ own)
  dealt_push [] [] ts x own e mine = (own, [], ap (λ l. l ++ own) e ∙ sym (append-nil own), mine, refl, refl)
  dealt_push [] (f ∷ fs) ts x own e mine = absurd e
  dealt_push (y ∷ xs) [] ts x own e mine = absurd e
  dealt_push (y ∷ xs) (f ∷ fs) ts x own (his, others, e, all, is, rest) mine =
      (his, others ++ own, ap (λ l. l ++ own) e ∙ append_assoc his others own, all, is, dealt_push xs fs others x own rest mine)

  -- orders that get nothing
  pub dealt_none : (xs : List Order) (fs : List ℕ) → length fs ≡ length xs → sum fs ≡ 0 → Dealt side xs fs []
  dealt_none [] [] long none = refl
  dealt_none [] (f ∷ fs) long none = absurd (omega arith)
  dealt_none (x ∷ xs) [] long none = absurd (omega arith)
  dealt_none (x ∷ xs) (f ∷ fs) long none = ([], [], refl, tt, omega (arith, sum-cons f fs), dealt_none xs fs (omega arith) (omega (arith, sum-cons f fs)))

  dealt_append : (xs ys : List Order) (fs gs : List ℕ) (ts us : List Trade) → Dealt side xs fs ts → Dealt side ys gs us → Dealt side (xs ++ ys) (fs ++ gs) (ts ++ us)
  dealt_append [] ys [] gs ts us e rest = subst (λ l. Dealt side ys gs (l ++ us)) (sym e) rest
  dealt_append [] ys (f ∷ fs) gs ts us e rest = absurd e
  dealt_append (x ∷ xs) ys [] gs ts us e rest = absurd e
  dealt_append (x ∷ xs) ys (f ∷ fs) gs ts us (own, others, e, all, is, later) rest =
      (own, others ++ us, ap (λ l. l ++ us) e ∙ append_assoc own others us, all, is, dealt_append xs ys fs gs others us later rest)

  -- the quantity of the trades is the sum of the fills
  pub dealt_all : (xs : List Order) (fs : List ℕ) (ts : List Trade) → Dealt side xs fs ts → traded ts ≡ sum fs
  dealt_all [] [] ts e = ap traded e
  dealt_all [] (f ∷ fs) ts e = absurd e
  dealt_all (x ∷ xs) [] ts e = absurd e
  dealt_all (x ∷ xs) (f ∷ fs) ts (own, others, e, all, is, later) =
      ap traded e ∙ sum_by-append (λ t. t.quantity) own others ∙ omega (arith, sum-cons f fs, dealt_all xs fs others later)

  gets-cons : (t : Trade) (ts : List Trade) (x : Order) → gets side (t ∷ ts) x ≡ cond (eqb (side t) x.number) t.quantity 0 + gets side ts x
  gets-cons t ts x = sum_by-cons (λ u. cond (eqb (side u) x.number) u.quantity 0) t ts

  gets-append : (ts us : List Trade) (x : Order) → gets side (ts ++ us) x ≡ gets side ts x + gets side us x
  gets-append ts us x = sum_by-append (λ u. cond (eqb (side u) x.number) u.quantity 0) ts us

  -- an order gets all trades of its number, and none of another
  gets_own : (ts : List Trade) (x : Order) → AllByRecursion (λ t. side t ≡ x.number) ts → gets side ts x ≡ traded ts
  gets_own [] x all = refl
  gets_own (t ∷ ts) x (e, all) =
      omega (arith, gets-cons t ts x, cond-true (eqb (side t) x.number) t.quantity 0 (eq-eqb (side t) x.number e), sum_by-cons (λ u. u.quantity) t ts, gets_own ts x all)

  gets_others : (ts : List Trade) (x y : Order) → AllByRecursion (λ t. side t ≡ y.number) ts → (y.number ≡ x.number → ⊥) → gets side ts x ≡ 0
  gets_others [] x y all ne = refl
  gets_others (t ∷ ts) x y (e, all) ne =
      omega (arith, gets-cons t ts x, cond-false (eqb (side t) x.number) t.quantity 0 (ne_eqb (side t) x.number (λ same. ne (sym e ∙ same))), gets_others ts x y all ne)

  gets_nothing : (xs : List Order) (fs : List ℕ) (ts : List Trade) (x : Order) → Dealt side xs fs ts → AllByRecursion (λ y. Apart x y) xs → gets side ts x ≡ 0
  gets_nothing [] [] ts x e apart = ap (λ l. gets side l x) e
  gets_nothing [] (f ∷ fs) ts x e apart = absurd e
  gets_nothing (y ∷ xs) [] ts x e apart = absurd e
  gets_nothing (y ∷ xs) (f ∷ fs) ts x (own, others, e, all, is, later) (here, apart) =
      ap (λ l. gets side l x) e ∙ gets-append own others x ∙ omega (arith, gets_others own x y all (λ same. here.0 (sym same)), gets_nothing xs fs others x later apart)

  map-gets : (xs : List Order) (own others : List Trade) (y : Order) → AllByRecursion (λ t. side t ≡ y.number) own → AllByRecursion (λ x. Apart y x) xs → map (gets side (own ++ others)) xs ≡ map (gets side others) xs
  map-gets [] own others y all apart = refl
  map-gets (x ∷ xs) own others y all (here, apart) =
      let same : gets side (own ++ others) x ≡ gets side others x = gets-append own others x ∙ omega (arith, gets_others own x y all here.0) in
      ap (λ n. n ∷ map (gets side (own ++ others)) xs) same ∙ ap (λ l. gets side others x ∷ l) (map-gets xs own others y all apart)

  -- what each order gets by the trades is its fill
  pub gets_fill : (xs : List Order) (fs : List ℕ) (ts : List Trade) → Pairwise Apart xs → Dealt side xs fs ts → map (gets side ts) xs ≡ fs
  gets_fill [] [] ts apart e = refl
  gets_fill [] (f ∷ fs) ts apart e = absurd e
  gets_fill (x ∷ xs) [] ts apart e = absurd e
  gets_fill (x ∷ xs) (f ∷ fs) ts apart (own, others, e, all, is, later) =
      let apart_here = pairwise_head Apart x xs apart in
      let here : gets side ts x ≡ f = ap (λ l. gets side l x) e ∙ gets-append own others x ∙ omega (arith, gets_own own x all, gets_nothing xs fs others x later apart_here) in
      let there : map (gets side ts) xs ≡ fs = ap (λ l. map (gets side l) xs) e ∙ map-gets xs own others x all apart_here ∙ gets_fill xs fs others (pairwise_tail Apart x xs apart) later in
      ap (λ n. n ∷ map (gets side ts) xs) here ∙ ap (λ l. f ∷ l) there
