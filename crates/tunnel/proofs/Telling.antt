-- Trades told one after another.
use Rattle.std.proofs.Common.{◌≡◌, ℕ, ◌+◌, ◌<◌, Bool, true, false, cond, List, [], ◌∷◌, ◌++◌, length, get_or, take, sym, refl, ap, ◌∙◌, subst, add-zero, zero-add, arith}
use Rattle.std.proofs.lemmas.Bool.{false≢true}
use Rattle.std.proofs.lemmas.List.Sums.{sum_by-cons}
use Rattle.std.proofs.lemmas.List.{take_more}
use Rattle.tunnel.specs.Trades.{Told, Counts, counts, counting, newest_first, quantity_of, TallyIsWhatCounted}
use Rattle.tunnel.specs.declared.trade.ToldTrade.{ToldTrade}

-- one more trade told
pub told_more : {A : Type 0} (tells : A → ToldTrade → A → Type 0) (t : A) (xs : List ToldTrade) (u : A) (x : ToldTrade) (v : A) → Told tells t xs u → tells u x v → Told tells t (xs ++ x ∷ []) v
told_more tells t [] u x v e h =
    let P : _ → Type 0 = λ a. tells a x v in
    (v, subst P (sym e) h, refl)
told_more tells t (y ∷ ys) u x v (m, first, rest) h = (m, first, told_more tells m ys u x v rest h)

-- what holds of the trades that counted so far, the last one first, holds after more of them were told
pub counted_more : {A : Type 0} (tells : A → ToldTrade → A → Type 0) (tally : A → ℕ) (P : A → List ToldTrade → Type 0) → ((t : A) (x : ToldTrade) (u : A) (xs : List ToldTrade) → tells t x u → Counts (tally t) x → P t xs → (tally u ≡ tally t + x.quantity) × P u (x ∷ xs)) → ((t : A) (x : ToldTrade) (u : A) (xs : List ToldTrade) → tells t x u → (Counts (tally t) x → ⊥) → P t xs → (tally u ≡ tally t) × P u xs) → (n : ℕ) (told xs : List ToldTrade) (t u : A) → tally t ≡ n → P t xs → Told tells t told u → P u (newest_first (counting n told) xs)
counted_more tells tally P adds leaves n [] xs t u e p same = subst (λ v. P v xs) same p
counted_more tells tally P adds leaves n (x ∷ told) xs t u e p (m, first, rest) =
    let here : (b : Bool) → counts n x ≡ b → counts (tally t) x ≡ b = λ b eb. ap (λ k. counts k x) e ∙ eb in
    let Q : Bool → Type 0 = λ b. P u (newest_first (cond b (x ∷ counting (n + x.quantity) told) (counting n told)) xs) in
    elim (counts n x) as (λ b. counts n x ≡ b → Q b) [
      | true ↦ λ eb.
          let (more, q) = adds t x m xs first (here true eb) p in
          counted_more tells tally P adds leaves (n + x.quantity) told (x ∷ xs) m u (more ∙ ap (λ k. k + x.quantity) e) q rest
      | false ↦ λ eb.
          let (same, q) = leaves t x m xs first (λ c. false≢true (sym (here false eb) ∙ c)) p in
          counted_more tells tally P adds leaves n told xs m u (same ∙ e) q rest
    ] refl

-- the order of trades is nothing to their quantity
quantity_newest : (ys xs : List ToldTrade) → quantity_of (newest_first ys xs) ≡ quantity_of ys + quantity_of xs
quantity_newest [] xs = sym (zero-add (quantity_of xs))
quantity_newest (y ∷ ys) xs =
    omega (arith, quantity_newest ys (y ∷ xs), sum_by-cons (λ x. x.quantity) y xs, sum_by-cons (λ x. x.quantity) y ys)

-- one turn of the loop over a slice of trades
pub told_next : {A : Type 0} (tells : A → ToldTrade → A → Type 0) (t : A) (xs : List ToldTrade) (i : ℕ) (d : ToldTrade) (u v : A) → i < length xs → Told tells t (take i xs) u → tells u (get_or xs i d) v → Told tells t (take (i + 1) xs) v
told_next tells t xs i d u v h told last =
    let P : List ToldTrade → Type 0 = λ l. Told tells t l v in
    subst P (sym (take_more xs i d h)) (told_more tells t (take i xs) u (get_or xs i d) v told last)

pub tally_is_what_counted : {A : Type 0} (tally : A → ℕ) (starts : A → A → Type 0) (tells : A → ToldTrade → A → Type 0) → ((t u : A) → starts t u → tally u ≡ 0) → ((t : A) (x : ToldTrade) (u : A) → tells t x u → Counts (tally t) x → tally u ≡ tally t + x.quantity) → ((t : A) (x : ToldTrade) (u : A) → tells t x u → (Counts (tally t) x → ⊥) → tally u ≡ tally t) → TallyIsWhatCounted tally starts tells
tally_is_what_counted tally starts tells zero adds leaves t begun u told first rest =
    let none = zero t begun first in
    counted_more tells tally (λ v xs. tally v ≡ quantity_of xs)
    (λ v x w xs c h p. let more = adds v x w c h in (more, omega (arith, more, p, sum_by-cons (λ y. y.quantity) x xs)))
    (λ v x w xs c h p. let same = leaves v x w c h in (same, same ∙ p))
    0 told [] begun u none none rest
    ∙ quantity_newest (counting 0 told) [] ∙ add-zero (quantity_of (counting 0 told))
