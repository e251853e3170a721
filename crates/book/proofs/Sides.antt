-- One order more or less, and orders with less of their quantity, leave a side sound.
use Rattle.std.specs.Prelude.{◌≡◌, ◌↔◌, All, ℕ, suc, ◌<◌, ◌≤◌, Bool, true, ◌≢◌, List, [], ◌∷◌, length, take, drop, nat_lt, slice_index_or, slice_set, refl}
use Rattle.std.proofs.Common.{sym, ◌∙◌, ⊎_elim, arith}
use Rattle.std.specs.List.{insert, remove, AllByRecursion}
use Rattle.std.proofs.lemmas.List.Edits.{length-insert, length-remove}
use Rattle.std.proofs.ByRecursion.{All-weaker as weaker_by_recursion}
use Rattle.std.proofs.lemmas.List.Elements.{All-append, All-cons, All-drop, All-from_recursion, All-set, All-take, recursion_from_All}
use Rattle.std.proofs.lemmas.List.{length-set, length-take, get_or-set_same, get_or-set_other}
use Rattle.std.proofs.lemmas.Bool.{cases_eq, cond_both, ltb-true}
use Rattle.std.proofs.lemmas.Bool.Decides.{nat_tests}
use Rattle.std.proofs.lemmas.List.Quantifiers.{all_pairs_remove}
use Rattle.ranked.specs.Ranks.{Alike, Pairwise, Ranked, NoneAlike}
use Rattle.ranked.proofs.Orders.{pairwise_cons, pairwise_head, pairwise_inserted, pairwise_tail}
use Rattle.book.specs.declared.order.Order.{Order}
use Rattle.book.specs.Lists.{Acceptable, Apart, At, KeepsRank, RanksByStamp, Sound, remaining}
use Rattle.book.specs.Orders.{SameRank, WithinLimits, buys_before, lessened, sells_before}
use Rattle.book.specs.Tables.{held}
use Rattle.book.specs.declared.table.OrderTable.{OrderTable}
use Rattle.rules.specs.Limits.{most_orders}

apart_back : (x y : Order) → Apart x y → Apart y x
apart_back x y (number, stamp) = (λ e. number (sym e), λ e. stamp (sym e))

pub none_alike : (alike : Order → Order → Type 0) → RanksByStamp alike → (xs : List Order) (x : Order) → Acceptable xs x → NoneAlike alike xs x
none_alike alike by-stamp xs x ok k d within same = (ok.apart k d within).1 (by-stamp (slice_index_or xs k d) x same)

pub sound_inserted : (before : Order → Order → Bool) (xs : List Order) (x : Order) (place : ℕ) → place ≤ length xs → Sound before xs → Acceptable xs x → Ranked before (insert xs place x) → Sound before (insert xs place x)
sound_inserted before xs x place fits sound ok ranked =
    let n = length-insert xs place x fits in
    record {
      few = omega (arith, ok.room);
      ranked = ranked;
      apart =
          pairwise_inserted Apart xs place x fits sound.apart
          (λ k d low. ok.apart k d (omega arith))
          (λ k d low within. apart_back (slice_index_or xs k d) x (ok.apart k d within));
      within = All-append WithinLimits (take place xs) (x ∷ drop place xs) (All-take WithinLimits place xs sound.within) (All-cons WithinLimits x (drop place xs) ok.within (All-drop WithinLimits place xs sound.within));
    }

pub sound_removed : (before : Order → Order → Bool) (xs : List Order) (place : ℕ) → place < length xs → Sound before xs → Sound before (remove xs place)
sound_removed before xs place low sound =
    let n = length-remove xs place low in
    record {
      few = omega (arith, sound.few);
      ranked = all_pairs_remove (λ x y. before x y ≡ true) xs place low sound.ranked;
      apart = all_pairs_remove Apart xs place low sound.apart;
      within = All-append WithinLimits (take place xs) (drop (suc place) xs) (All-take WithinLimits place xs sound.within) (All-drop WithinLimits (suc place) xs sound.within);
    }

within_lessened : (x : Order) (by : ℕ) → by < x.quantity → WithinLimits x → WithinLimits (lessened x by)
within_lessened x by less within = grind (arith, nat_tests)

-- a relation between orders that does not ask for their quantity
abbrev Lasting : (Order → Order → Type 0) → Type 0
Lasting P = (x y : Order) (by : ℕ) → (P x y → P (lessened x by) y) × (P y x → P y (lessened x by))

rank_lasts : (before : Order → Order → Bool) → KeepsRank before → Lasting (λ x y. before x y ≡ true)
rank_lasts before keeps x y by = (λ e. (keeps x y by).0 ∙ e, λ e. (keeps x y by).1 ∙ e)

apart_lasts : Lasting Apart
apart_lasts x y by = (λ e. e, λ e. e)

-- where the order at a place has less of its quantity
module _ (xs : List Order) (place by : ℕ) (x : Order) (there : At place xs x) where
  pairwise_lessened : (P : Order → Order → Type 0) → Lasting P → Pairwise P xs → Pairwise P (slice_set xs place (lessened x by))
  pairwise_lessened P lasts all = (λ i j d below within.
      let n = length-set xs place (lessened x by) in
      let was = all i j d below (omega arith) in
      ⊎_elim
      (λ (e : i ≡ place). let ne : j ≢ place = omega arith in
      rw (e, get_or-set_same xs place (lessened x by) d there.0, get_or-set_other xs place j (lessened x by) d ne) ((lasts x (slice_index_or xs j d) by).0 (rw (e, there.1 d) at was)))
      (λ ne. ⊎_elim
      (λ (e : j ≡ place). rw (e, get_or-set_same xs place (lessened x by) d there.0, get_or-set_other xs place i (lessened x by) d ne) ((lasts x (slice_index_or xs i d) by).1 (rw (e, there.1 d) at was)))
      (λ ne'. rw (get_or-set_other xs place i (lessened x by) d ne, get_or-set_other xs place j (lessened x by) d ne') was)
      (cases_eq j place))
      (cases_eq i place))

  pub sound_lessened : (before : Order → Order → Bool) → KeepsRank before → by < x.quantity → Sound before xs → Sound before (slice_set xs place (lessened x by))
  sound_lessened before keeps less sound =
      let n = length-set xs place (lessened x by) in
      let mine : WithinLimits x = rw (there.1 x) at (sound.within place x there.0) in
      record {
        few = omega (arith, sound.few);
        ranked = pairwise_lessened (λ y z. before y z ≡ true) (rank_lasts before keeps) sound.ranked;
        apart = pairwise_lessened Apart apart_lasts sound.apart;
        within = All-set WithinLimits xs place (lessened x by) (within_lessened x by less mine) sound.within;
      }

-- where each order got its fill
all_remaining : (Q : Order → Type 0) → ((x : Order) (by : ℕ) → by < x.quantity → Q x → Q (lessened x by)) → (xs : List Order) (fs : List ℕ) → AllByRecursion Q xs → AllByRecursion Q (remaining xs fs)
all_remaining Q lasts [] fs all = tt
all_remaining Q lasts (x ∷ xs) [] all = all
all_remaining Q lasts (x ∷ xs) (f ∷ fs) (here, rest) =
    let later = all_remaining Q lasts xs fs rest in
    cond_both (nat_lt f x.quantity) (lessened x f ∷ remaining xs fs) (remaining xs fs) (AllByRecursion Q) (λ e. (lasts x f (ltb-true f x.quantity e) here, later)) (λ _. later)

pairwise_remaining : (P : Order → Order → Type 0) → Lasting P → (xs : List Order) (fs : List ℕ) → Pairwise P xs → Pairwise P (remaining xs fs)
pairwise_remaining P lasts [] fs all = all
pairwise_remaining P lasts (x ∷ xs) [] all = all
pairwise_remaining P lasts (x ∷ xs) (f ∷ fs) all =
    let later = pairwise_remaining P lasts xs fs (pairwise_tail P x xs all) in
    let first = all_remaining (P x) (λ y by _ h. (lasts y x by).1 h) xs fs (pairwise_head P x xs all) in
    cond_both (nat_lt f x.quantity) (lessened x f ∷ remaining xs fs) (remaining xs fs) (Pairwise P)
    (λ _. pairwise_cons P (lessened x f) (remaining xs fs) (weaker_by_recursion (P x) (P (lessened x f)) (λ y h. (lasts x y f).0 h) (remaining xs fs) first) later)
    (λ _. later)

fewer : (xs : List Order) (fs : List ℕ) → length (remaining xs fs) ≤ length xs
fewer [] fs = omega arith
fewer (x ∷ xs) [] = omega arith
fewer (x ∷ xs) (f ∷ fs) =
    let later = fewer xs fs in
    cond_both (nat_lt f x.quantity) (lessened x f ∷ remaining xs fs) (remaining xs fs) (λ l. length l ≤ length (x ∷ xs)) (λ _. omega arith) (λ _. omega arith)

pub sound_remaining : (before : Order → Order → Bool) → KeepsRank before → (xs : List Order) (fs : List ℕ) → Sound before xs → Sound before (remaining xs fs)
sound_remaining before keeps xs fs sound =
    record {
      few = omega (arith, fewer xs fs, sound.few);
      ranked = pairwise_remaining (λ y z. before y z ≡ true) (rank_lasts before keeps) xs fs sound.ranked;
      apart = pairwise_remaining Apart apart_lasts xs fs sound.apart;
      within = All-from_recursion WithinLimits (remaining xs fs) (all_remaining WithinLimits within_lessened xs fs (recursion_from_All WithinLimits xs sound.within));
    }

-- on both sides rank goes by price and stamp alone
pub buys_keep_rank : KeepsRank buys_before
buys_keep_rank x y by = (refl, refl)

pub sells_keep_rank : KeepsRank sells_before
sells_keep_rank x y by = (refl, refl)

-- on each side, two orders have the same rank exactly if they have the same price and the same stamp
pub buys_alike : (x y : Order) → Alike buys_before x y ↔ SameRank x y
buys_alike x y = (λ same. grind (arith, nat_tests), λ same. grind (arith, nat_tests))

pub sells_alike : (x y : Order) → Alike sells_before x y ↔ SameRank x y
sells_alike x y = (λ same. grind (arith, nat_tests), λ same. grind (arith, nat_tests))

pub stamp_of_rank : RanksByStamp SameRank
stamp_of_rank x y same = same.1

-- so two orders of which neither comes before the other have the same stamp
pub buys_rank_by_stamp : RanksByStamp (Alike buys_before)
buys_rank_by_stamp x y same = ((buys_alike x y).0 same).1

pub sells_rank_by_stamp : RanksByStamp (Alike sells_before)
sells_rank_by_stamp x y same = ((sells_alike x y).0 same).1

-- the orders of a table, from what holds of them one by one
pub sound_table : (before : Order → Order → Bool) (t : OrderTable) → t.count ≤ most_orders → Ranked before (held t) → Pairwise Apart (held t) → All WithinLimits (held t) → Sound before (held t)
sound_table before t few ranked apart within =
    record { few = omega (arith, length-take t.count t.orders); ranked = ranked; apart = apart; within = within }
