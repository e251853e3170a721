-- Filling orders one after another.
use Rattle.std.proofs.Common.{◌≡◌, ℕ, suc, ◌+◌, ◌-◌, ◌<◌, ◌≤◌, min, Bool, true, false, cond, ltb, List, [], ◌∷◌, ◌++◌, length, get_or, take, drop, set, replicate, sym, refl, ap, ◌∙◌, arith, rules}
use Rattle.std.proofs.lemmas.List.{append-nil, same_lists, places, get_or-set_same, drop_more, drop-set-lt, take-append-le, take_more, take_more_set, length-take-le}
use Rattle.std.proofs.lemmas.Bool.{cases_eq, lt-ltb, le-ltb}
use Rattle.book.specs.declared.order.Order.{Order}
use Rattle.book.specs.Lists.{filled, remaining}
use Rattle.book.specs.Orders.{lessened}

pub length-filled : (volume : ℕ) (xs : List Order) → length (filled volume xs) ≡ length xs
length-filled volume [] = refl
length-filled volume (x ∷ xs) = ap suc (length-filled (volume - x.quantity) xs)

-- the fill at place i is what is left, up to the order's quantity, and the others are given what is left then
pub filled_next : (volume left : ℕ) (xs : List Order) (i : ℕ) (d : Order) → i < length xs → filled left (drop i xs) ≡ drop i (filled volume xs) → (get_or (filled volume xs) i 0 ≡ min left (get_or xs i d).quantity) × (filled (left - min left (get_or xs i d).quantity) (drop (i + 1) xs) ≡ drop (i + 1) (filled volume xs))
filled_next volume left xs i d lt e =
    let q = (get_or xs i d).quantity in
    let here : drop i xs ≡ get_or xs i d ∷ drop (i + 1) xs = drop_more xs i d lt in
    let there : drop i (filled volume xs) ≡ get_or (filled volume xs) i 0 ∷ drop (i + 1) (filled volume xs) = drop_more (filled volume xs) i 0 (omega (arith, length-filled volume xs)) in
    let both : min left q ∷ filled (left - q) (drop (i + 1) xs) ≡ get_or (filled volume xs) i 0 ∷ drop (i + 1) (filled volume xs) = ap (filled left) (sym here) ∙ e ∙ there in
    let less : left - min left q ≡ left - q = omega arith in
    (cc both, ap (λ n. filled n (drop (i + 1) xs)) less ∙ (cc both))

-- one fill more, in an array that holds 0 behind the fills
pub stored : (fs : List ℕ) (n i : ℕ) → i < n → i < length fs → set (take i fs ++ replicate (n - i) 0) i (get_or fs i 0) ≡ take (i + 1) fs ++ replicate (n - (i + 1)) 0
stored fs n i room lt = same_lists _ _ (search (rules, places)) (λ k d h. grind (arith, places, get_or-set_same, cases_eq k i))

remaining_push : (xs : List Order) (fs : List ℕ) (x : Order) (f : ℕ) → length xs ≡ length fs → remaining (xs ++ x ∷ []) (fs ++ f ∷ []) ≡ remaining xs fs ++ cond (ltb f x.quantity) (lessened x f ∷ []) []
remaining_push [] [] x f e = refl
remaining_push [] (g ∷ fs) x f e = absurd (omega arith)
remaining_push (y ∷ xs) [] x f e = absurd (omega arith)
remaining_push (y ∷ xs) (g ∷ fs) x f e =
    let rest = remaining_push xs fs x f (omega arith) in
    elim (ltb g y.quantity) as (λ b. cond b (lessened y g ∷ remaining (xs ++ x ∷ []) (fs ++ f ∷ [])) (remaining (xs ++ x ∷ []) (fs ++ f ∷ [])) ≡ cond b (lessened y g ∷ remaining xs fs) (remaining xs fs) ++ cond (ltb f x.quantity) (lessened x f ∷ []) []) [ true ↦ ap (λ l. lessened y g ∷ l) rest | false ↦ rest ]

-- the orders up to place i are settled: one more
pub remaining_more : (xs : List Order) (fs : List ℕ) (i : ℕ) (d : Order) → i < length xs → i < length fs → remaining (take (i + 1) xs) (take (i + 1) fs) ≡ remaining (take i xs) (take i fs) ++ cond (ltb (get_or fs i 0) (get_or xs i d).quantity) (lessened (get_or xs i d) (get_or fs i 0) ∷ []) []
remaining_more xs fs i d lt lt' =
    rw (take_more xs i d lt, take_more fs i 0 lt') (remaining_push (take i xs) (take i fs) (get_or xs i d) (get_or fs i 0) (length-take-le i xs (omega arith) ∙ sym (length-take-le i fs (omega arith))))

-- more fills than orders: those behind the orders do not matter
pub remaining_front : (xs : List Order) (fs : List ℕ) → length xs ≤ length fs → remaining xs (take (length xs) fs) ≡ remaining xs fs
remaining_front [] fs le = refl
remaining_front (x ∷ xs) [] le = absurd (omega arith)
remaining_front (x ∷ xs) (f ∷ fs) le = ap (λ l. cond (ltb f x.quantity) (lessened x f ∷ l) l) (remaining_front xs fs (omega arith))

pub remaining_behind : (xs : List Order) (fs gs : List ℕ) → length fs ≡ length xs → remaining xs (fs ++ gs) ≡ remaining xs fs
remaining_behind [] fs gs e = refl
remaining_behind (x ∷ xs) [] gs e = absurd (omega arith)
remaining_behind (x ∷ xs) (f ∷ fs) gs e = ap (λ l. cond (ltb f x.quantity) (lessened x f ∷ l) l) (remaining_behind xs fs gs (omega arith))

-- a turn of the loop that fills: `fs` is the array so far
pub fill_more : (volume left most : ℕ) (xs : List Order) (fs : List ℕ) (i : ℕ) (d : Order) → i < length xs → length xs ≤ most → fs ≡ take i (filled volume xs) ++ replicate (most - i) 0 → filled left (drop i xs) ≡ drop i (filled volume xs) → (set fs i (min left (get_or xs i d).quantity) ≡ take (i + 1) (filled volume xs) ++ replicate (most - (i + 1)) 0) × (filled (left - min left (get_or xs i d).quantity) (drop (i + 1) xs) ≡ drop (i + 1) (filled volume xs))
fill_more volume left most xs fs i d lt le so_far rest =
    let next = filled_next volume left xs i d lt rest in
    let n = length-filled volume xs in
    (rw (so_far, ← next.0) (stored (filled volume xs) most i (omega arith) (omega arith)), next.1)

-- a turn of the loop that settles: `xs` are the orders at first, `ys` the orders now, of which `count` are done with
module _ (xs ys : List Order) (fs : List ℕ) (count i : ℕ) (d : Order) (lt : i < length xs) (lt' : i < length fs) (long : length ys ≡ length xs) (low : count ≤ i)
    (front : take count ys ≡ remaining (take i xs) (take i fs)) (rest : drop i ys ≡ drop i xs) where
  same_order : get_or ys i d ≡ get_or xs i d
  same_order =
      let here : drop i ys ≡ get_or ys i d ∷ drop (i + 1) ys = drop_more ys i d (omega arith) in
      let there : drop i xs ≡ get_or xs i d ∷ drop (i + 1) xs = drop_more xs i d lt in
      cc

  rest_more : drop (i + 1) ys ≡ drop (i + 1) xs
  rest_more =
      let here : drop i ys ≡ get_or ys i d ∷ drop (i + 1) ys = drop_more ys i d (omega arith) in
      let there : drop i xs ≡ get_or xs i d ∷ drop (i + 1) xs = drop_more xs i d lt in
      cc

  next_remaining : (b : Bool) → ltb (get_or fs i 0) (get_or ys i d).quantity ≡ b → remaining (take (i + 1) xs) (take (i + 1) fs) ≡ take count ys ++ cond b (lessened (get_or ys i d) (get_or fs i 0) ∷ []) []
  next_remaining b e = rw (remaining_more xs fs i d lt lt', ← same_order, e, front)

  pub settle_keeps : get_or fs i 0 < (get_or ys i d).quantity → (take (count + 1) (set ys count (lessened (get_or ys i d) (get_or fs i 0))) ≡ remaining (take (i + 1) xs) (take (i + 1) fs)) × (drop (i + 1) (set ys count (lessened (get_or ys i d) (get_or fs i 0))) ≡ drop (i + 1) xs)
  settle_keeps less = (
    take_more_set ys count (lessened (get_or ys i d) (get_or fs i 0)) (omega arith) ∙ sym (next_remaining true (lt-ltb _ _ less)),
    drop-set-lt (i + 1) ys count (lessened (get_or ys i d) (get_or fs i 0)) (omega arith) ∙ rest_more,
  )

  pub settle_drops : (get_or ys i d).quantity ≤ get_or fs i 0 → (take count ys ≡ remaining (take (i + 1) xs) (take (i + 1) fs)) × (drop (i + 1) ys ≡ drop (i + 1) xs)
  settle_drops le = (sym (next_remaining false (le-ltb _ _ le) ∙ append-nil (take count ys)), rest_more)

-- what stands at the front of a table once its orders are settled
pub settled_front : (xs ys zs : List Order) (fs gs : List ℕ) (volume count : ℕ) → fs ≡ filled volume xs ++ gs → take count ys ≡ remaining xs fs → count ≤ length ys → take count (ys ++ zs) ≡ remaining xs (filled volume xs)
settled_front xs ys zs fs gs volume count all front le =
    take-append-le count ys zs le ∙ front ∙ ap (remaining xs) all ∙ remaining_behind xs (filled volume xs) gs (length-filled volume xs)
