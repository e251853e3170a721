-- A loop over the items at the front of a list that pass a test.
use Rattle.std.proofs.Common.{◌≡◌, ◌<◌, Bool, true, false, List, length, get_or, Some, None, Option, sym, ap, ◌∙◌, arith}
use Rattle.std.proofs.lemmas.List.{get_or_default, get_or-take}
use Rattle.std.proofs.lemmas.List.Folds.{length-prefix_len}
use Rattle.std.proofs.lemmas.List.Sums.{prefix_len-le-length, prefix_len_passes, prefix_len_stops}
use Rattle.std.proofs.lemmas.Iterator.{YieldsList}
use Rattle.std.proofs.lemmas.Iterator.Consumers.{YieldsList-turn, YieldsList-end}
use Rattle.std.proofs.lemmas.Iterator.Search.{YieldsList-from_take_while}
use Rattle.std.specs.Fn.{CalledAt}
use Rattle.std.specs.Iterator.{Yields}
use Rattle.std.specs.Iterator.Adapters.{take_while_source, take_while_done, take_while_callee, take_while_steps}
use Rattle.std.specs.List.{prefix_len}
use Rattle.std.specs.declared.iter.TakeWhile.{TakeWhile}
use denote.Param.Members.{Mut}
use denote.Ref.{Bor}

module _ {S A B F : Type 0} {steps : S → Option A → S → Type 0} {v : A → B} {s₀ s : TakeWhile S F} {g : Mut F (Bor A × Unit {0}) Bool}
    (so_far : List A) (t : TakeWhile S F) (led : Yields (take_while_steps steps g) s₀ so_far t) (r : Option A) (u : TakeWhile S F) (step : take_while_steps steps g t r u)
    (start : s₀ ≡ s) (test : B → Bool) {f : F} (xs : List B) (source : YieldsList steps v (take_while_source s) xs) (callee : take_while_callee s ≡ f) (done : take_while_done s ≡ false)
    (calls : (x : A) (b : Bool) (q : F) → CalledAt g f x b q → (q ≡ f) × (b ≡ test (v x))) where
  -- the item of a turn stands behind those of the turns before it, and passes
  pub passing_turn : (x : A) → r ≡ Some x → (length so_far < length xs) × ((d : B) → get_or xs (length so_far) d ≡ v x) × (test (v x) ≡ true)
  passing_turn x is =
      let turn = YieldsList-turn (YieldsList-from_take_while g test source callee done calls) so_far t (rw start at led) r u x is step in
      let long = length-prefix_len test xs in
      let fits = prefix_len-le-length test xs in
      let low : length so_far < prefix_len test xs = omega arith in
      let here : v x ≡ get_or xs (length so_far) (v x) = turn.1 ∙ get_or-take (prefix_len test xs) xs (length so_far) (v x) low in
      (omega arith, λ d. get_or_default xs (length so_far) d (v x) (omega arith) ∙ sym here, ap test here ∙ prefix_len_passes test xs (length so_far) (v x) low)

  -- where the loop ends, no item is left, or the next does not pass
  pub passing_end : r ≡ None → (d : B) → length so_far < length xs → test (get_or xs (length so_far) d) ≡ false
  passing_end is d lt =
      let end = (YieldsList-end (YieldsList-from_take_while g test source callee done calls) so_far t (rw start at led) r u is step).1 ∙ length-prefix_len test xs in
      ap (λ k. test (get_or xs k d)) end ∙ prefix_len_stops test xs d (omega arith)
