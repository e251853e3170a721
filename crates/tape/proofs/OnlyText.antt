-- A tape has one listing. Assumes nothing.
use Rattle.std.proofs.Common.{◌≡◌, ℕ, ◌+◌, ◌<◌, ◌⊎◌, List, [], ◌∷◌, ◌++◌, length, sym, refl, ap, ◌∙◌, subst, inl, inr, append_assoc, arith, rules, length-append}
use Rattle.std.specs.List.{flat_map, AllByRecursion}
use Rattle.std.proofs.lemmas.List.{append_cancel_left}
use Rattle.rules.specs.Refusals.{number}
use Rattle.rules.specs.declared.refusal.Refusal.{Refusal}
use Rattle.records.specs.Records.{RecordFits, kind_of, spelling}
use Rattle.records.specs.declared.Kind.TheVariants as kind
use Rattle.records.specs.declared.Record.{Record}
use Rattle.tape.specs.Lines.{listed_line, tape_refused_line}
use Rattle.tape.specs.Listings.{GroupFirst, Holds, Listing, TheListing, place_behind}
use Rattle.tape.specs.Listings.Listing.{unopened, whole, faulty}
use Rattle.tape.specs.Tapes.{Faulty, MayStand, NotOpened}
use Rattle.records.proofs.Decoded.{same_record}
use Rattle.tape.proofs.Laws.{no_fault, one_fault}

-- each record may stand where it stands, the first at the place
abbrev Placed : ℕ → List Record → Type 0
Placed place [] = Unit {0}
Placed place (r ∷ records) = MayStand place (kind_of r) × Placed (place + length (spelling r)) records

later : (records : List Record) (place : ℕ) → 1 < place → AllByRecursion (λ s. kind_of s ≡ kind.Group → ⊥) records → Placed place records
later [] place past none = tt
later (r ∷ records) place past none = search (rules, later records)

placed : (records : List Record) → GroupFirst records → Placed 1 records
placed [] first = tt
placed (r ∷ records) first = ((λ _. first.0, λ _. refl), later records (1 + length (spelling r)) (omega arith) first.1)

-- what is left of the tape at the place where the listing ends: nothing, or a fault
abbrev Ends : List ℕ → ℕ → Type 0
Ends rest place = (rest ≡ []) ⊎ ((e : Refusal) × Faulty rest place e)

-- a record stands where the listing ended
not_yet : (rest other : List ℕ) (place : ℕ) (s : Record) (records : List Record) → Ends rest place → rest ≡ flat_map spelling (s ∷ records) ++ other → MayStand place (kind_of s) → ⊥
not_yet rest other place s records ends e may = search (rules, no_fault, append_assoc)

same_records : (place : ℕ) (rs ss : List Record) (rest other : List ℕ) → flat_map spelling rs ++ rest ≡ flat_map spelling ss ++ other →
    AllByRecursion RecordFits rs → AllByRecursion RecordFits ss → Placed place rs → Placed place ss → Ends rest (place + length (flat_map spelling rs)) → Ends other (place + length (flat_map spelling ss)) → rs ≡ ss
same_records place [] [] rest other e fr fs pr ps x y = refl
same_records place [] (s ∷ ss) rest other e fr fs pr ps x y = absurd (not_yet rest other place s ss (subst (Ends rest) (omega arith) x) e ps.0)
same_records place (r ∷ rs) [] rest other e fr fs pr ps x y = absurd (not_yet other rest place r rs (subst (Ends other) (omega arith) y) (sym e) pr.0)
same_records place (r ∷ rs) (s ∷ ss) rest other e fr fs pr ps x y =
    let e' : spelling r ++ (flat_map spelling rs ++ rest) ≡ spelling s ++ (flat_map spelling ss ++ other) =
    sym (append_assoc (spelling r) (flat_map spelling rs) rest) ∙ e ∙ append_assoc (spelling s) (flat_map spelling ss) other in
    let same : r ≡ s = same_record r s (flat_map spelling rs ++ rest) (flat_map spelling ss ++ other) e' fr.0 fs.0 in
    let next = place + length (spelling r) in
    let behind = append_cancel_left (spelling r) (flat_map spelling rs ++ rest) (flat_map spelling ss ++ other) (e' ∙ ap (λ q. spelling q ++ (flat_map spelling ss ++ other)) (sym same)) in
    let ends : Ends rest (next + length (flat_map spelling rs)) = subst (Ends rest) (omega (arith, length-append (spelling r) (flat_map spelling rs))) x in
    let ends' : Ends other (next + length (flat_map spelling ss)) =
    subst (Ends other) (omega (arith, length-append (spelling s) (flat_map spelling ss), ap (λ q. length (spelling q)) same)) y in
    let stands : Placed next ss = subst (λ q. Placed (place + length (spelling q)) ss) (sym same) ps.1 in
    ap (λ q. q ∷ rs) same ∙ ap (λ qs. s ∷ qs) (same_records next rs ss rest other behind fr.1 fs.1 pr.1 stands ends ends')

module _ (tape : List ℕ) where
  not_both : (records : List Record) (rest : List ℕ) (e : Refusal) → Holds tape records rest → NotOpened tape e → ⊥
  not_both records rest e holds refused = search rules

  one_reason : (d e : Refusal) → NotOpened tape d → NotOpened tape e → d ≡ e
  one_reason d e x y = search rules

  module _ (rs ss : List Record) (rest other : List ℕ) (x : Holds tape rs rest) (y : Holds tape ss other) where
    behind_one : flat_map spelling rs ++ rest ≡ flat_map spelling ss ++ other
    behind_one = search rules

    held_same : Ends rest (place_behind rs) → Ends other (place_behind ss) → rs ≡ ss
    held_same = same_records 1 rs ss rest other behind_one x.fit y.fit (placed rs x.ordered) (placed ss y.ordered)

    rest_same : rs ≡ ss → rest ≡ other
    rest_same e = append_cancel_left (flat_map spelling rs) rest other (behind_one ∙ ap (λ qs. flat_map spelling qs ++ other) (sym e))

  only_text : (text other : List ℕ) → Listing tape text → Listing tape other → text ≡ other
  only_text text other (unopened d x) (unopened e y) = ap (λ q. tape_refused_line (number q) 0) (one_reason d e x y)
  only_text text other (unopened d x) (whole ss y) = absurd (not_both ss [] d y x)
  only_text text other (unopened d x) (faulty ss rest e y some fault) = absurd (not_both ss rest d y x)
  only_text text other (whole rs x) (unopened e y) = absurd (not_both rs [] e x y)
  only_text text other (whole rs x) (whole ss y) = ap (flat_map listed_line) (held_same rs ss [] [] x y (inl refl) (inl refl))
  only_text text other (whole rs x) (faulty ss rest e y some fault) =
      let same = held_same rs ss [] rest x y (inl refl) (inr (e, fault)) in
      absurd (omega (arith, some, ap length (rest_same rs ss [] rest x y same)))
  only_text text other (faulty rs rest d x some fault) (unopened e y) = absurd (not_both rs rest e x y)
  only_text text other (faulty rs rest d x some fault) (whole ss y) =
      let same = held_same rs ss rest [] x y (inr (d, fault)) (inl refl) in
      absurd (omega (arith, some, ap length (rest_same rs ss rest [] x y same)))
  only_text text other (faulty rs rest d x some fault) (faulty ss rest' e y some' fault') =
      let same = held_same rs ss rest rest' x y (inr (d, fault)) (inr (e, fault')) in
      let left : Faulty rest (place_behind rs) e = subst (λ l. Faulty l (place_behind rs) e) (sym (rest_same rs ss rest rest' x y same)) (subst (λ qs. Faulty rest' (place_behind qs) e) (sym same) fault') in
      ap (λ qs. flat_map listed_line qs ++ tape_refused_line (number d) (place_behind qs)) same ∙ ap (λ q. flat_map listed_line ss ++ tape_refused_line (number q) (place_behind ss)) (one_fault rest (place_behind rs) d e fault left)

  pub the_listing : (text : List ℕ) → Listing tape text → TheListing tape text
  the_listing text lists = (lists, λ other also. only_text other text also lists)
