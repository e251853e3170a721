-- The laws of tapes and records. Assumes nothing.
use Rattle.std.proofs.Common.{◌≡◌, ℕ, ◌+◌, ◌-◌, ◌≤◌, List, [], ◌∷◌, ◌++◌, length, get_or, take, drop, Some, None, Ok, Err, Option, Result, sym, refl, ap, ◌∙◌, arith, rules, take-add}
use Rattle.std.specs.Int.Digits.{number_from_digits}
use Rattle.std.proofs.lemmas.List.{drop_all, drop_at, take_at, take_all, flat_map_more, drop-drop}
use Rattle.rules.specs.declared.refusal.Refusal.{Refusal}
use Rattle.tape.specs.Laws.{OnlyAnswer, ReadsBack, SpelledAlone, WritesBack, GoesOn, Reading}
use Rattle.records.specs.Records.{RecordFits, body, kind_of, spelling}
use Rattle.tape.specs.Tapes.{stated, MayStand, Faulty, Stands, Reads}
use Rattle.records.specs.declared.Record.{Record}
use Rattle.records.proofs.Decoded.{small, same_record}
use Rattle.records.proofs.Letters.{body_length}
use Rattle.records.proofs.Numbers.{number_spelled}

-- where a record stands, nothing is faulty
module _ (rest after : List ℕ) (place : ℕ) (r : Record) (is : rest ≡ spelling r ++ after) (may : MayStand place (kind_of r)) where
  states : stated rest ≡ length (body r)
  states = ap (λ l. number_from_digits 256 (take 2 l)) is ∙ number_spelled 2 (length (body r)) (small r)

  pub no_fault : (e : Refusal) → Faulty rest place e → ⊥
  no_fault e fault =
      let number = states in
      let kind_length = body_length r in
      let long = ap length is in
      let letter = ap (λ l. get_or l 2 0) is in
      search rules

pub one_fault : (rest : List ℕ) (place : ℕ) (d e : Refusal) → Faulty rest place d → Faulty rest place e → d ≡ e
one_fault rest place d e a b = search rules

module _ (tape : List ℕ) (place : ℕ) where
  -- behind the end no record stands
  past_end : (r : Record) (n : ℕ) → length tape ≤ place → Stands tape place r n → ⊥
  past_end r n past stands = search (rules, drop_all)

  only : (a b : Result (Option Record) Refusal) (m n : ℕ) → Reads tape place a m → Reads tape place b n → (a ≡ b) × (m ≡ n)
  only (Ok None) (Ok None) m n x y = search rules
  only (Ok None) (Ok (Some s)) m n x y = search (rules, past_end)
  only (Ok None) (Err e) m n x y = search rules
  only (Ok (Some r)) (Ok None) m n x y = search (rules, past_end)
  only (Ok (Some r)) (Ok (Some s)) m n x y =
      let same : r ≡ s = same_record r s (drop m tape) (drop n tape) (sym x.3 ∙ y.3) x.0 y.0 in
      search rules
  only (Ok (Some r)) (Err e) m n x y = search (rules, no_fault)
  only (Err d) (Ok None) m n x y = search rules
  only (Err d) (Ok (Some s)) m n x y = search (rules, no_fault)
  only (Err d) (Err e) m n x y = search (rules, one_fault)

  only_answer : (answer : Result (Option Record) Refusal) (next : ℕ) → Reads tape place answer next → OnlyAnswer tape place answer next
  only_answer answer next reads a n other = only a answer n next other reads

  writes_back : (answer : Result (Option Record) Refusal) (next : ℕ) → Reads tape place answer next → WritesBack tape place answer next
  writes_back (Ok None) next reads r e = cc
  writes_back (Ok (Some s)) next reads r e = search (rules, take_at)
  writes_back (Err d) next reads r e = cc

  pub goes_on : (answer : Result (Option Record) Refusal) (next : ℕ) → Reads tape place answer next → GoesOn tape place answer next
  goes_on (Ok None) next reads records so_far = (ap (λ n. take n tape) reads.1 ∙ so_far, λ _. sym (take_all place tape reads.0) ∙ so_far)
  goes_on (Ok (Some r)) next reads records so_far =
      let passed = writes_back (Ok (Some r)) next reads r refl in
      let both : take next tape ≡ take place tape ++ take (next - place) (drop place tape) = ap (λ n. take n tape) (omega (arith, reads.2)) ∙ take-add place (next - place) tape in (
        both ∙ ap (λ l. take place tape ++ l) passed ∙ ap (λ l. l ++ spelling r) so_far ∙ flat_map_more spelling (1 ∷ []) records r,
        λ e. cc,
      )
  goes_on (Err d) next reads records so_far = (ap (λ n. take n tape) reads.2 ∙ so_far, λ e. cc)

  pub reading : (answer : Result (Option Record) Refusal) (next : ℕ) → Reads tape place answer next → Reading tape place answer next
  reading answer next reads = record {
    reads = reads;
    only = only_answer answer next reads;
    written = writes_back answer next reads;
    goes_on = goes_on answer next reads;
  }

pub spelled_alone : (r : Record) → RecordFits r → SpelledAlone r
spelled_alone r fits s fs e = same_record s r [] [] (ap (λ l. l ++ []) e) fs fits

pub reads_back : (r : Record) → RecordFits r → ReadsBack r
reads_back r fits before after a n may reads =
    let place = length before in
    let tape = before ++ (spelling r ++ after) in
    let k = length (spelling r) in
    let here : drop place tape ≡ spelling r ++ after = drop_at before (spelling r ++ after) place refl in
    let behind : drop (place + k) tape ≡ after = sym (drop-drop k place tape) ∙ ap (drop k) here ∙ drop_at (spelling r) after k refl in
    let stands : Stands tape place r (place + k) = (fits, may, refl, here ∙ ap (λ l. spelling r ++ l) (sym behind)) in
    only tape place a (Ok (Some r)) n (place + length (spelling r)) reads stands
