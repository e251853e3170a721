-- A listing grows with the reader. Assumes nothing.
use Rattle.std.proofs.Common.{◌≡◌, ℕ, ◌≤◌, List, [], ◌∷◌, ◌++◌, length, drop, Some, None, Ok, Err, Option, Result, sym, ap, ◌∙◌, subst, arith, rules, length-append, take-append-drop}
use Rattle.std.specs.List.{flat_map, AllByRecursion}
use Rattle.std.proofs.ByRecursion.{All-append}
use Rattle.std.proofs.lemmas.Grind.{common_steps}
use Rattle.std.proofs.lemmas.List.{flat_map_more, length-drop, drop_all}
use Rattle.rules.specs.Refusals.{number}
use Rattle.rules.specs.declared.refusal.Refusal.{Refusal}
use Rattle.tape.specs.Lines.{listed_line, tape_refused_line}
use Rattle.tape.specs.Listings.{GroupFirst, Holds, Listing, place_behind}
use Rattle.tape.specs.Listings.Listing.{whole, faulty}
use Rattle.records.specs.Records.{RecordFits, kind_of}
use Rattle.tape.specs.Tapes.{Faulty, MayStand, Reads, ReadUpTo, TooLong}
use Rattle.records.specs.declared.Record.{Record}
use Rattle.tape.proofs.Laws.{goes_on}

-- the reader stands at the place, behind the records, and the text lists them
pub record Sofar (tape text : List ℕ) (place : ℕ) (records : List Record) : Type 0 where
  pub read : ReadUpTo tape place records
  pub inside : place ≤ length tape
  pub fit : AllByRecursion RecordFits records
  pub ordered : GroupFirst records
  pub short : TooLong tape → ⊥
  pub listed : text ≡ flat_map listed_line records

-- a record that may stand behind these
ordered_more : (records : List Record) (r : Record) → GroupFirst records → MayStand (place_behind records) (kind_of r) → GroupFirst (records ++ (r ∷ []))
ordered_more records r first may = search (rules, All-append, length-append)

module _ (tape text : List ℕ) (place : ℕ) (records : List Record) (sofar : Sofar tape text place records) where
  here : place ≡ place_behind records
  here =
      let long = ap length sofar.read in
      let inside = sofar.inside in
      grind (arith, common_steps)

  holds : Holds tape records (drop place tape)
  holds = record {
    spelled = sym (take-append-drop place tape) ∙ ap (λ l. l ++ drop place tape) sofar.read;
    fit = sofar.fit;
    ordered = sofar.ordered;
    short = sofar.short;
  }

  pub one_more : (r : Record) (next : ℕ) → Reads tape place (Ok (Some r)) next → Sofar tape (text ++ listed_line r) next (records ++ (r ∷ []))
  one_more r next reads = record {
    read = (goes_on tape place (Ok (Some r)) next reads records sofar.read).0;
    inside =
        let long = ap length reads.3 in
        let inside = sofar.inside in
        grind (arith, common_steps);
    fit = All-append RecordFits records (r ∷ []) sofar.fit (reads.0, tt);
    ordered = ordered_more records r sofar.ordered (subst (λ p. MayStand p (kind_of r)) here reads.1);
    short = sofar.short;
    listed = ap (λ l. l ++ listed_line r) sofar.listed ∙ flat_map_more listed_line [] records r;
  }

  pub at_end : (next : ℕ) → Reads tape place (Ok None) next → Listing tape text
  at_end next reads =
      let all : Holds tape records [] = subst (Holds tape records) (drop_all place tape reads.0) holds in
      subst (Listing tape) (sym sofar.listed) (whole records all)

  pub at_fault : (e : Refusal) (next : ℕ) → Reads tape place (Err e) next → Listing tape (text ++ tape_refused_line (number e) place)
  at_fault e next reads =
      let fault : Faulty (drop place tape) (place_behind records) e = subst (λ p. Faulty (drop place tape) p e) here reads.1 in
      subst (λ t. Listing tape (t ++ tape_refused_line (number e) place)) (sym sofar.listed) (subst (λ p. Listing tape (flat_map listed_line records ++ tape_refused_line (number e) p)) (sym here) (faulty records (drop place tape) e holds (omega (arith, reads.0, length-drop place tape)) fault))

-- what was read, by other names for the tape and the answer
pub reads_as : {tape other : List ℕ} {a b : Result (Option Record) Refusal} (place next : ℕ) → tape ≡ other → a ≡ b → Reads tape place a next → Reads other place b next
reads_as {tape} {other} {a} {b} place next e f reads = subst (λ t. Reads t place b next) e (subst (λ x. Reads tape place x next) f reads)
