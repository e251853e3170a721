-- What is rounded is the nearest multiple on its side.
use Rattle.std.proofs.Common.{◌≡◌, ℕ, zero, suc, ◌*◌, ◌/◌, ◌≤◌, ℤ, pos, negsuc, ◌*ℤ◌, neg_ℤ, sym, refl, subst, mod-lt, suc-mul, zero-mul, arith}
use native.Mathlib.Nat.{mod-add-div'}
use Rattle.std.proofs.lemmas.Int.{ints}
use Rattle.rules.specs.Ticks.{RoundedDown, RoundedUp, down, up}

down_is : (tick : ℕ) (z : ℤ) → 1 ≤ tick → RoundedDown tick z (down tick z)
down_is tick (pos a) h =
    let whole = mod-add-div' a tick in
    let less = mod-lt a h in
    ((pos (a / tick), omega (arith, ints)), omega (arith, ints), omega (arith, ints))
down_is tick (negsuc a) h =
    let whole = mod-add-div' a tick in
    let less = mod-lt a h in
    let more = suc-mul (a / tick) tick in
    ((negsuc (a / tick), omega (arith, ints)), omega (arith, ints), omega (arith, ints))

negated : (n tick : ℕ) → neg_ℤ (pos n) *ℤ pos tick ≡ neg_ℤ (pos (n * tick))
negated zero tick = let none = zero-mul tick in omega (arith, ints)
negated (suc n) tick = refl

up_is : (tick : ℕ) (z : ℤ) → 1 ≤ tick → RoundedUp tick z (up tick z)
up_is tick (pos zero) h =
    let less = mod-lt 0 h in
    let whole = mod-add-div' 0 tick in
    ((pos 0, omega (arith, ints)), omega (arith, ints), omega (arith, ints))
up_is tick (pos (suc a)) h =
    let whole = mod-add-div' a tick in
    let less = mod-lt a h in
    let more = suc-mul (a / tick) tick in
    ((pos (suc (a / tick)), omega (arith, ints)), omega (arith, ints), omega (arith, ints))
up_is tick (negsuc a) h =
    let whole = mod-add-div' (suc a) tick in
    let less = mod-lt (suc a) h in
    let under = negated (suc a / tick) tick in
    ((neg_ℤ (pos (suc a / tick)), omega (arith, ints)), omega (arith, ints), omega (arith, ints))

pub down_rounded : (tick : ℕ) (z r : ℤ) → 1 ≤ tick → r ≡ down tick z → RoundedDown tick z r
down_rounded tick z r h e =
    let P : ℤ → Type 0 = λ v. RoundedDown tick z v in
    subst P (sym e) (down_is tick z h)

pub up_rounded : (tick : ℕ) (z r : ℤ) → 1 ≤ tick → r ≡ up tick z → RoundedUp tick z r
up_rounded tick z r h e =
    let P : ℤ → Type 0 = λ v. RoundedUp tick z v in
    subst P (sym e) (up_is tick z h)
