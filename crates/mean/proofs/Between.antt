-- The limits around a centre.
use Rattle.std.proofs.Common.{◌≡◌, ℕ, zero, suc, ◌+◌, ◌*◌, ◌/◌, ◌%◌, ◌^◌, ◌<◌, ◌≤◌, min, ℤ, pos, negsuc, ◌+ℤ◌, ◌-ℤ◌, ◌*ℤ◌, ◌≤ℤ◌, ◌<ℤ◌, sym, refl, ap, ◌∙◌, subst, add-zero, mul-le-mul_right, mod-lt, suc-mul, add-one, arith, w32, w64, to_z, of_z}
use Rattle.std.proofs.Math.Nat.{mod-add-div', div-le_of_le-mul}
use lib.Signed.{mag}
use Rattle.std.proofs.lemmas.Int.{ints}
use Rattle.rules.specs.Limits.{greatest_price, greatest_band}
use Rattle.rules.specs.Ticks.{down, up}
use Rattle.rules.proofs.Rounding.{down_rounded, up_rounded}
use Rattle.tunnel.specs.Ranges.{Range}
use Rattle.mean.specs.Means.{Fraction, LowLimit, HighLimit, Between, between}

-- a whole number is at most a fraction where it is at most the fraction rounded down
under : (a : ℤ) (n q k : ℕ) → a ≤ℤ pos k → k * q ≤ n → (a *ℤ pos q) ≤ℤ pos n
under (pos a) n q k h g =
    let more : a * q ≤ k * q = mul-le-mul_right q (omega (arith, ints, h)) in
    omega (arith, ints, more, g)
under (negsuc a) n q k h g = omega (arith, ints)

over : (a : ℤ) (n q k : ℕ) → pos k <ℤ a → n < suc k * q → pos n <ℤ (a *ℤ pos q)
over (pos a) n q k h g =
    let more : suc k * q ≤ a * q = mul-le-mul_right q (omega (arith, ints, h)) in
    omega (arith, ints, more, g)
over (negsuc a) n q k h g = omega (arith, ints)

-- and at least one where it is at least the fraction rounded up
reaching : (a : ℤ) (n q k : ℕ) → pos k ≤ℤ a → n ≤ k * q → pos n ≤ℤ (a *ℤ pos q)
reaching (pos a) n q k h g =
    let more : k * q ≤ a * q = mul-le-mul_right q (omega (arith, ints, h)) in
    omega (arith, ints, more, g)
reaching (negsuc a) n q k h g = omega (arith, ints)

short : (a : ℤ) (n q k : ℕ) → 1 ≤ q → a <ℤ pos k → ((j : ℕ) → j < k → j * q < n) → (a *ℤ pos q) <ℤ pos n
short (pos a) n q k some h g =
    let less : a * q < n = g a (omega (arith, ints, h)) in
    omega (arith, ints, less)
short (negsuc a) n q k some h g =
    let more = suc-mul a q in
    omega (arith, ints, more, some)

-- `d` with a rest `r` of `q`, rounded up
ceiling : (d r q : ℕ) → r < q → (r + d * q ≤ (d + min 1 r) * q) × ((j : ℕ) → j < d + min 1 r → j * q < r + d * q)
ceiling d zero q h =
    let same = ap (λ k. k * q) (add-zero d) in
    (omega (arith, same), λ j g. let more : suc j * q ≤ d * q = mul-le-mul_right q (omega (arith, g)) in omega (arith, more, suc-mul j q, h))
ceiling d (suc r) q h =
    let one : min 1 (suc r) ≡ 1 = omega arith in
    let same = ap (λ k. (d + k) * q) one ∙ ap (λ k. k * q) (add-one d) ∙ suc-mul d q in
    (omega (arith, same, h), λ j g. let more : j * q ≤ d * q = mul-le-mul_right q (omega (arith, g, one)) in omega (arith, more))

low_limit : (tick w n q : ℕ) → 1 ≤ tick → 1 ≤ q → LowLimit tick w (n, q) (down tick (pos (n / q) -ℤ pos w))
low_limit tick w n q t h =
    let low = down tick (pos (n / q) -ℤ pos w) in
    let (multiple, below, next) = down_rounded tick (pos (n / q) -ℤ pos w) low t refl in
    let whole = mod-add-div' n q in
    let less = mod-lt n h in
    let more = suc-mul (n / q) q in
    (multiple, under (low +ℤ pos w) n q (n / q) (omega (arith, ints)) (omega arith), over (low +ℤ pos tick +ℤ pos w) n q (n / q) (omega (arith, ints)) (omega arith))

high_limit : (tick w n q : ℕ) → 1 ≤ tick → 1 ≤ q → HighLimit tick w (n, q) (up tick (pos (n / q + min 1 (n % q)) +ℤ pos w))
high_limit tick w n q t h =
    let c = n / q + min 1 (n % q) in
    let high = up tick (pos c +ℤ pos w) in
    let (multiple, above, next) = up_rounded tick (pos c +ℤ pos w) high t refl in
    let whole = mod-add-div' n q in
    let (reached, least) = ceiling (n / q) (n % q) q (mod-lt n h) in
    let before : (j : ℕ) → j < c → j * q < n = λ j g. omega (arith, least j g, whole) in
    (multiple, reaching (high -ℤ pos w) n q c (omega (arith, ints)) (omega (arith, reached, whole)), short (high -ℤ pos tick -ℤ pos w) n q c h (omega (arith, ints)) before)

pub between_limits : (tick w : ℕ) (c : Fraction) → 1 ≤ tick → 1 ≤ c.1 → Between tick w c (between tick w c)
between_limits tick w (n, q) t h = (down tick (pos (n / q) -ℤ pos w), up tick (pos (n / q + min 1 (n % q)) +ℤ pos w), low_limit tick w n q t h, high_limit tick w n q t h, refl)

-- an average of prices within their limits is within them
pub floor_within : (n q : ℕ) → 1 ≤ q → n ≤ greatest_price * q → n / q ≤ greatest_price
floor_within n q h g = div-le_of_le-mul q (omega arith)

pub ceil_within : (n q : ℕ) → 1 ≤ q → n ≤ greatest_price * q → n / q + min 1 (n % q) ≤ greatest_price + 1
ceil_within n q h g =
    omega (arith, floor_within n q h g)

-- the ends as they are computed: the centre rounded to a whole number, the half-width, the tick, and one further in
pub low_end : (tick k w : ℕ) (f r : ℤ) → 1 ≤ tick → k ≤ greatest_price → w ≤ greatest_band → f ≡ pos k → mag r < 2 ^ 63 → r ≡ down tick (to_z w32 (of_z w32 (to_z w32 (of_z w32 f) -ℤ to_z w32 w))) → to_z w64 (of_z w64 (to_z w64 (of_z w64 r) +ℤ pos 1)) ≡ down tick (pos k -ℤ pos w) +ℤ pos 1
low_end tick k w f r t most wide whole fits e =
    let y : to_z w32 (of_z w32 (to_z w32 (of_z w32 f) -ℤ to_z w32 w)) ≡ pos k -ℤ pos w = omega (arith, ints) in
    let low : r ≡ down tick (pos k -ℤ pos w) = e ∙ ap (down tick) y in
    let (multiple, below, next) = down_rounded tick (pos k -ℤ pos w) r t low in
    let one : to_z w64 (of_z w64 (to_z w64 (of_z w64 r) +ℤ pos 1)) ≡ r +ℤ pos 1 = omega (arith, ints) in
    one ∙ ap (λ v. v +ℤ pos 1) low

pub high_end : (tick k w : ℕ) (f r : ℤ) → 1 ≤ tick → k ≤ greatest_price + 1 → w ≤ greatest_band → f ≡ pos k → mag r < 2 ^ 63 → r ≡ up tick (to_z w32 (of_z w32 (to_z w32 (of_z w32 f) +ℤ to_z w32 w))) → to_z w64 (of_z w64 (to_z w64 (of_z w64 r) -ℤ pos 1)) ≡ up tick (pos k +ℤ pos w) -ℤ pos 1
high_end tick k w f r t most wide whole fits e =
    let y : to_z w32 (of_z w32 (to_z w32 (of_z w32 f) +ℤ to_z w32 w)) ≡ pos k +ℤ pos w = omega (arith, ints) in
    let high : r ≡ up tick (pos k +ℤ pos w) = e ∙ ap (up tick) y in
    let (multiple, above, next) = up_rounded tick (pos k +ℤ pos w) r t high in
    let one : to_z w64 (of_z w64 (to_z w64 (of_z w64 r) -ℤ pos 1)) ≡ r -ℤ pos 1 = omega (arith, ints) in
    one ∙ ap (λ v. v -ℤ pos 1) high

pub ends_between : (tick w : ℕ) (c : Fraction) (range : Range) → 1 ≤ tick → 1 ≤ c.1 → range ≡ between tick w c → Between tick w c range
ends_between tick w c range t h e = subst (λ r. Between tick w c r) (sym e) (between_limits tick w c t h)
