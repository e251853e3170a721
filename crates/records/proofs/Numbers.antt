-- Numbers and the bytes that spell them. Assumes nothing.
use Rattle.std.proofs.Common.{◌≡◌, ℕ, zero, suc, ◌+◌, ◌*◌, ◌/◌, ◌%◌, ◌^◌, ◌<◌, ◌≤◌, List, [], ◌∷◌, ◌++◌, length, get_or, take, sym, refl, ap, ◌∙◌, pow-suc, add-one, arith}
use native.Mathlib.Nat.{pow-zero}
use Rattle.std.specs.Int.Digits.{number_from_digits}
use Rattle.std.proofs.lemmas.Nat.{div_below}
use Rattle.std.proofs.lemmas.Int.Digits.{number_push, number_more}
use Rattle.std.proofs.lemmas.List.{take_more}
use Rattle.records.specs.Bytes.{big_endian}

-- every element is a byte
abbrev pub Bytes : List ℕ → Type 0
Bytes bs = (i : ℕ) → get_or bs i 0 < 256

-- the number that k bytes spell is spelled by them
pub spelled_number : (k : ℕ) (bs : List ℕ) → Bytes bs → k ≤ length bs → big_endian k (number_from_digits 256 (take k bs)) ≡ take k bs
spelled_number zero bs h l = refl
spelled_number (suc k) bs h l =
    let b = get_or bs k 0 in
    let n = number_from_digits 256 (take k bs) in
    let m = number_from_digits 256 (take (suc k) bs) in
    let more : m ≡ n * 256 + b = ap (λ i. number_from_digits 256 (take i bs)) (sym (add-one k)) ∙ number_more 256 bs k (omega arith) in
    let small = h k in
    let high : m / 256 ≡ n = omega arith in
    let low : m % 256 ≡ b = omega arith in
    ap (λ i. big_endian k i ++ (m % 256 ∷ [])) high ∙ ap (λ i. big_endian k n ++ (i ∷ [])) low
    ∙ ap (λ l. l ++ (b ∷ [])) (spelled_number k bs h (omega arith)) ∙ sym (take_more bs k 0 (omega arith)) ∙ ap (λ i. take i bs) (add-one k)

-- k bytes spell the number that they were made from
pub number_spelled : (k n : ℕ) → n < 256 ^ k → number_from_digits 256 (big_endian k n) ≡ n
number_spelled zero n h = omega (arith, pow-zero 256)
number_spelled (suc k) n h =
    let below : n < 256 ^ k * 256 = omega (arith, pow-suc 256 k) in
    let front = number_spelled k (n / 256) (div_below n 256 (256 ^ k) (omega arith) below) in
    number_push 256 (big_endian k (n / 256)) (n % 256) ∙ omega (arith, front)
