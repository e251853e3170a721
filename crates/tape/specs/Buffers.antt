-- What a call leaves in the buffer that it is lent. Assumes nothing.
use Rattle.std.specs.Prelude.{◌≡◌, ℕ, ◌<◌, ◌≤◌, List, ◌++◌, length, drop, Ok, Err, Result}
use Rattle.rules.specs.declared.refusal.Refusal.{Refusal}
use Rattle.rules.specs.declared.refusal.Refusal.TheVariants.{BufferTooShort}

-- a buffer of this many bytes has room for every record and every line
abbrev pub enough_room : ℕ
enough_room = 256

-- The buffer held `before` and holds `after`: the bytes stand at its front, the rest is as it was, and the answer is their number.
-- A buffer that they do not fit is refused and as it was; one with enough room never is.
abbrev pub Puts : List ℕ → List ℕ → List ℕ → Result ℕ Refusal → Type 0
Puts bytes before after (Ok n) = (n ≡ length bytes) × (length bytes ≤ length before) × (after ≡ bytes ++ drop (length bytes) before)
Puts bytes before after (Err e) = (e ≡ BufferTooShort) × (length before < length bytes) × (length before < enough_room) × (after ≡ before)
