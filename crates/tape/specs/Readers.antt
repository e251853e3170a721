-- Where a reader stands. Assumes nothing.
use Rattle.std.specs.Prelude.{ℕ, List}

-- the tape, and the byte of it, from 0, where the next record begins
pub record Position : Type 0 where
  pub tape : List ℕ
  pub place : ℕ
