-- Each refusal has a number of its own, and to compare two refusals is to compare their numbers. Assumes nothing.
use Rattle.std.proofs.Common.{◌≡◌, ◌==◌, Decides, rules}
use Rattle.rules.specs.Refusals.{number}
use Rattle.rules.specs.declared.refusal.Refusal.{Refusal}
use Rattle.rules.specs.contracts.refusal.RefusalPartialEq.TheImpl as refusal_eq

pub same_refusal : (x y : Refusal) → number x ≡ number y → x ≡ y
same_refusal x y e = search rules

-- the comparison tells whether two refusals are the same
pub refusal_decided : (x y : Refusal) → Decides ((refusal_eq.ghosts).eq x y) (x ≡ y)
refusal_decided x y = search rules

-- it is the comparison of their numbers
pub refusal_eq_is : (x y : Refusal) → (refusal_eq.ghosts).eq x y ≡ (number x == number y)
refusal_eq_is x y = search rules
