-- The numbers of the refusals. Assumes nothing.
use mathlib.Core.Path.{◌≡◌, refl, sym, ap, ◌∙◌}
use mathlib.Core.Bool.{false, cond}
use mathlib.Core.List.{List, [], ◌∷◌, map}
use Prim.Native.Nat.{ℕ, ◌≤◌}
use native.Mathlib.Omega.{arith}
use borrow.Author.Tests.{ne_eqb}
use lib.Dec.{eqb}
use Rattle.unit.specs.declared.Refusal.{Refusal}
use Rattle.unit.specs.declared.Refusal.TheVariants.{NotSound, NoSuchTag, NoSuchSegment, NoSuchColumn, ShortWork, ShortOutput, TooManyStates, NoPlan, BadCycle, NotGranted, BadLength, BadHeader, MarkBeyondColumns, TooManyWait, BadRecord, BadLoop, NoSuchCaller, TwoMarks, BadInterval, PlaceBeyond, NoSmallTable}
use Rattle.unit.specs.Numbers.{number_of, refusals}

-- the papers' list of numbers
pub numbers : map number_of refusals ≡ 1 ∷ 2 ∷ 3 ∷ 4 ∷ 5 ∷ 6 ∷ 7 ∷ 8 ∷ 9 ∷ 10 ∷ 11 ∷ 12 ∷ 13 ∷ 14 ∷ 15 ∷ 17 ∷ 18 ∷ 19 ∷ 20 ∷ 21 ∷ 22 ∷ []
numbers = refl

-- the first of some refusals that is told by a number
abbrev pub told_by : ℕ → List Refusal → Refusal
told_by n [] = NotSound
told_by n (why ∷ more) = cond (eqb (number_of why) n) why (told_by n more)

-- what a number can be, and that it tells the refusal
pub record Numbered (why : Refusal) : Type 0 where
  pub from : 1 ≤ number_of why
  pub to : number_of why ≤ 22
  pub tells : told_by (number_of why) refusals ≡ why

pub numbered : (why : Refusal) → Numbered why
numbered NotSound = record { from = omega arith; to = omega arith; tells = refl }
numbered NoSuchTag = record { from = omega arith; to = omega arith; tells = refl }
numbered NoSuchSegment = record { from = omega arith; to = omega arith; tells = refl }
numbered NoSuchColumn = record { from = omega arith; to = omega arith; tells = refl }
numbered ShortWork = record { from = omega arith; to = omega arith; tells = refl }
numbered ShortOutput = record { from = omega arith; to = omega arith; tells = refl }
numbered TooManyStates = record { from = omega arith; to = omega arith; tells = refl }
numbered NoPlan = record { from = omega arith; to = omega arith; tells = refl }
numbered BadCycle = record { from = omega arith; to = omega arith; tells = refl }
numbered NotGranted = record { from = omega arith; to = omega arith; tells = refl }
numbered BadLength = record { from = omega arith; to = omega arith; tells = refl }
numbered BadHeader = record { from = omega arith; to = omega arith; tells = refl }
numbered MarkBeyondColumns = record { from = omega arith; to = omega arith; tells = refl }
numbered TooManyWait = record { from = omega arith; to = omega arith; tells = refl }
numbered BadRecord = record { from = omega arith; to = omega arith; tells = refl }
numbered BadLoop = record { from = omega arith; to = omega arith; tells = refl }
numbered NoSuchCaller = record { from = omega arith; to = omega arith; tells = refl }
numbered TwoMarks = record { from = omega arith; to = omega arith; tells = refl }
numbered BadInterval = record { from = omega arith; to = omega arith; tells = refl }
numbered PlaceBeyond = record { from = omega arith; to = omega arith; tells = refl }
numbered NoSmallTable = record { from = omega arith; to = omega arith; tells = refl }

-- no refusal is told by 0
pub number_some : (why : Refusal) → eqb (number_of why) 0 ≡ false
number_some why = ne_eqb (number_of why) 0 (λ e. omega (arith, (numbered why).from))

-- no two are told by one number
pub number_one : (a b : Refusal) → number_of a ≡ number_of b → a ≡ b
number_one a b e = sym (numbered a).tells ∙ ap (λ n. told_by n refusals) e ∙ (numbered b).tells
