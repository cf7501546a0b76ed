-- `delays::is_crowded` meets its contract. Assumes nothing.
use Prim.Native.Nat.{ℕ, ◌<◌}
use mathlib.Core.Path.{◌≡◌, sym}
use mathlib.Core.Bool.{Bool, true, false}
use mathlib.Core.List.{List}
use native.Mathlib.Omega.{arith}
use borrow.Author.Rules.{rules}
use borrow.Author.Tests.{tests}
use lib.ListN.{length, get_or}
use Rattle.std.specs.Bool.{MatchBool}
use Rattle.std.specs.List.{AllWithin, HoldsAt}
use Rattle.std.proofs.lemmas.Iterator.{YieldsList-from_slice, cases_from_any}
use Rattle.words.specs.Below.{some_below}
use Rattle.words.proofs.BelowLaws.{some_intro, some_none}
use Rattle.delays.specs.Inner.{two_in}
use Rattle.delays.proofs.is_crowded.Goals as goal

abbrev Two : ℕ → Type 0
Two w = two_in w ≡ true

abbrev NotTwo : ℕ → Type 0
NotTwo w = two_in w ≡ false

by_cases : (l : List ℕ) (n : ℕ) → n ≡ length l → (r : Bool) → MatchBool r ((k : ℕ) × (k < length l) × HoldsAt Two l k) (AllWithin NotTwo l 0 (length l))
    → r ≡ some_below n (λ i. two_in (get_or l i 0))
by_cases l n e true h = sym (some_intro n _ h.0 (omega (arith, h.1)) (h.2 0))
by_cases l n e false h = sym (some_none n _ (λ k m. h k 0 (omega arith) (omega arith)))

pub returns : goal.returns
returns c =
    let l = c.args.columns in
    let n : 32 ≡ length l = search rules in
    by_cases l 32 n _ (cases_from_any _ _ _ Two NotTwo c.any.ensures.ran (YieldsList-from_slice l cc) (λ x q k. search (rules, tests)) (λ x q k. search (rules, tests)))
