-- What a time unit does, by its tests, by how many wait and by the controller's answer to a start. Assumes nothing.
use Rattle.std.proofs.Common.{Ok, Err, Some, None}
use Prim.Native.Nat.{ℕ, zero, suc, ◌≤◌}
use mathlib.Core.Path.{◌≡◌, refl, ap, ◌∙◌, sym}
use mathlib.Core.Bool.{true, cond}
use mathlib.Core.List.{List, [], ◌∷◌}
use native.Mathlib.Omega.{arith}
use lib.ListN.{length, get_or, take}
use Rattle.words.proofs.Tests.{by_test}
use Rattle.unit.specs.declared.FunctionUnit.{FunctionUnit}
use Rattle.unit.specs.declared.Refusal.{Refusal}
use Rattle.unit.specs.Answers.{Answer}
use Rattle.unit.specs.Unit.{inside}
use Rattle.unit.proofs.Laws.{never_done}
use Rattle.controller.specs.declared.Bank.{Bank}
use Rattle.controller.specs.declared.Event.TheVariants.{Start}
use Rattle.controller.specs.Bank.{granted, event_answer}
use Rattle.controller.proofs.StepLaws.{start_answered, start_accepted}
use Rattle.queue.specs.declared.Waiting.{Waiting}
use Rattle.queue.specs.Passed.{Passed}
use Rattle.queue.specs.Line.{no_record, tag_of, tags_inside}
use Rattle.queue.specs.Calls.{unit_answer, oldest, passed_then, passed_of, list_after, pass_of, pass_list}
use Rattle.queue.specs.Inner.{pass_by}
use Rattle.queue.proofs.LineLaws.{tags_first}
use Rattle.queue.proofs.AcceptedLaws.{unit_accepted}

module _ (size : ℕ) (u : FunctionUnit) (b : Bank) (list : List Waiting) (count : ℕ) where
  -- what it leaves, by what it did

  pub passes : (p : Passed) → passed_of size u b list count ≡ p → pass_by u b count p ≡ pass_of size u b list count
  unfolding pass_of
  passes p e = ap (pass_by u b count) (sym e)

  pub leaves : (p : Passed) → passed_of size u b list count ≡ p → list_after p list count ≡ pass_list size u b list count
  unfolding pass_list
  leaves p e = ap (λ (x : Passed). list_after x list count) (sym e)

  pub refused : (why : Refusal) → unit_answer size u list count ≡ Err why → passed_of size u b list count ≡ Err why
  unfolding passed_of
  refused why e = ap (λ (x : Answer). passed_then x (oldest b (take count list))) e

  -- where the tests passed, it is as the oldest record says
  module _ (done : unit_answer size u list count ≡ Ok tt) where
    abbrev pub first : Waiting
    first = get_or list 0 no_record

    by_oldest : passed_of size u b list count ≡ oldest b (take count list)
    unfolding passed_of
    by_oldest = ap (λ (x : Answer). passed_then x (oldest b (take count list))) done

    -- none waits
    pub none_waits : count ≡ 0 → passed_of size u b list count ≡ Ok None
    unfolding oldest
    none_waits z = by_oldest ∙ go count list z
      where
        go : (n : ℕ) (l : List Waiting) → n ≡ 0 → oldest b (take n l) ≡ Ok None
        go zero l e = refl
        go (suc n) l e = absurd (omega arith)

    -- one waits: the list's first record
    module _ (some : 1 ≤ count) where
      by_first : passed_of size u b list count ≡ cond (granted b first.tag) (Ok (Some first)) (Ok None)
      unfolding oldest
      by_first = let a = unit_accepted size u list count done in by_oldest ∙ go count list some (omega (arith, a.long, a.few))
        where
          go : (n : ℕ) (l : List Waiting) → 1 ≤ n → n ≤ length l
              → oldest b (take n l) ≡ cond (granted b (get_or l 0 no_record).tag) (Ok (Some (get_or l 0 no_record))) (Ok None)
          go zero l s h = absurd (omega arith)
          go (suc n) [] s h = absurd (omega arith)
          go (suc n) (x ∷ l) s h = refl

      fits : inside first.tag u.functions ≡ true
      fits = let a = unit_accepted size u list count done in go count list some (omega (arith, a.long, a.few)) a.tags
        where
          go : (n : ℕ) (l : List Waiting) → 1 ≤ n → n ≤ length l → tags_inside u.functions (take n l) ≡ true
              → inside (get_or l 0 no_record).tag u.functions ≡ true
          go zero l s h t = absurd (omega arith)
          go (suc n) [] s h t = absurd (omega arith)
          go (suc n) (x ∷ l) s h t = tags_first u x (take n l) t

      pub started : event_answer u b (Start (tag_of first)) ≡ Ok tt → passed_of size u b list count ≡ Ok (Some first)
      started e = by_first ∙ ap (λ x. cond x (Ok (Some first)) (Ok None)) (start_accepted u b (tag_of first) e).granted

      pub not_started : (why : Refusal) → event_answer u b (Start (tag_of first)) ≡ Err why → passed_of size u b list count ≡ Ok None
      not_started why e = by_first ∙ by_test (granted b first.tag)
          (λ g. never_done (sym e ∙ start_answered u b (tag_of first) (unit_accepted size u list count done).sound fits g))
          (λ g. ap (λ x. cond x (Ok (Some first)) (Ok None)) g)
