-- What a time unit does with the caller whose turn it is. Assumes nothing.
use Rattle.std.proofs.Common.{Ok, Err, Some, None}
use Prim.Native.Nat.{ℕ, zero, suc, ◌+◌, ◌-◌, ◌≤◌, ◌<◌}
use mathlib.Core.Path.{◌≡◌, refl, ap, ◌∙◌, sym, subst}
use mathlib.Core.Bool.{Bool, true, false, cond}
use mathlib.Core.List.{List, [], ◌∷◌}
use native.Mathlib.Omega.{arith}
use lib.ListN.{length, get_or, take, drop, length-drop}
use lib.Seq.{get_or-drop}
use borrow.Author.Tests.{leb-true, eqb-true, eqb-false, not-true, not-false}
use Rattle.words.proofs.Tests.{by_test}
use Rattle.unit.specs.declared.FunctionUnit.{FunctionUnit}
use Rattle.unit.specs.declared.Refusal.{Refusal}
use Rattle.unit.specs.Unit.{inside}
use Rattle.unit.proofs.Laws.{within, inside_of, never_done}
use Rattle.controller.specs.declared.Bank.{Bank}
use Rattle.controller.specs.declared.Event.TheVariants.{Start}
use Rattle.controller.specs.Bank.{granted, event_answer}
use Rattle.controller.proofs.StepLaws.{start_answered, start_accepted}
use Rattle.queue.specs.declared.Waiting.{Waiting}
use Rattle.queue.specs.Line.{no_record, tag_of, tags_inside}
use Rattle.queue.specs.Calls.{oldest}
use Rattle.queue.proofs.LineLaws.{tags_first}
use Rattle.callers.specs.Queues.{place_of, queue_of, count_of, waiting_of, has_work}
use Rattle.callers.specs.Calls.{caller_of}
use Rattle.callers.specs.Parts.{on_by}
use Rattle.callers.specs.Inner.{Among, Servable, Startable}
use Rattle.callers.proofs.EachLaws.{each_at}
use Rattle.callers.proofs.RoundLaws.{now_inside}
use Rattle.callers.proofs.PartLaws.{line_part}
use Rattle.callers.proofs.TestedLaws.{few_at, fits_at}

-- The caller's oldest record

line_first : (l : List Waiting) (count : ℕ) → 1 ≤ count → 0 < length l → take count l ≡ get_or l 0 no_record ∷ take (count - 1) (drop 1 l)
line_first l zero some h = absurd (omega arith)
line_first [] (suc count) some h = absurd (omega arith)
line_first (x ∷ l) (suc count) some h = let e : suc count - 1 ≡ count = omega arith in rw e refl

module _ (u : FunctionUnit) (b : Bank) (C i : ℕ) (list : List Waiting) (counts : List ℕ) (s : Startable u C i list counts) (full : length list ≡ 32) where
  abbrev first : Waiting
  first = get_or list (place_of i) no_record

  abbrev rest : List Waiting
  rest = take (count_of counts i - 1) (drop 1 (drop (place_of i) list))

  line : take (count_of counts i) (drop (place_of i) list) ≡ first ∷ rest
  line =
      line_first (drop (place_of i) list) (count_of counts i) s.some (omega (arith, length-drop (place_of i) list, full, s.caller.few, s.caller.most))
      ∙ ap (λ (w : Waiting). w ∷ rest) (get_or-drop (place_of i) list 0 no_record ∙ ap (λ (k : ℕ). get_or list k no_record) none)
    where
      none : place_of i + 0 ≡ place_of i
      none = omega arith

  waits : waiting_of list counts i ≡ first ∷ rest
  waits = line_part list i (count_of counts i) s.few ∙ line

  tag : inside first.tag u.functions ≡ true
  tag = tags_first u first rest (ap (tags_inside u.functions) (sym line) ∙ s.fit)

  -- by the controller's answer to its start
  module _ (w : Waiting) (same : w ≡ first) where
    pub oldest_granted : event_answer u b (Start (tag_of w)) ≡ Ok tt → Ok (Some w) ≡ oldest b (waiting_of list counts i)
    unfolding oldest
    oldest_granted e =
        ap (λ w. Ok (Some w)) same
        ∙ sym (ap (oldest b) waits
        ∙ ap (λ ok. cond ok (Ok (Some first)) (Ok None)) (ap (λ (x : Waiting). granted b x.tag) (sym same) ∙ (start_accepted u b (tag_of w) e).granted))

    pub oldest_refused : (why : Refusal) → event_answer u b (Start (tag_of w)) ≡ Err why → Ok None ≡ oldest b (waiting_of list counts i)
    unfolding oldest
    oldest_refused why e = by_test (granted b first.tag)
        (λ g. never_done (sym e ∙ subst (λ (x : Waiting). event_answer u b (Start (tag_of x)) ≡ Ok tt) (sym same) (start_answered u b (tag_of first) s.sound tag g)))
        (λ g. sym (ap (oldest b) waits ∙ ap (λ ok. cond ok (Ok (Some first)) (Ok None)) g))

-- Whose turn it is

module _ (C turn : ℕ) (counts : List ℕ) (t : Among C turn) where
  pub caller_there : Among C (caller_of C turn counts)
  caller_there =
      let w = within (caller_of C turn counts) C (now_inside C (has_work counts) turn (inside_of turn C t.least t.most)) in
      record { few = t.few; least = w.least; most = w.most }

-- a caller without work has nothing to start
pub nothing_starts : (b : Bank) (list : List Waiting) (counts : List ℕ) (i : ℕ) → has_work counts i ≡ false → Ok None ≡ oldest b (waiting_of list counts i)
unfolding oldest
nothing_starts b list counts i e =
    sym (ap (λ (k : ℕ). oldest b (take k (queue_of list i))) (eqb-true (count_of counts i) 0 (not-false _ e)))

-- and one with work may start where the tests passed
pub may_start : (u : FunctionUnit) (C turn : ℕ) (list : List Waiting) (counts : List ℕ) (i : ℕ) → Servable u C turn list counts → Among C i → has_work counts i ≡ true
    → Startable u C i list counts
may_start u C turn list counts i s o e =
    let h = inside_of i C o.least o.most in
    record {
      sound = s.sound;
      caller = o;
      some = positive (eqb-false (count_of counts i) 0 (not-true _ e));
      few = leb-true _ _ (each_at C (few_at counts) i s.few h);
      fit = each_at C (fits_at u.functions list counts) i s.fit h;
    }
  where
    positive : {n : ℕ} → (n ≡ 0 → ⊥) → 1 ≤ n
    positive n = omega arith

-- what is started, or not, does not depend on the turn that was handed in
pub any_turn : (u : FunctionUnit) (b : Bank) (C t v : ℕ) (list : List Waiting) (counts : List ℕ) (i : ℕ) (line : List Waiting)
    → on_by u b C t list counts i (oldest b line) ≡ on_by u b C v list counts i (oldest b line)
unfolding oldest
any_turn u b C t v list counts i [] = refl
any_turn u b C t v list counts i (w ∷ _) = go (granted b w.tag)
  where
    go : (g : Bool) → on_by u b C t list counts i (cond g (Ok (Some w)) (Ok None)) ≡ on_by u b C v list counts i (cond g (Ok (Some w)) (Ok None))
    go true = refl
    go false = refl
