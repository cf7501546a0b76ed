-- One call from its four bytes, with the bytes of its reply. Assumes nothing.
use Rattle.std.proofs.Common.{Result, Ok, Err}
use Prim.Native.Nat.{ℕ, ◌≤◌}
use mathlib.Core.Path.{◌≡◌, refl, sym, ap, ap₂, subst, ◌∙◌}
use mathlib.Core.Bool.{false}
use mathlib.Core.List.{List, ◌∷◌}
use native.Mathlib.Omega.{arith}
use lib.ListN.{length, get_or, replicate}
use borrow.Author.Tests.{eq-eqb, ne_eqb, eqb-false}
use Rattle.unit.specs.declared.Plan.{Plan}
use Rattle.unit.specs.declared.FunctionUnit.{FunctionUnit}
use Rattle.unit.specs.declared.Outcome.{Outcome}
use Rattle.unit.specs.declared.Refusal.{Refusal}
use Rattle.unit.specs.Answers.{Answer}
use Rattle.unit.specs.Numbers.{number_of, number_in}
use Rattle.unit.specs.Calls.{no_plan, mark_of, unmark_of}
use Rattle.planner.specs.Plans.{SearchPromise, read_of}
use Rattle.planner.specs.Sheet.{Call, reply_to, read_reply, Step}
use Rattle.planner.specs.Sheet.Call.{Mark, Unmark, Search, Read}
use Rattle.player.specs.Play.{call_of, plan_bytes, reply_bytes, may_use}
use Rattle.player.specs.Inner.{Told, Turned}

-- The bytes of a reply

no_plan_bytes : plan_bytes no_plan ≡ replicate 261 0
unfolding plan_bytes no_plan
no_plan_bytes = refl

told_bytes : (a : Answer) → number_in a ∷ plan_bytes no_plan ≡ reply_bytes (reply_to a)
unfolding reply_bytes
told_bytes (Ok _) = ap (λ (l : List ℕ). 0 ∷ l) no_plan_bytes
told_bytes (Err why) = ap (λ (l : List ℕ). number_of why ∷ l) no_plan_bytes

pub handed_bytes : (p : Plan) → 0 ∷ plan_bytes p ≡ reply_bytes (read_reply (Ok p))
unfolding reply_bytes
handed_bytes p = refl

pub refused_bytes : {n : ℕ} {p : Plan} (why : Refusal) → n ≡ number_of why → p ≡ no_plan → n ∷ plan_bytes p ≡ reply_bytes (read_reply (Err why))
unfolding reply_bytes
refused_bytes why e f = ap₂ (λ (x : ℕ) (y : Plan). x ∷ plan_bytes y) e f ∙ ap (λ (l : List ℕ). number_of why ∷ l) no_plan_bytes

-- The working words after a search

search_kept : (u after : FunctionUnit) (q : ℕ) (work words : List ℕ) (a : Answer) → SearchPromise u q work words a after
    → may_use (Search q (length work)) (reply_to a) ≡ false → words ≡ work
search_kept u after q work words (Ok _) h e = let z : ◌≡◌ {A = ℕ} 0 1 = cc in absurd (omega arith)
search_kept u after q work words (Err why) h e = h.work.kept why refl (λ t. eqb-false (number_of why) 7 e (ap number_of t))

module _ (u : FunctionUnit) (kind q s c : ℕ) (work : List ℕ) (n : ℕ) (p : Plan) (after : FunctionUnit) where
  at_call : (k : Call) (words : List ℕ) → call_of (length work) kind q s c ≡ k → Turned u k work words n p after
      → Turned u (call_of (length work) kind q s c) work words n p after
  at_call k words e t = subst (λ (x : Call). Turned u x work words n p after) (sym e) t

  -- a call that hands out no plan
  told_turn : (k : Call) (words : List ℕ) (r : Outcome) → Told r n p after → Step u k (reply_to r.answer) r.unit
      → length words ≡ length work → ((i : ℕ) → 2048 ≤ i → get_or words i 0 ≡ get_or work i 0) → (may_use k (reply_to r.answer) ≡ false → words ≡ work)
      → Turned u k work words n p after
  told_turn k words r t step room beyond kept = record {
    reply = reply_to r.answer;
    step = subst (λ (x : FunctionUnit). Step u k (reply_to r.answer) x) (sym t.unit) step;
    bytes = ap₂ (λ (x : ℕ) (y : Plan). x ∷ plan_bytes y) t.number t.plan ∙ told_bytes r.answer;
    room = room;
    beyond = beyond;
    kept = kept;
  }

  pub mark_turn : (r : Outcome) → kind ≡ 0 → r ≡ mark_of u q s c → Told r n p after → Turned u (call_of (length work) kind q s c) work work n p after
  mark_turn r z e t =
      at_call (Mark q s c) work (simp (eq-eqb kind 0 z))
      (told_turn (Mark q s c) work r t (r, e, refl, refl) refl (λ i h. refl) (λ h. refl))

  pub unmark_turn : (r : Outcome) → (kind ≡ 0 → ⊥) → kind ≡ 1 → r ≡ unmark_of u q s c → Told r n p after
      → Turned u (call_of (length work) kind q s c) work work n p after
  unmark_turn r y z e t =
      at_call (Unmark q s c) work (simp (ne_eqb kind 0 y, eq-eqb kind 1 z))
      (told_turn (Unmark q s c) work r t (r, e, refl, refl) refl (λ i h. refl) (λ h. refl))

  pub search_turn : (r : Outcome) (words : List ℕ) → (kind ≡ 0 → ⊥) → (kind ≡ 1 → ⊥) → kind ≡ 2
      → SearchPromise u q work words r.answer r.unit → Told r n p after → Turned u (call_of (length work) kind q s c) work words n p after
  search_turn r words x y z h t =
      at_call (Search q (length work)) words (simp (ne_eqb kind 0 x, ne_eqb kind 1 y, eq-eqb kind 2 z))
      (told_turn (Search q (length work)) words r t
      (record { before = work; words = words; lent = refl; answer = r.answer; promise = h; told = refl })
      h.work.size
      h.work.beyond
      (search_kept u r.unit q work words r.answer h))

  pub read_turn : (r : Result Plan Refusal) → (kind ≡ 0 → ⊥) → (kind ≡ 1 → ⊥) → (kind ≡ 2 → ⊥) → r ≡ read_of u → n ∷ plan_bytes p ≡ reply_bytes (read_reply r)
      → after ≡ u → Turned u (call_of (length work) kind q s c) work work n p after
  read_turn r x y z e b g =
      at_call Read work (simp (ne_eqb kind 0 x, ne_eqb kind 1 y, ne_eqb kind 2 z))
      (record {
        reply = read_reply r;
        step = (r, e, refl, g);
        bytes = b;
        room = refl;
        beyond = λ i h. refl;
        kept = λ h. refl;
      })
