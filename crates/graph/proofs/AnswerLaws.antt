-- The ways that a call ends: what it answers, and the lent bytes. Assumes nothing.
use Rattle.std.proofs.Common.{Result, Ok, Err}
use mathlib.Core.Path.{◌≡◌, refl, sym, ap, ◌∙◌}
use mathlib.Core.Bool.{Bool, true, false, cond}
use mathlib.Core.List.{List, [], ◌∷◌}
use Prim.Native.Nat.{ℕ, ◌≤◌, ◌<◌}
use native.Mathlib.Omega.{arith}
use borrow.Author.Tests.{le-leb, lt-leb, leb-true, eqb-true}
use lib.Dec.{leb, eqb}
use lib.ListN.{length, get_or, take, drop, replicate, length-append}
use lib.Seq.{take_at}
use Rattle.text.specs.Wrote.{Put}
use Rattle.unit.specs.declared.FunctionUnit.{FunctionUnit}
use Rattle.unit.specs.declared.Refusal.{Refusal}
use Rattle.unit.specs.declared.Refusal.TheVariants.{ShortOutput, TooManyStates}
use Rattle.unit.specs.Answers.{Answer}
use Rattle.unit.specs.Unit.{marked}
use Rattle.unit.specs.Calls.{check, and_then, tag_answer}
use Rattle.unit.proofs.Laws.{tag_range}
use Rattle.collision.specs.Vector.{vector_word}
use Rattle.collision.specs.Answers.{answering}
use Rattle.collision.proofs.VectorLaws.{row_lt}
use Rattle.diagram.specs.Diagram.{width}
use Rattle.diagram.specs.Answers.{states_of, few_states, states_refusal, states_answer, written, states_out}
use Rattle.diagram.proofs.Listing.{list_extends}
use Rattle.diagram.proofs.StateLaws.{states_width}
use Rattle.drawing.specs.Answers.{drawn}
use Rattle.drawing.proofs.AnswerLaws.{put_end_lem, put_area, sound_unit}
use Rattle.graph.specs.Dot.{plan_cycle, diagram_text}
use Rattle.graph.specs.Answers.{dot_area, dot_refusal, dot_answer, dot_out}
use Rattle.graph.specs.Inner.{plan_length, Listing, listed_text}

abbrev pub DotEnds : FunctionUnit → ℕ → List ℕ → Result ℕ Refusal → List ℕ → Type 0
DotEnds u q bytes r after = (r ≡ dot_answer u q (length bytes)) × (after ≡ dot_out u q bytes)

dot_ends : (u : FunctionUnit) (q : ℕ) (bytes : List ℕ) (a : Answer) → dot_refusal u q (length bytes) ≡ a
    → DotEnds u q bytes (drawn a (diagram_text u q)) (written a (diagram_text u q) bytes)
unfolding dot_answer dot_out
dot_ends u q bytes a e = (ap (λ x. drawn x (diagram_text u q)) (sym e), ap (λ x. written x (diagram_text u q) bytes) (sym e))

pub dot_refused : (u : FunctionUnit) (q : ℕ) (bytes : List ℕ) (why : Refusal) → tag_answer u q ≡ Err why → DotEnds u q bytes (Err why) bytes
unfolding dot_refusal
dot_refused u q bytes why e =
    dot_ends u q bytes (Err why) (ap (λ a. and_then a (check (leb dot_area (length bytes)) ShortOutput (few_states 1 (marked u) q))) e)

-- the states that were handed out
pub record Handed (u : FunctionUnit) (q count : ℕ) (list : List ℕ) : Type 0 where
  pub few : leb (length (states_of 1 (marked u) q)) 256 ≡ true
  pub counts : count ≡ length (states_of 1 (marked u) q)
  pub front : take count list ≡ states_of 1 (marked u) q
  pub room : count ≤ length list

pub handed_part : {u : FunctionUnit} {q count : ℕ} {list : List ℕ} → Handed u q count list → count ≡ length (take count list)
handed_part h = h.counts ∙ ap length (sym h.front)

module _ (u : FunctionUnit) (q : ℕ) (e : tag_answer u q ≡ Ok tt) where
  pub dot_short : (bytes : List ℕ) → length bytes < dot_area → DotEnds u q bytes (Err ShortOutput) bytes
  unfolding dot_refusal
  dot_short bytes h = dot_ends u q bytes (Err ShortOutput) (simp (e, lt-leb dot_area (length bytes) h))

  dot_passes : (bytes : List ℕ) → dot_area ≤ length bytes → dot_refusal u q (length bytes) ≡ few_states 1 (marked u) q
  unfolding dot_refusal
  dot_passes bytes h = simp (e, le-leb dot_area (length bytes) h)

  -- what was asked with room for 256 states
  states_passes : states_refusal u q 256 ≡ few_states 1 (marked u) q
  unfolding states_refusal
  states_passes = simp e

  asked : {answer : (Result ℕ Refusal)} → answer ≡ states_answer u q 256 → answer ≡ answering (few_states 1 (marked u) q) (length (states_of 1 (marked u) q))
  unfolding states_answer
  asked a = a ∙ ap (λ x. answering x (length (states_of 1 (marked u) q))) states_passes

  pub dot_many : {answer : (Result ℕ Refusal)} {why : Refusal} (bytes : List ℕ) → dot_area ≤ length bytes → answer ≡ states_answer u q 256 → answer ≡ Err why
      → DotEnds u q bytes (Err TooManyStates) bytes
  dot_many {why = why} bytes h a t = go (leb (length (states_of 1 (marked u) q)) 256) refl (sym t ∙ asked a)
    where
      go : (b : Bool) → leb (length (states_of 1 (marked u) q)) 256 ≡ b
          → Err why ≡ answering (check b TooManyStates (Ok tt)) (length (states_of 1 (marked u) q))
          → DotEnds u q bytes (Err TooManyStates) bytes
      go true p f = let z : ◌≡◌ {A = ℕ} 0 1 = cc in absurd (omega arith)
      go false p f = dot_ends u q bytes (Err TooManyStates) (dot_passes bytes h ∙ ap (λ b. check b TooManyStates (Ok tt)) p)

  pub dot_handed : {answer : (Result ℕ Refusal)} {count : ℕ} {list : List ℕ} → answer ≡ states_answer u q 256 → list ≡ states_out u q (replicate 256 0)
      → answer ≡ Ok count → Handed u q count list
  unfolding states_out
  dot_handed {count = count} {list} a o t = go (leb (length (states_of 1 (marked u) q)) 256) refl (sym t ∙ asked a)
    where
      all : List ℕ
      all = states_of 1 (marked u) q

      out : (b : Bool) → leb (length all) 256 ≡ b → list ≡ written (check b TooManyStates (Ok tt)) all (replicate 256 0)
      out b p = o ∙ ap (λ x. written x all (replicate 256 0)) (states_passes ∙ ap (λ b. check b TooManyStates (Ok tt)) p)

      go : (b : Bool) → leb (length all) 256 ≡ b → Ok count ≡ answering (check b TooManyStates (Ok tt)) (length all) → Handed u q count list
      go true p f =
          let n : count ≡ length all = cc in
          let here = out true p in
          record {
            few = p;
            counts = n;
            front = rw here (take_at all (drop (length all) (replicate 256 0)) count (sym n));
            room = rw here (omega (arith, length-append all (drop (length all) (replicate 256 0))));
          }
      go false p f = let z : ◌≡◌ {A = ℕ} 0 1 = cc in absurd (omega arith)

-- The listed states

first_state_lem : (u : FunctionUnit) (q : ℕ) → get_or (states_of 1 (marked u) q) 0 0 ≡ vector_word (marked u) q
first_state_lem u q = let cv = vector_word (marked u) q in (list_extends 1 (width cv) cv 257 0 (cv ∷ [])).same 0 (omega arith)

pub handed_listing : {u : FunctionUnit} {q count : ℕ} {list : List ℕ} → Handed u q count list → Listing (take count list)
handed_listing {u} {q} h =
    let cv = vector_word (marked u) q in
    rw h.front record {
      some = (list_extends 1 (width cv) cv 257 0 (cv ∷ [])).longer;
      few = leb-true _ _ h.few;
      small = rw (first_state_lem u q) (states_width 256 1 cv (row_lt (marked u) q q));
    }

-- The cycle of the plan

pub plan_part : (u : FunctionUnit) (q : ℕ) → take (plan_length u.plan q) u.plan.latencies ≡ plan_cycle u q
unfolding plan_cycle
plan_part u q = go (eqb u.plan.tag q)
  where
    go : (b : Bool) → take (cond b u.plan.count 0) u.plan.latencies ≡ cond b (take u.plan.count u.plan.latencies) []
    go true = refl
    go false = refl

-- a plan of a tag has at most 256 latencies
pub plan_few : (u : FunctionUnit) (q : ℕ) → tag_answer u q ≡ Ok tt → plan_length u.plan q ≤ 256
plan_few u q e = go (eqb u.plan.tag q) refl
  where
    go : (b : Bool) → eqb u.plan.tag q ≡ b → cond b u.plan.count 0 ≤ 256
    go true p =
        let same = eqb-true u.plan.tag q p in
        let t = tag_range u q e in
        ((sound_unit u q e).plan (λ z. omega (arith, t.least))).1
    go false p = omega arith

pub dot_drawn : (u : FunctionUnit) (q : ℕ) → tag_answer u q ≡ Ok tt → {n : ℕ} {after : List ℕ} {end count k : ℕ} {list : List ℕ} (bytes : List ℕ)
    → dot_area ≤ length bytes → Handed u q count list → k ≡ plan_length u.plan q
    → Put n bytes 0 (listed_text q (take k u.plan.latencies) (take count list)) after end → DotEnds u q bytes (Ok end) after
unfolding diagram_text
dot_drawn u q e {count = count} {k} {list} bytes h d l p =
    let r = dot_ends u q bytes (Ok tt) (dot_passes u q e bytes h ∙ ap (λ b. check b TooManyStates (Ok tt)) d.few) in
    (ap Ok (put_end_lem p ∙ ap length same) ∙ r.0, put_area p ∙ ap (λ x. written (Ok tt) x bytes) same ∙ r.1)
  where
    same : listed_text q (take k u.plan.latencies) (take count list) ≡ diagram_text u q
    same = rw (d.front, l, plan_part u q, first_state_lem u q)
