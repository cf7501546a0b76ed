-- The greedy cycle as a call hands it out: each way that the call ends. Assumes nothing.
use Rattle.std.proofs.Common.{Result, Ok, Err}
use Prim.Native.Nat.{ℕ, ◌≤◌, ◌<◌}
use mathlib.Core.Path.{◌≡◌, refl, sym, ap, ap₂, ◌∙◌, subst}
use mathlib.Core.List.{List, ◌++◌}
use native.Mathlib.Omega.{arith}
use lib.Dec.{leb}
use lib.ListN.{length, drop, length-drop}
use lib.Seq.{length-take-le}
use borrow.Author.Tests.{le-leb, lt-leb}
use Rattle.unit.specs.declared.FunctionUnit.{FunctionUnit}
use Rattle.unit.specs.declared.Refusal.{Refusal}
use Rattle.unit.specs.declared.Refusal.TheVariants.{ShortWork, ShortOutput, TooManyStates}
use Rattle.unit.specs.Answers.{Answer}
use Rattle.unit.specs.Unit.{marked}
use Rattle.unit.specs.Calls.{check, and_then, tag_answer}
use Rattle.unit.proofs.Laws.{never_done}
use Rattle.collision.specs.Pipeline.{total}
use Rattle.diagram.specs.Diagram.{width}
use Rattle.diagram.specs.States.{states}
use Rattle.diagram.specs.Work.{Enlisted}
use Rattle.diagram.specs.Answers.{states_of, few_states, written}
use Rattle.diagram.proofs.StatesLaws.{Vector, Few}
use Rattle.cycles.specs.declared.Noted.{Noted}
use Rattle.cycles.specs.Greedy.{greedy_cycle, greedy_of, greedy_refusal, counting, greedy_answer, greedy_out, WorkAfter}
use Rattle.cycles.specs.Inner.{noted_in, Walkable, Walked, Copyable}
use Rattle.cycles.specs.declared.Counted.{Counted}

-- The working words

pub work_same : (a : Answer) (w : List ℕ) → WorkAfter a w w
work_same a w = record { size = refl; beyond = λ i l. refl; kept = λ why e ne. refl }

work_many : (before after : List ℕ) (cv r : ℕ) → Enlisted 1 cv before after r → WorkAfter (Err TooManyStates) before after
work_many before after cv r e = record {
  size = e.size;
  beyond = λ i l. e.beyond i (omega arith);
  kept = λ why f ne. let s : why ≡ TooManyStates = cc in absurd (ne s);
}

work_done : (before listed after : List ℕ) (cv r : ℕ) (n : Noted) → Enlisted 1 cv before listed r → Walked listed after cv n → WorkAfter (Ok tt) before after
work_done before listed after cv r n e p = record {
  size = p.size ∙ e.size;
  beyond = λ i l. p.beyond i l ∙ e.beyond i (omega arith);
  kept = λ why f ne. never_done (sym f);
}

-- What the parts ask of one another

pub listed_walkable : (before after : List ℕ) (cv r : ℕ) → 16000 ≤ length before → (r ≡ 0 → ⊥) → Enlisted 1 cv before after r → Walkable after cv r
listed_walkable before after cv r h ne e = record {
  room = omega (arith, e.size);
  some = omega arith;
  listed = e.listed (omega arith);
  index = e.index (omega arith);
}

pub walked_copyable : (before after : List ℕ) (cv : ℕ) (n : Noted) (room : ℕ) → 2048 ≤ length before → 256 ≤ room → Walked before after cv n
    → Copyable after n.from n.count room
walked_copyable before after cv n room h b p = record {
  inside = omega (arith, p.size, p.inside);
  few = p.few;
  fits = omega (arith, p.few);
  low = p.low;
}

-- The ways the call ends: what it answers, the bytes, and the working words

abbrev pub Ends : FunctionUnit → ℕ → List ℕ → List ℕ → List ℕ → List ℕ → Result Counted Refusal → Type 0
Ends u q work after bytes out r =
    (r ≡ greedy_answer u q (length work) (length bytes))
    × (out ≡ greedy_out u q (length work) bytes)
    × WorkAfter (greedy_refusal u q (length work) (length bytes)) work after

module _ (u : FunctionUnit) (q : ℕ) (work bytes : List ℕ) where
  ends : (a : Answer) (after : List ℕ) → greedy_refusal u q (length work) (length bytes) ≡ a → WorkAfter a work after
      → Ends u q work after bytes (written a (greedy_of 1 (marked u) q) bytes) (counting a (greedy_of 1 (marked u) q))
  unfolding greedy_answer greedy_out
  ends a after e w = (
    ap (λ x. counting x (greedy_of 1 (marked u) q)) (sym e),
    ap (λ x. written x (greedy_of 1 (marked u) q) bytes) (sym e),
    subst (λ x. WorkAfter x work after) (sym e) w,
  )

  pub ends_refused : (why : Refusal) → tag_answer u q ≡ Err why → Ends u q work work bytes bytes (Err why)
  unfolding greedy_refusal
  ends_refused why e =
      ends (Err why) work
      (ap (λ a. and_then a (check (leb 16000 (length work)) ShortWork (check (leb 256 (length bytes)) ShortOutput (few_states 1 (marked u) q)))) e)
      (work_same (Err why) work)

  module _ (w : ℕ) (v : Vector u q w) where
    pub ends_short_work : length work < 16000 → Ends u q work work bytes bytes (Err ShortWork)
    unfolding greedy_refusal
    ends_short_work h =
        ends (Err ShortWork) work (simp (v.accepted, lt-leb 16000 (length work) h)) (work_same (Err ShortWork) work)

    module _ (room : 16000 ≤ length work) where
      pub ends_short_out : length bytes < 256 → Ends u q work work bytes bytes (Err ShortOutput)
      unfolding greedy_refusal
      ends_short_out h =
          ends (Err ShortOutput) work (simp (v.accepted, le-leb 16000 (length work) room, lt-leb 256 (length bytes) h))
          (work_same (Err ShortOutput) work)

      module _ (fits : 256 ≤ length bytes) (listed : List ℕ) (k : ℕ) (e : Enlisted 1 w work listed k) where
        pub ends_many : 256 < length (states 256 1 (width w) w) → Ends u q work listed bytes bytes (Err TooManyStates)
        unfolding greedy_refusal
        ends_many m =
            let n : 256 < length (states_of 1 (marked u) q) = subst (λ (x : ℕ). 256 < length (states 256 1 (width x) x)) (sym v.word) m in
            ends (Err TooManyStates) listed
            (simp (v.accepted, le-leb 16000 (length work) room, le-leb 256 (length bytes) fits, lt-leb _ 256 n))
            (work_many work listed w k e)

        -- the cycle stands in the words after the walk, and was copied from there
        pub ends_cycle : Few 1 w k → (after : List ℕ) (n : Noted) (sum : ℕ) (out : List ℕ) → Walked listed after w n
            → (sum ≡ total (noted_in after n.from n.count))
            × (out ≡ noted_in after n.from n.count ++ drop n.count bytes)
            → Ends u q work after bytes out (Ok (record { count = n.count; sum = sum }))
        unfolding greedy_refusal
        ends_cycle f after n sum out p c =
            let same : noted_in after n.from n.count ≡ greedy_of 1 (marked u) q = p.cycle ∙ ap (λ x. greedy_cycle 1 (width x) x) (sym v.word) in
            let few : length (states_of 1 (marked u) q) ≤ 256 = subst (λ (x : ℕ). length (states 256 1 (width x) x) ≤ 256) (sym v.word) f.few in
            let long : n.count ≡ length (greedy_of 1 (marked u) q) =
            sym (length-take-le n.count (drop n.from after) (omega (arith, length-drop n.from after, p.inside, p.size, e.size))) ∙ ap length same in
            let r = ends (Ok tt) after
            (simp (v.accepted, le-leb 16000 (length work) room, le-leb 256 (length bytes) fits, le-leb _ 256 few))
            (work_done work listed after w k n e p) in (
              ap₂ (λ (a b : ℕ). Ok (record { count = a; sum = b })) long (c.0 ∙ ap total same) ∙ r.0,
              c.1 ∙ ap₂ (λ (l : List ℕ) (x : ℕ). l ++ drop x bytes) same long ∙ r.1,
              r.2,
            )
