-- The ways a search ends: what it answers, and what the working words and the plan then are. Assumes nothing.
use Rattle.std.proofs.Common.{Result, Ok, Err, Some, None}
use Prim.Native.Nat.{ℕ, suc, ◌+◌, ◌*◌, ◌^◌, ◌≤◌, ◌<◌}
use mathlib.Core.Path.{◌≡◌, refl, sym, ap, ◌∙◌, subst}
use mathlib.Core.Bool.{Bool, true, false}
use mathlib.Core.List.{List, [], ◌∷◌}
use native.Mathlib.Nat.{suc-mul}
use native.Mathlib.Omega.{arith}
use lib.Dec.{leb}
use lib.ListN.{length, get_or, drop, length-drop}
use lib.Seq.{length-take-le}
use borrow.Author.Tests.{le-leb, lt-leb, lt-ltb}
use Rattle.unit.specs.declared.Plan.{Plan}
use Rattle.unit.specs.declared.FunctionUnit.{FunctionUnit}
use Rattle.unit.specs.declared.Refusal.{Refusal}
use Rattle.unit.specs.declared.Refusal.TheVariants.{ShortWork, TooManyStates}
use Rattle.unit.specs.Answers.{Answer}
use Rattle.unit.specs.Unit.{marked}
use Rattle.unit.specs.Calls.{check, and_then, tag_answer}
use Rattle.unit.proofs.Laws.{never_done}
use Rattle.collision.specs.Pipeline.{total}
use Rattle.collision.proofs.VectorLaws.{marked_bounded, vector_lt}
use Rattle.diagram.specs.Diagram.{width}
use Rattle.diagram.specs.States.{states}
use Rattle.diagram.specs.Answers.{states_of, few_states}
use Rattle.diagram.proofs.StatesLaws.{Vector}
use Rattle.diagram.proofs.Walks.{walk_permits}
use Rattle.diagram.proofs.WidthLaws.{width_le}
use Rattle.cycles.specs.Greedy.{WorkAfter}
use Rattle.cycles.specs.Rotation.{first_rotation}
use Rattle.graphs.proofs.Rotations.{rotate_length}
use Rattle.mean_cycle.specs.declared.Cycle.{Cycle}
use Rattle.mean_cycle.specs.Mean.{LeastMean, searchable, Searched}
use Rattle.planner.specs.Plans.{plan_of, with_plan, search_answer, SearchPromise}
use Rattle.planner.specs.Inner.{found, in_first_rotation, Standing, Sought}
use Rattle.planner.proofs.PlanLaws.{found_at}
use Rattle.planner.proofs.BestLaws.{best_of}

-- What is left as it was

untouched : (answer : Answer) (before : List ℕ) → WorkAfter answer before before
untouched answer before = record { size = refl; beyond = λ i h. refl; kept = λ why e ne. refl }

pub never_planned : {A : Type 0} {why : Refusal} {p : Plan} → ◌≡◌ {A = Result Plan Refusal} (Err why) (Ok p) → A
never_planned e = let z : ◌≡◌ {A = ℕ} 0 1 = cc in absurd (omega arith)

pub sought_refused : (u : FunctionUnit) (q : ℕ) (before : List ℕ) (why : Refusal) → tag_answer u q ≡ Err why → Sought u q before before (Err why)
unfolding search_answer
sought_refused u q before why t = record {
  says = sym (ap (λ a. and_then a (check (leb 16000 (length before)) ShortWork (few_states 1 (marked u) q))) t);
  found = λ p d. never_planned d;
  work = untouched (Err why) before;
}

pub sought_short : (u : FunctionUnit) (q w : ℕ) (before : List ℕ) → Vector u q w → length before < 16000 → Sought u q before before (Err ShortWork)
unfolding search_answer
sought_short u q w before v h = record {
  says = sym (simp (v.accepted, lt-leb 16000 (length before) h));
  found = λ p d. never_planned d;
  work = untouched (Err ShortWork) before;
}

-- Whether a search of the diagram was made

module _ (u : FunctionUnit) (q w : ℕ) (before : List ℕ) (v : Vector u q w) (h : 16000 ≤ length before) where
  few_test : searchable (length before) 1 w ≡ leb (length (states 256 1 (width w) w)) 256
  unfolding searchable
  few_test =
      let low : w < 2 ^ 31 = subst (λ (x : ℕ). x < 2 ^ 31) v.word (vector_lt (marked u) (marked_bounded u) q) in
      simp (le-leb 2048 (length before) (omega arith), lt-ltb w (2 ^ 31) low)

  answer_is : (b : Bool) → searchable (length before) 1 w ≡ b → search_answer u q (length before) ≡ check b TooManyStates (Ok tt)
  unfolding search_answer
  answer_is b e =
      let same : leb (length (states_of 1 (marked u) q)) 256 ≡ b =
      ap (λ x. leb (length (states 256 1 (width x) x)) 256) v.word ∙ sym few_test ∙ e in
      simp (v.accepted, le-leb 16000 (length before) h, same)

  pub sought_many : (words : List ℕ) → Searched 1 w before words None → Sought u q before words (Err TooManyStates)
  sought_many words s = record {
    says = sym (answer_is false (sym s.answer));
    found = λ p d. never_planned d;
    work = record {
      size = s.size;
      beyond = λ i l. s.beyond i (omega arith);
      kept = λ why f ne. let same : why ≡ TooManyStates = cc in absurd (ne same);
    };
  }

  -- The cycle that was found

  module _ (words : List ℕ) (c : Cycle) (s : Searched 1 w before words (Some c)) where
    least : LeastMean 1 w words c
    least = s.least c refl

    room : 1792 ≤ length words
    room = omega (arith, s.size)

    long : length (found words c.count) ≡ c.count
    long = length-take-le c.count (drop 1536 words) (rw (length-drop 1536 words) (omega (arith, room, least.few)))

    -- no latency is above 33
    label_low : (i : ℕ) → i < c.count → get_or (found words c.count) i 0 ≤ 33
    label_low i l =
        let p = walk_permits least.cycle.closed i (omega (arith, long)) in
        omega (arith, p.small, width_le w)

    label_small : (i : ℕ) → i < c.count → get_or words (1536 + i) 0 < 2 ^ 8
    label_small i l = omega (arith, label_low i l, found_at words c.count i l)

    pub standing : Standing words c
    standing = record {
      some = least.some;
      latencies = record { room = room; few = least.few; small = label_small };
      adds = least.adds;
      low = omega (arith, least.adds, least.few, total_most 33 (found words c.count) (λ i l. label_low i (omega (arith, long))), long);
    }
      where
        total_most : (b : ℕ) (l : List ℕ) → ((i : ℕ) → i < length l → get_or l i 0 ≤ b) → total l ≤ length l * b
        total_most b [] f = omega arith
        total_most b (x ∷ l) f = omega (arith, f 0 (omega arith), total_most b l (λ i k. f (suc i) (omega arith)), suc-mul (length l) b)

    pub sought_found : (p : Plan) → p ≡ plan_of q (in_first_rotation (found words c.count)) → Sought u q before words (Ok p)
    sought_found p e = record {
      says = sym (answer_is true (sym s.answer));
      found = λ x d. record {
        cycle = in_first_rotation l;
        few = omega (arith, rotate_length l (first_rotation l), long, least.few);
        best = best_of (marked u) (marked_bounded u) q l (omega (arith, long, least.some)) (rw v.word least.cycle)
            (rw (v.word, long, ← least.adds) least.floor);
        plan = let same : x ≡ p = cc in same ∙ e;
      };
      work = record {
        size = s.size;
        beyond = λ i k. s.beyond i (omega arith);
        kept = λ why f ne. never_done (sym f);
      };
    }
      where
        l : List ℕ
        l = found words c.count

-- What the call promises

pub search_refused : (u : FunctionUnit) (q : ℕ) (before words : List ℕ) (why : Refusal)
    → Sought u q before words (Err why) → SearchPromise u q before words (Err why) u
search_refused u q before words why s = record {
  says = s.says;
  kept = λ other f. refl;
  found = λ d. never_done d;
  work = s.work;
}

pub search_found : (u : FunctionUnit) (q : ℕ) (before words : List ℕ) (p : Plan)
    → Sought u q before words (Ok p) → SearchPromise u q before words (Ok tt) (with_plan u p)
search_found u q before words p s =
    let b = s.found p refl in
    record {
      says = s.says;
      kept = λ why f. never_done (sym f);
      found = λ e. record { cycle = b.cycle; few = b.few; best = b.best; unit = ap (with_plan u) b.plan };
      work = s.work;
    }
