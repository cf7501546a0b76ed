-- Figure 2 of the paper with A B: its states, its one best loop, and loops that are not, as theorems. Assumes nothing.
use Rattle.std.proofs.Common.{Result, Ok, Err}
use mathlib.Core.Path.{◌≡◌, refl, sym, ap, ◌∙◌, subst}
use mathlib.Core.Bool.{true}
use mathlib.Core.List.{List, [], ◌∷◌}
use Prim.Native.Nat.{ℕ, zero, suc, ◌+◌, ◌*◌, ◌%◌, ◌≤◌, ◌<◌}
use native.Mathlib.Nat.{mod-eq_of_lt}
use native.Mathlib.Decide.{dec_le}
use native.Mathlib.Omega.{arith}
use borrow.Author.Tests.{le-leb}
use lib.Dec.{leb}
use lib.ListN.{length, get_or}
use Rattle.words.specs.Below.{some_below, word_below, span_below, max_below}
use Rattle.unit.specs.declared.Plan.{Plan}
use Rattle.unit.specs.declared.Refusal.{Refusal}
use Rattle.unit.specs.Unit.{marked, marks_inside, inside, sound_of}
use Rattle.unit.specs.Calls.{no_plan}
use Rattle.unit.proofs.Laws.{never_done}
use Rattle.collision.specs.Pipeline.{Collides, total, start_at}
use Rattle.collision.specs.Vector.{collides, row_word, largest_column}
use Rattle.collision.proofs.VectorLaws.{collides→}
use Rattle.collision.proofs.ClashLaws.{clash_collides}
use Rattle.controller.specs.Bank.{register, row_for}
use Rattle.controller.proofs.Examples.{figure2}
use Rattle.planner.specs.Plans.{plan_of, answer_of}
use Rattle.graphs.specs.Graph.{Walk, stay, step, Reachable, Distinct, states_along}
use Rattle.graphs.specs.States.{expand, list_from}
use Rattle.loops.specs.declared.State.{State}
use Rattle.loops.specs.Loop.{Loop, Schedule, tag_at, loop_task, LoopNeverCollides}
use Rattle.loops.specs.Steps.{first_state, loop_graph, loop_states}
use Rattle.loops.specs.Best.{BestLoop}
use Rattle.loops.specs.Answers.{all_tags, loop_answer, LoopPromise}
use Rattle.loops.proofs.StateLaws.{listed_all}
use Rattle.loops.proofs.Sound.{sound_loop}

abbrev ab : List ℕ
ab = 1 ∷ 2 ∷ []

-- the state that the best loop comes back to: A was started three time units after B
abbrev again : State
again = record { position = 0; bank = record { r1 = 7; r2 = 10; r3 = 0; r4 = 0 } }

abbrev pub four : List State
four =
    record { position = 0; bank = record { r1 = 6; r2 = 10; r3 = 0; r4 = 0 } }
    ∷ record { position = 1; bank = record { r1 = 11; r2 = 7; r3 = 0; r4 = 0 } }
    ∷ record { position = 1; bank = record { r1 = 11; r2 = 6; r3 = 0; r4 = 0 } }
    ∷ record { position = 0; bank = record { r1 = 7; r2 = 10; r3 = 0; r4 = 0 } } ∷ []

pub figure2_states : loop_states figure2 (1 ∷ 2 ∷ []) ≡ four
unfolding figure2 marked some_below word_below span_below max_below collides row_word register row_for expand list_from largest_column
figure2_states = refl

-- The unit and the list are in order

pub figure2_sound : sound_of figure2 ≡ true
unfolding figure2 no_plan sound_of marks_inside marked some_below
figure2_sound = refl

pub figure2_loop : Loop figure2 ab
unfolding figure2
figure2_loop = record { some = omega arith; few = omega arith; tag = each }
  where
    each : (i : ℕ) → i < 2 → inside (get_or ab i 0) figure2.functions ≡ true
    each zero h = refl
    each (suc zero) h = refl
    each (suc (suc i)) h = absurd (omega arith)

-- Loops that never collide

walk_13 : Walk (loop_graph figure2 ab) again (1 ∷ 3 ∷ []) again
unfolding figure2 marked some_below word_below collides row_word register row_for
walk_13 = step {t = 1} (record { least = omega arith; granted = refl }) (step {t = 3} (record { least = omega arith; granted = refl }) stay)

first_13 : Walk (loop_graph figure2 ab) (first_state figure2 ab) (1 ∷ 3 ∷ []) again
unfolding figure2 marked some_below word_below collides row_word register row_for
first_13 = step {t = 1} (record { least = omega arith; granted = refl }) (step {t = 3} (record { least = omega arith; granted = refl }) stay)

walk_33 : Walk (loop_graph figure2 ab) again (3 ∷ 3 ∷ []) again
unfolding figure2 marked some_below word_below collides row_word register row_for
walk_33 = step {t = 3} (record { least = omega arith; granted = refl }) (step {t = 3} (record { least = omega arith; granted = refl }) stay)

reached : Reachable (loop_graph figure2 ab) again
reached = record { along = 1 ∷ 3 ∷ []; walk = first_13 }

pub one_three_never : LoopNeverCollides (marked figure2) ab (1 ∷ 3 ∷ [])
one_three_never = sound_loop figure2 ab figure2_sound figure2_loop again (1 ∷ 3 ∷ []) reached refl walk_13 (omega arith)

pub three_three_never : LoopNeverCollides (marked figure2) ab (3 ∷ 3 ∷ [])
three_three_never = sound_loop figure2 ab figure2_sound figure2_loop again (3 ∷ 3 ∷ []) reached refl walk_33 (omega arith)

-- A started one or two time units after B collides with it

close : (t : ℕ) → 1 ≤ t → t ≤ 2 → Collides (marked figure2) 1 2 t
unfolding collides some_below marked figure2
close zero h k = absurd (omega arith)
close (suc zero) h k = collides→ (marked figure2) 1 2 1 refl
close (suc (suc zero)) h k = collides→ (marked figure2) 1 2 2 refl
close (suc (suc (suc t))) h k = absurd (omega arith)

-- so that in every rival the latency after a B is at least 3
module _ (l : List ℕ) (p : Schedule ab l) (never : LoopNeverCollides (marked figure2) ab l) where
  after_b : (i : ℕ) → i * 2 + 1 < length l → 3 ≤ get_or l (i * 2 + 1) 0
  after_b i h = go (dec_le (get_or l (i * 2 + 1) 0) 2)
    where
      t : ℕ
      t = get_or l (i * 2 + 1) 0

      go : Dec (get_or l (i * 2 + 1) 0 ≤ 2) → 3 ≤ get_or l (i * 2 + 1) 0
      go (no n) = omega arith
      go (yes k) =
          let j : ℕ = i * 2 + 1 in
          let odd : (i * 2 + 1) % 2 ≡ 1 = omega arith in
          let even : suc (i * 2 + 1) % 2 ≡ 0 = omega arith in
          let b : tag_at ab (i * 2 + 1) ≡ 2 = ap (λ m. get_or ab m 0) odd in
          let a : tag_at ab (suc (i * 2 + 1)) ≡ 1 = ap (λ m. get_or ab m 0) even in
          let e : start_at l (suc (i * 2 + 1)) ≡ start_at l (i * 2 + 1) + get_or l (i * 2 + 1) 0 = ap (λ m. start_at l (i * 2 + 1) + get_or l m 0) (mod-eq_of_lt h) in
          let c : Collides (marked figure2) (tag_at ab (suc (i * 2 + 1))) (tag_at ab (i * 2 + 1)) (get_or l (i * 2 + 1) 0) =
          subst (λ (x : ℕ). Collides (marked figure2) x (tag_at ab (i * 2 + 1)) (get_or l (i * 2 + 1) 0)) (sym a)
          (subst (λ (y : ℕ). Collides (marked figure2) 1 y (get_or l (i * 2 + 1) 0)) (sym b) (close (get_or l (i * 2 + 1) 0) (p.latencies.each (i * 2 + 1) h) k)) in
          absurd (never (i * 2 + 1) (suc (i * 2 + 1)) (omega arith)
          ((clash_collides (marked figure2) (loop_task ab l (i * 2 + 1)) (loop_task ab l (suc (i * 2 + 1))) (get_or l (i * 2 + 1) 0) e).1 c))

tail_late : (x y : ℕ) (l : List ℕ) → ((i : ℕ) → i * 2 + 1 < length (x ∷ y ∷ l) → 3 ≤ get_or (x ∷ y ∷ l) (i * 2 + 1) 0)
    → (i : ℕ) → i * 2 + 1 < length l → 3 ≤ get_or l (i * 2 + 1) 0
tail_late x y l late i h =
    let e : suc i * 2 + 1 ≡ suc (suc (i * 2 + 1)) = omega arith in
    subst (λ (m : ℕ). 3 ≤ get_or (x ∷ y ∷ l) m 0) e (late (suc i) (omega arith))

-- a list of pairs, each with a sum of at least 4
four_each : (turns : ℕ) (l : List ℕ) → length l ≡ turns * 2 → ((i : ℕ) → i < length l → 1 ≤ get_or l i 0)
    → ((i : ℕ) → i * 2 + 1 < length l → 3 ≤ get_or l (i * 2 + 1) 0) → 4 * turns ≤ total l
four_each zero l n some late = omega arith
four_each (suc k) [] n some late = absurd (omega arith)
four_each (suc k) (x ∷ []) n some late = absurd (omega arith)
four_each (suc k) (x ∷ y ∷ l) n some late =
    omega (
      arith,
      some 0 (omega arith),
      late 0 (omega arith),
      four_each k l (omega arith) (λ i h. some (suc (suc i)) (omega arith)) (tail_late x y l late),
    )

-- The best loop: 1 3, sum 4

pub one_three_best : BestLoop figure2 (1 ∷ 2 ∷ []) (1 ∷ 3 ∷ [])
one_three_best = record {
  schedule = record { latencies = record { nonempty = omega arith; each = each }; turns = 1; whole = refl };
  state = again;
  start = refl;
  cycle = record { reached = reached; closed = walk_13; apart = apart };
  never = one_three_never;
  least = λ rival p never.
      omega (arith, p.whole, four_each p.turns rival p.whole p.latencies.each (after_b rival p never));
}
  where
    each : (i : ℕ) → i < 2 → 1 ≤ get_or (1 ∷ 3 ∷ []) i 0
    each zero h = omega arith
    each (suc zero) h = omega arith
    each (suc (suc i)) h = absurd (omega arith)

    apart : Distinct (loop_graph figure2 ab) (states_along (loop_graph figure2 ab) again (1 ∷ 3 ∷ []))
    apart zero zero o h e = omega arith
    apart zero (suc zero) o h e = let z : ◌≡◌ {A = ℕ} 0 1 = ap (λ (s : State). s.position) e in omega arith
    apart zero (suc (suc j)) o h e = omega arith
    apart (suc i) zero o h e = omega arith
    apart (suc i) (suc zero) o h e = omega arith
    apart (suc i) (suc (suc j)) o h e = omega arith

-- What is not the best loop

-- a loop of a larger average, although it never collides
pub three_three_not_best : BestLoop figure2 (1 ∷ 2 ∷ []) (3 ∷ 3 ∷ []) → ⊥
three_three_not_best b = omega (arith, b.least (1 ∷ 3 ∷ []) one_three_best.schedule one_three_never)

-- a rotation that begins at another position: it collides
pub three_one_collides : LoopNeverCollides (marked figure2) (1 ∷ 2 ∷ []) (3 ∷ 1 ∷ []) → ⊥
three_one_collides never =
    let p : Schedule ab (3 ∷ 1 ∷ []) = record { latencies = record { nonempty = omega arith; each = each }; turns = 1; whole = refl } in
    omega (arith, after_b (3 ∷ 1 ∷ []) p never 0 (omega arith))
  where
    each : (i : ℕ) → i < 2 → 1 ≤ get_or (3 ∷ 1 ∷ []) i 0
    each zero h = omega arith
    each (suc zero) h = omega arith
    each (suc (suc i)) h = absurd (omega arith)

-- a number of latencies that is no multiple of the list's length
pub four_no_schedule : Schedule (1 ∷ 2 ∷ []) (4 ∷ []) → ⊥
four_no_schedule p = omega (arith, p.whole)

-- once around and on: from either state of position 0 a state occurs twice
abbrev Apart : List ℕ → State → Type 0
Apart l s = Distinct (loop_graph figure2 ab) (states_along (loop_graph figure2 ab) s (1 ∷ 3 ∷ 1 ∷ 3 ∷ l))

apart_first : (l : List ℕ) → Apart l (record { position = 0; bank = record { r1 = 6; r2 = 10; r3 = 0; r4 = 0 } }) → ⊥
unfolding figure2 marked some_below word_below collides row_word register row_for
apart_first l d = d 1 3 (omega arith) (omega arith) refl

apart_again : (l : List ℕ) → Apart l again → ⊥
unfolding figure2 marked some_below word_below collides row_word register row_for
apart_again l d = d 1 3 (omega arith) (omega arith) refl

among_four : (l : List ℕ) (s : State) (i : ℕ) → i < 4 → get_or four i (first_state figure2 ab) ≡ s → s.position ≡ 0 → Apart l s → ⊥
among_four l s zero h e p d = apart_first l (subst (Apart l) (sym e) d)
among_four l s (suc zero) h e p d = let z : ◌≡◌ {A = ℕ} 1 0 = ap (λ (x : State). x.position) e ∙ p in omega arith
among_four l s (suc (suc zero)) h e p d = let z : ◌≡◌ {A = ℕ} 1 0 = ap (λ (x : State). x.position) e ∙ p in omega arith
among_four l s (suc (suc (suc zero))) h e p d = apart_again l (subst (Apart l) (sym e) d)
among_four l s (suc (suc (suc (suc i)))) h e p d = omega arith

pub again_not_best : (l : List ℕ) → BestLoop figure2 (1 ∷ 2 ∷ []) (1 ∷ 3 ∷ 1 ∷ 3 ∷ l) → ⊥
again_not_best l b =
    let n : length (loop_states figure2 ab) ≡ 4 = ap length figure2_states in
    let at = listed_all figure2 ab figure2_sound figure2_loop (omega arith) b.state b.cycle.reached in
    let e : get_or four at.index (first_state figure2 ab) ≡ b.state =
    ap (λ (l : List State). get_or l at.index (first_state figure2 ab)) (sym figure2_states) ∙ at.found in
    among_four l b.state at.index (omega (arith, at.inside)) e b.start b.cycle.apart

-- No other loop is best: each pair has a sum of at least 4, and all together of at most 4 for each

module _ (l : List ℕ) (b : BestLoop figure2 ab l) where
  some : (i : ℕ) → i < length l → 1 ≤ get_or l i 0
  some = b.schedule.latencies.each

  late : (i : ℕ) → i * 2 + 1 < length l → 3 ≤ get_or l (i * 2 + 1) 0
  late = after_b l b.schedule b.never

  low : total l ≤ 4 * b.schedule.turns
  low = omega (arith, b.schedule.whole, b.least (1 ∷ 3 ∷ []) one_three_best.schedule one_three_never)

one_pair : (x y turns : ℕ) → 2 ≡ turns * 2 → x + y ≤ 4 * turns → 1 ≤ x → 3 ≤ y → (x ≡ 1) × (y ≡ 3)
one_pair x y turns n h a c = (omega arith, omega arith)

pub figure2_only : (l : List ℕ) → BestLoop figure2 (1 ∷ 2 ∷ []) l → l ≡ 1 ∷ 3 ∷ []
figure2_only [] b = absurd (omega (arith, b.schedule.latencies.nonempty))
figure2_only (x ∷ []) b = absurd (omega (arith, b.schedule.whole))
figure2_only (x ∷ y ∷ []) b =
    let l : List ℕ = x ∷ y ∷ [] in
    let e = one_pair x y b.schedule.turns b.schedule.whole (omega (arith, low l b)) (some l b 0 (omega arith)) (late l b 0 (omega arith)) in
    λ i. e.0 i ∷ e.1 i ∷ []
figure2_only (x ∷ y ∷ z ∷ []) b = absurd (omega (arith, b.schedule.whole))
figure2_only (x ∷ y ∷ z ∷ w ∷ l) b = absurd (again_not_best l (subst (BestLoop figure2 ab) same b))
  where
    rest : (t : ℕ) → length (x ∷ y ∷ z ∷ w ∷ l) ≡ t * 2 → 4 * t ≤ 8 + total l
    rest zero n = omega arith
    rest (suc zero) n = omega arith
    rest (suc (suc t)) n =
        omega (
          arith,
          four_each t l (omega arith) (λ i h. some (x ∷ y ∷ z ∷ w ∷ l) b (suc (suc (suc (suc i)))) (omega arith))
              (tail_late z w l (tail_late x y (z ∷ w ∷ l) (late (x ∷ y ∷ z ∷ w ∷ l) b))),
        )

    bound : x + y + z + w ≤ 8
    bound = omega (arith, low (x ∷ y ∷ z ∷ w ∷ l) b, rest b.schedule.turns b.schedule.whole)

    x1 : 1 ≤ x
    x1 = some (x ∷ y ∷ z ∷ w ∷ l) b 0 (omega arith)

    z1 : 1 ≤ z
    z1 = some (x ∷ y ∷ z ∷ w ∷ l) b 2 (omega arith)

    y3 : 3 ≤ y
    y3 = late (x ∷ y ∷ z ∷ w ∷ l) b 0 (omega arith)

    w3 : 3 ≤ w
    w3 = late (x ∷ y ∷ z ∷ w ∷ l) b 1 (omega arith)

    a : x ≡ 1
    a = omega (arith, bound, x1, z1, y3, w3)

    c : y ≡ 3
    c = omega (arith, bound, x1, z1, y3, w3)

    d : z ≡ 1
    d = omega (arith, bound, x1, z1, y3, w3)

    e : w ≡ 3
    e = omega (arith, bound, x1, z1, y3, w3)

    same : x ∷ y ∷ z ∷ w ∷ l ≡ 1 ∷ 3 ∷ 1 ∷ 3 ∷ l
    same = λ i. a i ∷ c i ∷ d i ∷ e i ∷ l

-- so that the call answers just this, whatever words are lent

figure2_known : all_tags figure2 ab ≡ true
unfolding figure2
figure2_known = refl

figure2_few : leb (length (loop_states figure2 ab)) 256 ≡ true
figure2_few = ap (λ (l : List State). leb (length l) 256) figure2_states

figure2_done : (room : ℕ) → 16000 ≤ room → loop_answer figure2 (1 ∷ 2 ∷ []) room ≡ Ok tt
unfolding loop_answer
figure2_done room h = simp (figure2_sound, figure2_known, le-leb 16000 room h, figure2_few)

pub figure2_answer : (before after : List ℕ) (r : Result Plan Refusal) → 16000 ≤ length before → LoopPromise figure2 (1 ∷ 2 ∷ []) before after r
    → r ≡ Ok (plan_of 0 (1 ∷ 3 ∷ []))
figure2_answer before after r room p = go r refl
  where
    go : (x : Result Plan Refusal) → r ≡ x → r ≡ Ok (plan_of 0 (1 ∷ 3 ∷ []))
    go (Ok plan) e = let f = p.found plan e in e ∙ ap Ok (f.held ∙ ap (plan_of 0) (figure2_only f.latencies f.best))
    go (Err why) e = never_done (ap answer_of (sym e) ∙ p.says ∙ figure2_done (length before) room)
