-- The claims on loops. Assumes nothing.
use Rattle.std.proofs.Common.{Ok, Err}
use mathlib.Core.Path.{◌≡◌, refl, sym, ap, subst}
use mathlib.Core.Bool.{Bool, true, false}
use mathlib.Core.List.{List, [], ◌∷◌}
use Prim.Native.Nat.{ℕ}
use native.Mathlib.Nat.{mod-one, mul-one}
use native.Mathlib.Omega.{arith}
use borrow.Author.Tests.{le-leb, lt-leb, leb-true, leb-false}
use lib.Dec.{leb}
use lib.ListN.{length, get_or}
use Rattle.words.proofs.Tests.{and_true}
use Rattle.unit.specs.declared.FunctionUnit.{FunctionUnit}
use Rattle.unit.specs.declared.Refusal.TheVariants.{NotSound, BadLoop, NoSuchTag, ShortWork, TooManyStates}
use Rattle.unit.specs.Table.{Table}
use Rattle.unit.specs.Numbers.{number_in}
use Rattle.unit.specs.Unit.{marked, inside, sound_of}
use Rattle.unit.specs.Calls.{check}
use Rattle.unit.proofs.Laws.{within}
use Rattle.collision.specs.Pipeline.{Task, Clash, Cycle, start_at, task_at, NeverCollides}
use Rattle.graphs.specs.States.{More}
use Rattle.loops.specs.Loop.{Loop, Schedule, loop_task, LoopNeverCollides}
use Rattle.loops.specs.Steps.{loop_graph, loop_states}
use Rattle.loops.specs.Answers.{all_tags, loop_answer}
use Rattle.loop_claims.specs.Claims.{Asked, SevenExactly, OneAverage, OneTag}
use Rattle.loops.proofs.StateLaws.{loop_many}
use Rattle.loops.proofs.RulingLaws.{all_known, all_tags_lem}

-- 7

-- every test before 7 was passed, and that for 7 was not
record Passed (sound listed known enough few : Bool) : Type 0 where
  unit : sound ≡ true
  list : listed ≡ true
  tags : known ≡ true
  words : enough ≡ true
  many : few ≡ false

passed : (a b c d e : Bool) → check a NotSound (check b BadLoop (check c NoSuchTag (check d ShortWork (check e TooManyStates (Ok tt))))) ≡ Err TooManyStates
    → Passed a b c d e
passed true true true true false e = record { unit = refl; list = refl; tags = refl; words = refl; many = refl }
passed false b c d f e = let n : ◌≡◌ {A = ℕ} 1 7 = ap number_in e in absurd (omega arith)
passed true false c d f e = let n : ◌≡◌ {A = ℕ} 17 7 = ap number_in e in absurd (omega arith)
passed true true false d f e = let n : ◌≡◌ {A = ℕ} 2 7 = ap number_in e in absurd (omega arith)
passed true true true false f e = let n : ◌≡◌ {A = ℕ} 5 7 = ap number_in e in absurd (omega arith)
passed true true true true true e = let n : ◌≡◌ {A = ℕ} 0 7 = ap number_in e in absurd (omega arith)

module _ (u : FunctionUnit) (tags : List ℕ) (room : ℕ) where
  seven_many : loop_answer u tags room ≡ Err TooManyStates → Asked u tags room × More 256 (loop_graph u tags)
  unfolding loop_answer
  seven_many e =
      let p = passed (sound_of u) (inside (length tags) 8) (all_tags u tags) (leb 16000 room) (leb (length (loop_states u tags)) 256) e in
      let k = within (length tags) 8 p.list in
      let loop : Loop u tags = record { some = k.least; few = k.most; tag = all_known u tags p.tags } in (
        record { sound = p.unit; loop = loop; enough = leb-true 16000 room p.words },
        (loop_many u tags p.unit loop).1 (leb-false (length (loop_states u tags)) 256 p.many),
      )

  many_seven : Asked u tags room × More 256 (loop_graph u tags) → loop_answer u tags room ≡ Err TooManyStates
  unfolding loop_answer
  many_seven m =
      let a = m.0 in
      let loop = a.loop in
      simp (
        a.sound,
        and_true (le-leb 1 (length tags) loop.some) (le-leb (length tags) 8 loop.few),
        all_tags_lem u tags loop.tag,
        le-leb 16000 room a.enough,
        lt-leb (length (loop_states u tags)) 256 ((loop_many u tags a.sound loop).0 m.1),
      )

pub seven_exactly : SevenExactly
seven_exactly u tags room = (seven_many u tags room, many_seven u tags room)

-- Averages

pub one_average : OneAverage
one_average u tags a b p q = omega (arith, p.least b q.schedule q.never, q.least a p.schedule p.never)

-- One tag

module _ (T : Table) (q : ℕ) (l : List ℕ) where
  task_same : (i : ℕ) → loop_task (q ∷ []) l i ≡ task_at q l i
  task_same i = ap (λ (t : ℕ). record { tag = t; start = start_at l i }) (ap (λ p. get_or (q ∷ []) p 0) (mod-one i))

  loop_cycle : LoopNeverCollides T (q ∷ []) l → NeverCollides T q l
  loop_cycle n i j h c = n i j h (subst (λ (x : Task). Clash T x (loop_task (q ∷ []) l j)) (sym (task_same i)) (subst (Clash T (task_at q l i)) (sym (task_same j)) c))

  cycle_loop : NeverCollides T q l → LoopNeverCollides T (q ∷ []) l
  cycle_loop n i j h c = n i j h (subst (λ (x : Task). Clash T x (task_at q l j)) (task_same i) (subst (Clash T (loop_task (q ∷ []) l i)) (task_same j) c))

  one_schedule : Cycle 1 l → Schedule (q ∷ []) l
  one_schedule c = record { latencies = c; turns = length l; whole = sym (mul-one (length l)) }

pub one_tag : OneTag
one_tag u q l cycle b c =
    omega (
      arith,
      b.least cycle (one_schedule (marked u) q cycle c.latencies) (cycle_loop (marked u) q cycle c.never),
      c.least l b.schedule.latencies (loop_cycle (marked u) q l b.never),
    )
