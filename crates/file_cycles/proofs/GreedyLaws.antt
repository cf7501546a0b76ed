-- The greedy cycle of a function of a unit file: what is answered, handed out and written. Assumes nothing.
use Rattle.std.proofs.Common.{Result, Ok, Err}
use Prim.Native.Nat.{ℕ}
use mathlib.Core.Path.{◌≡◌, refl, sym, ap, ap₂, ◌∙◌, subst}
use mathlib.Core.List.{List}
use native.Mathlib.Omega.{arith}
use lib.ListN.{length}
use Rattle.words.specs.Bytes.{narrow}
use Rattle.unit.specs.declared.Outcome.{Outcome}
use Rattle.unit.specs.declared.Refusal.{Refusal}
use Rattle.unit.specs.declared.Refusal.TheVariants.{NotSound}
use Rattle.unit.specs.Answers.{Answer}
use Rattle.unit.specs.Numbers.{number_of, number_in}
use Rattle.unit.specs.Calls.{and_then, handed}
use Rattle.unit.proofs.EndLaws.{then_kept}
use Rattle.unit_file.specs.Read.{read_answer, read_of, unit_in, table_in}
use Rattle.unit_file.proofs.AcceptedLaws.{read_answer_lem}
use Rattle.unit_file.proofs.AskedLaws.{unit_unread}
use Rattle.collision.specs.Pipeline.{total}
use Rattle.diagram.specs.Answers.{written}
use Rattle.cycles.specs.declared.Counted.{Counted}
use Rattle.cycles.specs.Greedy.{greedy_of, greedy_refusal, counting, greedy_answer, greedy_out, WorkAfter}
use Rattle.cycles.proofs.EndLaws.{work_same}
use Rattle.file_cycles.specs.Cycles.{cycle_refusal}
use Rattle.file_cycles.specs.Inner.{read_then, cycle_told, cycle_count, cycle_sum}

-- How a cycle's numbers are handed out

abbrev pub CycleEnds : Result Counted Refusal → ℕ → ℕ → ℕ → ℕ → ℕ → Type 0
CycleEnds g count countAfter sum sumAfter r = (r ≡ cycle_told g) × ((countAfter ≡ cycle_count g count) × (sumAfter ≡ cycle_sum g sum))

-- a cycle that was counted, by the answer
counted_ends : (a : Answer) (l : List ℕ) (count sum : ℕ)
    → (cycle_told (counting a l) ≡ number_in a)
    × ((cycle_count (counting a l) count ≡ handed a (length l) count) × (cycle_sum (counting a l) sum ≡ handed a (total l) sum))
counted_ends (Ok _) l count sum = (refl, (refl, refl))
counted_ends (Err why) l count sum = (refl, (refl, refl))

-- the file's refusal, then the cycle's
read_then_lem : (a b : Answer) (l : List ℕ) → read_then a (counting b l) ≡ counting (and_then a b) l
read_then_lem (Ok _) b l = refl
read_then_lem (Err why) b l = refl

-- The working words

-- a refusal that goes first leaves them, where the other left them too
work_then : (a b : Answer) (work after : List ℕ) → ((why : Refusal) → a ≡ Err why → b ≡ Err NotSound) → WorkAfter b work after
    → WorkAfter (and_then a b) work after
work_then (Ok _) b work after e w = w
work_then (Err why) b work after e w =
    let same : after ≡ work = w.kept NotSound (e why refl) (λ n. let z : ◌≡◌ {A = ℕ} 0 1 = cc in omega arith) in
    subst (λ l. WorkAfter (Err why) work l) (sym same) (work_same (Err why) work)

-- The call

abbrev pub GreedyEnds : List ℕ → ℕ → List ℕ → List ℕ → List ℕ → List ℕ → ℕ → ℕ → ℕ → ℕ → ℕ → Type 0
GreedyEnds file q work workAfter out outAfter count countAfter sum sumAfter r =
    (r ≡ number_in (cycle_refusal file q (length work) (length out)))
    × ((outAfter ≡ written (cycle_refusal file q (length work) (length out)) (greedy_of 1 (table_in file) (narrow q)) out)
    × ((countAfter ≡ handed (cycle_refusal file q (length work) (length out)) (length (greedy_of 1 (table_in file) (narrow q))) count)
    × ((sumAfter ≡ handed (cycle_refusal file q (length work) (length out)) (total (greedy_of 1 (table_in file) (narrow q))) sum)
    × WorkAfter (cycle_refusal file q (length work) (length out)) work workAfter)))

-- what `cycles::greedy` promises of a unit
abbrev pub GreedyPromise : Outcome → ℕ → List ℕ → List ℕ → List ℕ → List ℕ → Result Counted Refusal → Type 0
GreedyPromise back t work workAfter out outAfter found =
    (found ≡ greedy_answer back.unit t (length work) (length out))
    × (outAfter ≡ greedy_out back.unit t (length work) out)
    × WorkAfter (greedy_refusal back.unit t (length work) (length out)) work workAfter

-- a refused file's unit is refused
greedy_unread : (file : List ℕ) (q work out : ℕ) (why : Refusal) → read_answer file ≡ Err why → greedy_refusal (unit_in file) q work out ≡ Err NotSound
unfolding greedy_refusal
greedy_unread file q work out why e = rw (unit_unread file q why e)

module _ (file : List ℕ) (q : ℕ) (work workAfter out outAfter : List ℕ) (back : Outcome) (t : ℕ) (found : (Result Counted Refusal)) (read : back ≡ read_of file) (tag : t ≡ narrow q)
    (h : GreedyPromise back t work workAfter out outAfter found) where
  -- what was promised of the unit that the file says, and of the tag as a byte
  promised : GreedyPromise (read_of file) (narrow q) work workAfter out outAfter found
  promised =
      subst (λ (s : ℕ). GreedyPromise (read_of file) s work workAfter out outAfter found) tag
      (subst (λ (o : Outcome). GreedyPromise o t work workAfter out outAfter found) read h)

  -- the file's answer, then what was found
  greedy_says : read_then back.answer found ≡ counting (cycle_refusal file q (length work) (length out)) (greedy_of 1 (table_in file) (narrow q))
  unfolding cycle_refusal greedy_answer
  greedy_says =
      ap₂ read_then (ap (λ (o : Outcome). o.answer) read ∙ read_answer_lem file) promised.0
      ∙ read_then_lem (read_answer file) (greedy_refusal (unit_in file) (narrow q) (length work) (length out)) (greedy_of 1 (table_in file) (narrow q))

  greedy_writes : outAfter ≡ written (cycle_refusal file q (length work) (length out)) (greedy_of 1 (table_in file) (narrow q)) out
  unfolding cycle_refusal greedy_out
  greedy_writes =
      promised.1
      ∙ then_kept (λ a. written a (greedy_of 1 (table_in file) (narrow q)) out) (read_answer file) (greedy_refusal (unit_in file) (narrow q) (length work) (length out)) NotSound
      (λ v w. refl) (greedy_unread file (narrow q) (length work) (length out))

  greedy_works : WorkAfter (cycle_refusal file q (length work) (length out)) work workAfter
  unfolding cycle_refusal
  greedy_works =
      work_then (read_answer file) (greedy_refusal (unit_in file) (narrow q) (length work) (length out)) work workAfter
      (greedy_unread file (narrow q) (length work) (length out)) promised.2

  pub greedy_handed : (count countAfter sum sumAfter r : ℕ) → CycleEnds (read_then back.answer found) count countAfter sum sumAfter r
      → GreedyEnds file q work workAfter out outAfter count countAfter sum sumAfter r
  greedy_handed count countAfter sum sumAfter r ends =
      let e = counted_ends (cycle_refusal file q (length work) (length out)) (greedy_of 1 (table_in file) (narrow q)) count sum in (
        ends.0 ∙ ap cycle_told greedy_says ∙ e.0,
        (
          greedy_writes,
          (
            ends.1.0 ∙ ap (λ g. cycle_count g count) greedy_says ∙ e.1.0,
            (ends.1.1 ∙ ap (λ g. cycle_sum g sum) greedy_says ∙ e.1.1, greedy_works),
          ),
        ),
      )
