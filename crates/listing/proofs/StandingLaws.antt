-- A cycle that stands in front of 256 bytes, as the greedy cycle and the best cycle are handed over. Assumes nothing.
use Rattle.std.proofs.Common.{Result, Ok, Err}
use Prim.Native.Nat.{ℕ, ◌+◌, ◌-◌, ◌*◌, ◌≤◌}
use mathlib.Core.Path.{◌≡◌, sym, ap, ◌∙◌}
use mathlib.Core.List.{List, ◌++◌}
use native.Mathlib.Omega.{arith}
use lib.ListN.{length, take, drop, replicate, length-append}
use lib.Seq.{take_at}
use borrow.Author.Tests.{leb-true}
use Rattle.text.specs.Text.{ascii, decimal, spaced}
use Rattle.unit.specs.declared.FunctionUnit.{FunctionUnit}
use Rattle.unit.specs.declared.Refusal.{Refusal}
use Rattle.unit.specs.Answers.{Answer}
use Rattle.unit.specs.Unit.{marked}
use Rattle.collision.specs.Pipeline.{total}
use Rattle.collision.specs.Vector.{vector_word}
use Rattle.diagram.specs.Diagram.{width}
use Rattle.diagram.specs.Answers.{written}
use Rattle.cycles.specs.declared.Counted.{Counted}
use Rattle.cycles.specs.Greedy.{greedy_of, counting, greedy_answer, greedy_out}
use Rattle.cycles.proofs.GreedyLaws.{greedy_cycle_lem}
use Rattle.planner.specs.Plans.{search_answer, Found, SearchPromise}
use Rattle.listing.specs.Lines.{newline}
use Rattle.text.specs.Wrote.{Put}
use Rattle.listing.specs.Inner.{Small}
use Rattle.text.proofs.BoundedLaws.{put_as}
use Rattle.listing.proofs.AskedLaws.{greedy_passes, search_passes}

-- `count` and `sum` are the cycle's, and it is the first `count` of the bytes
pub record Standing (cycle : List ℕ) (count sum : ℕ) (bytes : List ℕ) : Type 0 where
  pub few : length cycle ≤ 256
  pub counts : count ≡ length cycle
  pub adds : sum ≡ total cycle
  pub front : take count bytes ≡ cycle
  pub room : count ≤ length bytes

pub standing_part : {cycle : List ℕ} {count sum : ℕ} {bytes : List ℕ} → Standing cycle count sum bytes → count ≡ length (take count bytes)
standing_part s = s.counts ∙ ap length (sym s.front)

-- a line that was written of those bytes is the cycle's
pub standing_line : {cycle : List ℕ} {count sum : ℕ} {bytes before : List ℕ} {at : ℕ} {after : List ℕ} {end : ℕ} (word : List ℕ) (n : ℕ)
    → Standing cycle count sum bytes → length word + 1040 ≤ n
    → Put (length word + 4 * length (take count bytes) + 16) before at
    (word ++ spaced (take count bytes) ++ ascii " sum " ++ decimal sum ++ newline) after end
    → Put n before at (word ++ spaced cycle ++ ascii " sum " ++ decimal (total cycle) ++ newline) after end
standing_line word n s l p = put_as p (simp (s.front, s.adds)) (omega (arith, ap length s.front))

-- A cycle in front of any bytes

front_part : (cycle rest : List ℕ) (count : ℕ) → count ≡ length cycle → take count (cycle ++ rest) ≡ cycle
front_part cycle rest count e = take_at cycle rest count (sym e)

front_room : (cycle rest : List ℕ) (count : ℕ) → count ≡ length cycle → count ≤ length (cycle ++ rest)
front_room cycle rest count e = omega (arith, length-append cycle rest)

-- The greedy cycle

module _ {u : FunctionUnit} {q : ℕ} (s : Small u q) where
  greedy_says : greedy_answer u q 16000 256 ≡ counting (Ok tt) (greedy_of 1 (marked u) q)
  unfolding greedy_answer
  greedy_says = ap (λ a. counting a (greedy_of 1 (marked u) q)) (greedy_passes s)

  -- it is not refused
  pub greedy_handed : {A : Type 0} {answer : (Result Counted Refusal)} {why : Refusal} → answer ≡ greedy_answer u q 16000 256 → answer ≡ Err why → A
  greedy_handed {why = why} e t =
      let r : Err why ≡ counting (Ok tt) (greedy_of 1 (marked u) q) = sym t ∙ e ∙ greedy_says in
      let z : ◌≡◌ {A = ℕ} 0 1 = cc in
      absurd (omega arith)

  greedy_writes : (bytes : List ℕ) → length bytes ≡ 256 → greedy_out u q 16000 bytes ≡ written (Ok tt) (greedy_of 1 (marked u) q) bytes
  unfolding greedy_out
  greedy_writes bytes n = rw (n, greedy_passes s)

  pub greedy_stands : {answer : (Result Counted Refusal)} {counted : Counted} {after : List ℕ} (bytes : List ℕ) → length bytes ≡ 256
      → answer ≡ greedy_answer u q 16000 256 → after ≡ greedy_out u q 16000 bytes → answer ≡ Ok counted
      → Standing (greedy_of 1 (marked u) q) counted.count counted.sum after
  greedy_stands {counted = counted} bytes n e w t =
      let l : List ℕ = greedy_of 1 (marked u) q in
      let same : Ok counted ≡ counting (Ok tt) l = sym t ∙ e ∙ greedy_says in
      let is : counted ≡ record { count = length l; sum = total l } = cc in
      let here = w ∙ greedy_writes bytes n in
      let counts : counted.count ≡ length l = ap (λ c. c.count) is in
      record {
        few = (greedy_cycle_lem 1 (width (vector_word (marked u) q)) (vector_word (marked u) q) (leb-true _ _ s.few)).few;
        counts = counts;
        adds = ap (λ c. c.sum) is;
        front = rw here (front_part l (drop (length l) bytes) counted.count counts);
        room = rw here (front_room l (drop (length l) bytes) counted.count counts);
      }

-- The best cycle

pub search_finds : {u : FunctionUnit} {q : ℕ} {words : List ℕ} {answer : Answer} {after : FunctionUnit} (before : List ℕ) → length before ≡ 16000
    → Small u q → SearchPromise u q before words answer after → Found u q after
search_finds {u} {q} before n s p = p.found (p.says ∙ ap (search_answer u q) n ∙ search_passes s)

pub search_stands : {u : FunctionUnit} {q : ℕ} {after : FunctionUnit} (f : Found u q after)
    → Standing f.cycle after.plan.count after.plan.sum after.plan.latencies
search_stands {after = after} f =
    let l : List ℕ = f.cycle in
    let rest : List ℕ = replicate (256 - length l) 0 in
    let counts : after.plan.count ≡ length l = ap (λ v. v.plan.count) f.unit in
    let here : after.plan.latencies ≡ l ++ rest = ap (λ v. v.plan.latencies) f.unit in
    record {
      few = f.few;
      counts = counts;
      adds = ap (λ v. v.plan.sum) f.unit;
      front = rw here (front_part l rest after.plan.count counts);
      room = rw here (front_room l rest after.plan.count counts);
    }
