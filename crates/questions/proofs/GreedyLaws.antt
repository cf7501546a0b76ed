-- The line of the greedy cycle. Assumes nothing.
use Rattle.std.proofs.Common.{Result, Ok, Err}
use mathlib.Core.Path.{◌≡◌, refl, sym, ap, ap₂, ◌∙◌}
use mathlib.Core.List.{List, ◌++◌}
use Prim.Native.Nat.{ℕ, ◌≤◌}
use native.Mathlib.Omega.{arith}
use lib.ListN.{length, take}
use Rattle.text.specs.Text.{ascii, decimal, spaced}
use Rattle.unit.specs.declared.FunctionUnit.{FunctionUnit}
use Rattle.unit.specs.declared.Refusal.{Refusal}
use Rattle.unit.specs.Answers.{Answer}
use Rattle.unit.specs.Unit.{marked}
use Rattle.unit.specs.Calls.{tag_answer}
use Rattle.collision.specs.Pipeline.{total}
use Rattle.collision.specs.Vector.{vector_word}
use Rattle.diagram.specs.Diagram.{width}
use Rattle.diagram.specs.Answers.{states_of, written}
use Rattle.cycles.specs.declared.Counted.{Counted}
use Rattle.cycles.specs.Greedy.{greedy_of, counting, greedy_refusal, greedy_answer, greedy_out}
use Rattle.cycles.proofs.GreedyLaws.{greedy_cycle_lem}
use Rattle.listing.specs.Lines.{newline, refused_line, cycle_line}
use Rattle.questions.specs.Replies.{answered, greedy_reply}
use Rattle.questions.proofs.StatesLaws.{Front, front_written, then_done, few_done}

-- the cycle stands in front of the bytes, and this is its sum
pub record Handed (u : FunctionUnit) (q : ℕ) (bytes : List ℕ) (counted : Counted) : Type 0 where
  pub passed : greedy_refusal u q 16000 256 ≡ Ok tt
  pub cycle : Front (greedy_of 1 (marked u) q) bytes counted.count
  pub adds : counted.sum ≡ total (greedy_of 1 (marked u) q)

module _ (u : FunctionUnit) (q : ℕ) where
  greedy_few : greedy_refusal u q 16000 256 ≡ Ok tt → length (greedy_of 1 (marked u) q) ≤ 256
  unfolding greedy_refusal
  greedy_few e =
      let s : length (states_of 1 (marked u) q) ≤ 256 = few_done (length (states_of 1 (marked u) q)) (then_done (tag_answer u q) _ e) in
      (greedy_cycle_lem 1 (width (vector_word (marked u) q)) (vector_word (marked u) q) s).few

  pub greedy_handed : (words : List ℕ) {asked : (Result Counted Refusal)} {counted : Counted} {bytes : List ℕ} → length words ≡ 256 → asked ≡ greedy_answer u q 16000 256
      → bytes ≡ greedy_out u q 16000 words → asked ≡ Ok counted → Handed u q bytes counted
  unfolding greedy_answer greedy_out
  greedy_handed words {counted = counted} {bytes} l a w t =
      go (greedy_refusal u q 16000 256) refl (sym t ∙ a) (w ∙ ap (λ k. written (greedy_refusal u q 16000 k) (greedy_of 1 (marked u) q) words) l)
    where
      go : (r : Answer) → greedy_refusal u q 16000 256 ≡ r → Ok counted ≡ counting r (greedy_of 1 (marked u) q)
          → bytes ≡ written r (greedy_of 1 (marked u) q) words → Handed u q bytes counted
      go (Ok _) p e w =
          let is : counted ≡ record { count = length (greedy_of 1 (marked u) q); sum = total (greedy_of 1 (marked u) q) } = cc in
          record {
            passed = p;
            cycle = front_written (greedy_of 1 (marked u) q) words (ap (λ c. c.count) is) (greedy_few p) w;
            adds = ap (λ c. c.sum) is;
          }
      go (Err why) p e w = let z : ◌≡◌ {A = ℕ} 0 1 = cc in absurd (omega arith)

  pub greedy_refused : {asked : (Result Counted Refusal)} {why : Refusal} → asked ≡ greedy_answer u q 16000 256 → asked ≡ Err why
      → refused_line why ≡ greedy_reply u q
  unfolding greedy_answer greedy_reply
  greedy_refused {why = why} a t = go (greedy_refusal u q 16000 256) (sym t ∙ a)
    where
      go : (r : Answer) → Err why ≡ counting r (greedy_of 1 (marked u) q)
          → refused_line why ≡ answered r (cycle_line "greedy" (greedy_of 1 (marked u) q))
      go (Ok _) e = let z : ◌≡◌ {A = ℕ} 0 1 = cc in absurd (omega arith)
      go (Err other) e = let s : why ≡ other = cc in ap refused_line s

  pub greedy_shown : {bytes : List ℕ} {counted : Counted} → Handed u q bytes counted
      → ascii "greedy" ++ spaced (take counted.count bytes) ++ ascii " sum " ++ decimal counted.sum ++ newline ≡ greedy_reply u q
  unfolding greedy_reply
  greedy_shown h =
      ap₂ (λ (l : List ℕ) (n : ℕ). ascii "greedy" ++ spaced l ++ ascii " sum " ++ decimal n ++ newline) h.cycle.front h.adds
      ∙ ap (λ r. answered r (cycle_line "greedy" (greedy_of 1 (marked u) q))) (sym h.passed)
