-- What the calls about a tag of a sound unit answer. Assumes nothing.
use Rattle.std.proofs.Common.{Result, Ok, Err}
use Prim.Native.Nat.{ℕ}
use mathlib.Core.Path.{◌≡◌, refl, sym, ap, ◌∙◌}
use mathlib.Core.Bool.{Bool, true, false}
use native.Mathlib.Omega.{arith}
use lib.Dec.{leb}
use lib.ListN.{length}
use Rattle.unit.specs.declared.FunctionUnit.{FunctionUnit}
use Rattle.unit.specs.declared.Refusal.{Refusal}
use Rattle.unit.specs.declared.Refusal.TheVariants.{TooManyStates}
use Rattle.unit.specs.Unit.{marked}
use Rattle.unit.specs.Calls.{check, tag_answer}
use Rattle.collision.specs.Answers.{answering}
use Rattle.diagram.specs.Answers.{states_of, states_refusal, states_answer}
use Rattle.cycles.specs.Greedy.{greedy_refusal}
use Rattle.planner.specs.Plans.{search_answer}
use Rattle.listing.specs.Inner.{value_of, Function, Small}

pub tag_passes : {u : FunctionUnit} {q : ℕ} → Function u q → tag_answer u q ≡ Ok tt
unfolding tag_answer
tag_passes f = simp (f.sound, f.tag)

-- a number is handed out
pub value_answering : {u : FunctionUnit} {q : ℕ} {asked : (Result ℕ Refusal)} {r : ℕ} (n : ℕ) → Function u q
    → asked ≡ answering (tag_answer u q) n → r ≡ value_of asked → r ≡ n
value_answering n f e v = v ∙ ap value_of (e ∙ ap (λ a. answering a n) (tag_passes f))

-- The states, with 256 words

abbrev few : FunctionUnit → ℕ → Bool
few u q = leb (length (states_of 1 (marked u) q)) 256

states_pass : {u : FunctionUnit} {q : ℕ} → Function u q → states_refusal u q 256 ≡ check (few u q) TooManyStates (Ok tt)
unfolding states_refusal
states_pass f = simp (tag_passes f)

states_told : {u : FunctionUnit} {q : ℕ} {asked : (Result ℕ Refusal)} → Function u q → asked ≡ states_answer u q 256
    → asked ≡ answering (check (few u q) TooManyStates (Ok tt)) (length (states_of 1 (marked u) q))
unfolding states_answer
states_told {u} {q} f e = e ∙ ap (λ a. answering a (length (states_of 1 (marked u) q))) (states_pass f)

-- a count is the number of states, which are few
pub record Counted (u : FunctionUnit) (q count : ℕ) : Type 0 where
  pub states : count ≡ length (states_of 1 (marked u) q)
  pub few : few u q ≡ true

pub states_counted : {u : FunctionUnit} {q count : ℕ} {asked : (Result ℕ Refusal)} → Function u q → asked ≡ states_answer u q 256 → asked ≡ Ok count
    → Counted u q count
states_counted {u} {q} {count} f e t = go (few u q) (λ r. r) (sym t ∙ states_told f e)
  where
    n : ℕ
    n = length (states_of 1 (marked u) q)

    go : (b : Bool) → (b ≡ true → few u q ≡ true) → Ok count ≡ answering (check b TooManyStates (Ok tt)) n → Counted u q count
    go true p e = record { states = cc; few = p refl }
    go false p e = let z : ◌≡◌ {A = ℕ} 0 1 = cc in absurd (omega arith)

-- a refusal says that they are many
pub states_refused : {u : FunctionUnit} {q : ℕ} {asked : (Result ℕ Refusal)} {why : Refusal} → Function u q → asked ≡ states_answer u q 256
    → asked ≡ Err why → few u q ≡ false
states_refused {u} {q} {why = why} f e t = go (few u q) (sym t ∙ states_told f e)
  where
    go : (b : Bool) → Err why ≡ answering (check b TooManyStates (Ok tt)) (length (states_of 1 (marked u) q)) → b ≡ false
    go true e = let z : ◌≡◌ {A = ℕ} 0 1 = cc in absurd (omega arith)
    go false e = refl

-- The greedy and the best cycle, with 16,000 words and 256 bytes

pub greedy_passes : {u : FunctionUnit} {q : ℕ} → Small u q → greedy_refusal u q 16000 256 ≡ Ok tt
unfolding greedy_refusal
greedy_passes s = simp (tag_passes s.function, s.few)

pub search_passes : {u : FunctionUnit} {q : ℕ} → Small u q → search_answer u q 16000 ≡ Ok tt
unfolding search_answer
search_passes s = simp (tag_passes s.function, s.few)
