-- The greedy cycle: from the first state always the least latency; the cycle starts at the first state of that walk that occurs again.
-- g is the least interval between two starts (1 in every call of the base).
use Rattle.std.specs.Prelude.{◌≡◌, cond, List, [], ◌∷◌, ◌++◌, ℕ, zero, suc, ◌≤◌, leb, eqb, length, get_or, drop, Result, Ok, Err}
use Rattle.words.specs.Below.{least_from}
use Rattle.unit.specs.declared.FunctionUnit.{FunctionUnit}
use Rattle.unit.specs.declared.Refusal.{Refusal}
use Rattle.unit.specs.declared.Refusal.TheVariants.{ShortWork, ShortOutput, TooManyStates}
use Rattle.unit.specs.Answers.{Answer}
use Rattle.unit.specs.Table.{Table}
use Rattle.unit.specs.Unit.{marked}
use Rattle.unit.specs.Calls.{check, and_then, tag_answer}
use Rattle.collision.specs.Pipeline.{total}
use Rattle.collision.specs.Vector.{vector_word}
use Rattle.diagram.specs.Diagram.{width, next, longest}
use Rattle.diagram.specs.States.{has, arc}
use Rattle.diagram.specs.Answers.{few_states, written}
use Rattle.cycles.specs.declared.Counted.{Counted}

-- The cycle

-- the least latency that the state s permits
unfoldable pub least_latency : ℕ → ℕ → ℕ → ℕ
least_latency g n s = least_from (longest g n) 1 (arc g n s)

-- the first place of s in a list that has it
unfoldable pub first_place : ℕ → List ℕ → ℕ
first_place s l = least_from (length l) 0 (λ i. eqb (get_or l i 0) s)

-- The walk came to s, by the states seen and the latency of each. Where s is among them, the cycle is the latencies from the first place of s on;
-- else the walk goes on by the least latency of s. `f` bounds the steps.
unfoldable pub greedy_from : ℕ → ℕ → ℕ → ℕ → List ℕ → List ℕ → ℕ → List ℕ
greedy_from g n cv zero seen latencies s = []
greedy_from g n cv (suc f) seen latencies s =
    let t : ℕ = least_latency g n s in
    let r : List ℕ = greedy_from g n cv f (seen ++ (s ∷ [])) (latencies ++ (t ∷ [])) (next cv s t) in
    cond (has s seen) (drop (first_place s seen) latencies) r

-- of at most 256 states, one occurs again after at most 256 steps
unfoldable pub greedy_cycle : ℕ → ℕ → ℕ → List ℕ
greedy_cycle g n cv = greedy_from g n cv 257 [] [] cv

-- the greedy cycle of a function
abbrev pub greedy_of : ℕ → Table → ℕ → List ℕ
greedy_of g T q = greedy_cycle g (width (vector_word T q)) (vector_word T q)

-- The call, with so many working words and so many bytes of output

unfoldable pub greedy_refusal : FunctionUnit → ℕ → ℕ → ℕ → Answer
greedy_refusal u q room out =
    and_then (tag_answer u q)
    (check (leb 16000 room) ShortWork
    (check (leb 256 out) ShortOutput (few_states 1 (marked u) q)))

-- how many latencies the cycle has, and their sum
abbrev pub counting : Answer → List ℕ → Result Counted Refusal
counting (Ok _) l = Ok (record { count = length l; sum = total l })
counting (Err why) l = Err why

unfoldable pub greedy_answer : FunctionUnit → ℕ → ℕ → ℕ → Result Counted Refusal
greedy_answer u q room out = counting (greedy_refusal u q room out) (greedy_of 1 (marked u) q)

-- the cycle fills the front of the lent bytes, the others stay as before; a refused call changes none
unfoldable pub greedy_out : FunctionUnit → ℕ → ℕ → List ℕ → List ℕ
greedy_out u q room bytes = written (greedy_refusal u q room (length bytes)) (greedy_of 1 (marked u) q) bytes

-- the working words of a call that may use the first so many: these are free, unless the call is refused by another number than 7
pub record WordsAfter (free : ℕ) (answer : Answer) (before after : List ℕ) : Type 0 where
  pub size : length after ≡ length before
  pub beyond : (i : ℕ) → free ≤ i → get_or after i 0 ≡ get_or before i 0
  pub kept : (why : Refusal) → answer ≡ Err why → (why ≡ TooManyStates → ⊥) → after ≡ before

-- greedy and search use the first 2,048
abbrev pub WorkAfter : Answer → List ℕ → List ℕ → Type 0
WorkAfter = WordsAfter 2048
