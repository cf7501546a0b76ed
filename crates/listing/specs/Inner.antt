-- What the private functions write. No public contract cites this file.
use Rattle.std.specs.Prelude.{ℕ, ◌+◌, ◌*◌, ◌≤◌, ◌≡◌, true, List, leb, length, Result, Ok, Err}
use Rattle.words.specs.Below.{join_below}
use Rattle.text.specs.Wrote.{Put}
use Rattle.unit.specs.declared.FunctionUnit.{FunctionUnit}
use Rattle.unit.specs.Table.{Table}
use Rattle.unit.specs.Unit.{inside, marked, sound_of}
use Rattle.diagram.specs.Answers.{states_of}
use Rattle.planner.specs.Plans.{Best}
use Rattle.listing.specs.Lines.{function_text}
use Rattle.unit.specs.declared.Refusal.{Refusal}

-- the value of an answer that is not refused
abbrev pub value_of : Result ℕ Refusal → ℕ
value_of (Ok n) = n
value_of (Err why) = 0

-- a tag of a sound unit
pub record Function (u : FunctionUnit) (q : ℕ) : Type 0 where
  pub sound : sound_of u ≡ true
  pub tag : inside q u.functions ≡ true

-- a tag of a sound unit whose diagram has at most 256 states
pub record Small (u : FunctionUnit) (q : ℕ) : Type 0 where
  pub function : Function u q
  pub few : leb (length (states_of 1 (marked u) q)) 256 ≡ true

-- text about a function was written in which the best cycle is free
pub record Told (most : ℕ) (text : List ℕ → List ℕ) (u : FunctionUnit) (q : ℕ) (before : List ℕ) (at : ℕ) (after : List ℕ) (end : ℕ) : Type 0 where
  pub cycle : List ℕ
  pub best : leb (length (states_of 1 (marked u) q)) 256 ≡ true → Best 1 (marked u) q cycle
  pub put : Put most before at (text cycle) after end

-- the lines of the first functions were written
pub record ToldAll (u : FunctionUnit) (functions : ℕ) (before after : List ℕ) (end : ℕ) : Type 0 where
  pub cycles : ℕ → List ℕ
  pub best : (q : ℕ) → inside q functions ≡ true → leb (length (states_of 1 (marked u) q)) 256 ≡ true → Best 1 (marked u) q (cycles q)
  pub put : Put (2222 * functions) before 0 (join_below functions (λ i. function_text (marked u) (i + 1) (cycles (i + 1)))) after end
