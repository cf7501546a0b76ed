-- Figure 2 of the paper: what its unit grants, and the bank that is left, as theorems. Assumes nothing.
use mathlib.Core.Path.{◌≡◌, refl}
use mathlib.Core.List.{List, [], ◌∷◌, ◌++◌}
use lib.ListN.{replicate}
use Rattle.words.specs.Below.{some_below, word_below}
use Rattle.unit.specs.declared.FunctionUnit.{FunctionUnit}
use Rattle.unit.specs.Unit.{marked, marks_inside, sound_of}
use Rattle.unit.specs.Calls.{no_plan}
use Rattle.collision.specs.Vector.{collides, row_word}
use Rattle.controller.specs.declared.Event.{Event}
use Rattle.controller.specs.declared.Event.TheVariants.{Tick, Start}
use Rattle.controller.specs.Bank.{register, row_for, event_answer, moved, step_of}
use Rattle.controller.specs.History.{outset, played}

-- A is tag 1, B is tag 2; a word for each column, bit r - 1 for segment r
unfoldable pub figure2 : FunctionUnit
figure2 = record {
  functions = 2;
  segments = 3;
  columns = 5;
  marks = (1 ∷ 2 ∷ 4 ∷ 1 ∷ 4 ∷ []) ++ replicate 27 0 ++ (4 ∷ 1 ∷ 4 ∷ 2 ∷ 1 ∷ []) ++ replicate 91 0;
  plan = no_plan;
}

-- A starts; two time units later it would meet itself in segment 3, and is refused; three time units after A, B starts
abbrev pub events : List Event
events = Start (record { 0 = 1 }) ∷ Tick ∷ Start (record { 0 = 1 }) ∷ Tick ∷ Start (record { 0 = 2 }) ∷ []

pub figure2_course : played figure2 outset events ≡ record {
  bank = record { r1 = 0b1011; r2 = 0b0111; r3 = 0; r4 = 0 };
  history = record { time = 4; tasks = record { tag = 2; start = 3 } ∷ record { tag = 1; start = 0 } ∷ [] };
}
unfolding figure2 no_plan sound_of marks_inside marked some_below row_for row_word word_below collides register event_answer moved step_of played
figure2_course = refl
