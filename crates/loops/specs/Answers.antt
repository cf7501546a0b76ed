-- What the search for a loop's latencies answers, and the working words afterwards.
use Rattle.std.specs.Prelude.{◌≡◌, Bool, true, ◌&&◌, List, [], ◌∷◌, ℕ, ◌≤◌, leb, length, Result, Ok}
use Rattle.unit.specs.declared.FunctionUnit.{FunctionUnit}
use Rattle.unit.specs.declared.Plan.{Plan}
use Rattle.unit.specs.declared.Refusal.{Refusal}
use Rattle.unit.specs.declared.Refusal.TheVariants.{NotSound, BadLoop, NoSuchTag, ShortWork, TooManyStates}
use Rattle.unit.specs.Answers.{Answer}
use Rattle.unit.specs.Unit.{inside, sound_of}
use Rattle.unit.specs.Calls.{check}
use Rattle.cycles.specs.Greedy.{WordsAfter}
use Rattle.planner.specs.Plans.{plan_of, answer_of}
use Rattle.loops.specs.Steps.{loop_states}
use Rattle.loops.specs.Best.{BestLoop}

-- every tag of the list is one of the unit's
abbrev pub all_tags : FunctionUnit → List ℕ → Bool
all_tags u [] = true
all_tags u (t ∷ tags) = inside t u.functions && all_tags u tags

-- 7 for more than 256 states (`SevenExactly`, crate loop_claims)
abbrev pub few_loop_states : FunctionUnit → List ℕ → Answer
few_loop_states u tags = check (leb (length (loop_states u tags)) 256) TooManyStates (Ok tt)

-- 1 for the unit, 17 for the length of the list, 2 for a tag, 5 for the working words, and 7: the first that applies
unfoldable pub loop_answer : FunctionUnit → List ℕ → ℕ → Answer
loop_answer u tags room =
    check (sound_of u) NotSound
    (check (inside (length tags) 8) BadLoop
    (check (all_tags u tags) NoSuchTag
    (check (leb 16000 room) ShortWork (few_loop_states u tags))))

-- the latencies as a plan holds them, of tag 0. Free is which of several loops of least average is found.
pub record LoopFound (u : FunctionUnit) (tags : List ℕ) (plan : Plan) : Type 0 where
  pub latencies : List ℕ
  pub few : length latencies ≤ 256
  pub best : BestLoop u tags latencies
  pub held : plan ≡ plan_of 0 latencies

-- Free are the first 16,000 working words, unless the search is refused by 1, 17, 2 or 5 (`WordsAfter`). The unit is taken by value: its plan stays.
pub record LoopPromise (u : FunctionUnit) (tags before after : List ℕ) (r : Result Plan Refusal) : Type 0 where
  pub says : answer_of r ≡ loop_answer u tags (length before)
  pub found : (p : Plan) → r ≡ Ok p → LoopFound u tags p
  pub work : WordsAfter 16000 (answer_of r) before after
