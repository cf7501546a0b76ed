-- What the private functions ask and find. No public contract cites this file.
use Rattle.std.specs.Prelude.{ℕ, ◌-◌, ◌≤◌, ◌≡◌, true, List, leb, take, drop, Ok, Some}
use Rattle.unit.specs.declared.FunctionUnit.{FunctionUnit}
use Rattle.unit.specs.Unit.{sound_of}
use Rattle.controller.specs.declared.Bank.{Bank}
use Rattle.queue.specs.declared.Waiting.{Waiting}
use Rattle.queue.specs.Line.{tags_inside, forward}
use Rattle.callers.specs.declared.UnitOn.{UnitOn}
use Rattle.callers.specs.Turn.{each_caller, next_turn}
use Rattle.callers.specs.Queues.{room, place_of, queue_of, with_queue, count_of, with_count, has_work}
use Rattle.callers.specs.Calls.{one_of}

-- 1 to 4 callers, and one of them
pub record Among (callers caller : ℕ) : Type 0 where
  pub few : callers ≤ 4
  pub least : 1 ≤ caller
  pub most : caller ≤ callers

-- no more than 4 callers, and no more than 8 wait in each queue
pub record FewEach (callers : ℕ) (counts : List ℕ) : Type 0 where
  pub few : callers ≤ 4
  pub each : each_caller callers (λ i. leb (count_of counts i) room) ≡ true

-- a time unit in which caller i's oldest record w was started, and the bank is then this
abbrev pub started_by : ℕ → ℕ → Waiting → Bank → List Waiting → List ℕ → UnitOn
started_by C i w b list counts = record {
  turned = record {
    answer = Ok (Some (i, w));
    bank = b;
    turn = next_turn C (has_work (with_count counts i (count_of counts i - 1))) i;
    counts = record { each = with_count counts i (count_of counts i - 1) };
  };
  records = record { list = with_queue list i (forward (queue_of list i) (count_of counts i)) };
}

-- the tests passed, on records of all callers
pub record Servable (u : FunctionUnit) (C turn : ℕ) (list : List Waiting) (counts : List ℕ) : Type 0 where
  pub sound : sound_of u ≡ true
  pub turn_there : one_of C turn ≡ true
  pub few : each_caller C (λ i. leb (count_of counts i) room) ≡ true
  pub fit : each_caller C (λ i. tags_inside u.functions (take (count_of counts i) (drop (place_of i) list))) ≡ true

-- a caller whose oldest record may be started, if the bank grants it
pub record Startable (u : FunctionUnit) (C i : ℕ) (list : List Waiting) (counts : List ℕ) : Type 0 where
  pub sound : sound_of u ≡ true
  pub caller : Among C i
  pub some : 1 ≤ count_of counts i
  pub few : count_of counts i ≤ room
  pub fit : tags_inside u.functions (take (count_of counts i) (drop (place_of i) list)) ≡ true
