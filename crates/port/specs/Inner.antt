-- What the private functions find. No public contract cites this file.
use Rattle.std.specs.Prelude.{ℕ, ◌-◌, ◌*◌, cond, List, ◌++◌, leb, take, drop, replicate}
use Rattle.queue.specs.declared.Waiting.{Waiting}
use Rattle.queue.specs.Line.{no_record}
use Rattle.callers.specs.Queues.{room}

-- Records that were copied out of a lent list, and back

-- how many: the first i queues, or none where the list does not reach their end
abbrev pub reach_of : ℕ → ℕ → ℕ
reach_of i length = cond (leb i 4) (cond (leb (room * i) length) (room * i) 0) 0

abbrev pub loaded_of : List Waiting → ℕ → List Waiting
loaded_of list n = take n list ++ replicate (32 - n) no_record

abbrev pub stored_of : List Waiting → List Waiting → ℕ → List Waiting
stored_of list records n = take n records ++ drop n list
