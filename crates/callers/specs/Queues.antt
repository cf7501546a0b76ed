-- The callers' queues side by side in one list: caller i's queue is the part of 8 records from record 8 × (i − 1) on, counted from 0. Of it the first
-- `count_of counts i` records wait, the oldest first.
use Rattle.std.specs.Prelude.{ℕ, ◌+◌, ◌-◌, ◌*◌, Bool, not, List, ◌++◌, eqb, get_or, take, drop, set}
use Rattle.queue.specs.declared.Waiting.{Waiting}

-- each caller's queue has room for 8 records
abbrev pub room : ℕ
room = 8

-- where caller i's queue begins
abbrev pub place_of : ℕ → ℕ
place_of i = room * (i - 1)

-- caller i's queue
abbrev pub queue_of : List Waiting → ℕ → List Waiting
queue_of list i = take room (drop (place_of i) list)

-- the list in which caller i has this queue, and all else is as before
abbrev pub with_queue : List Waiting → ℕ → List Waiting → List Waiting
with_queue list i queue = take (place_of i) list ++ queue ++ drop (place_of i + room) list

-- how many wait in caller i's queue
abbrev pub count_of : List ℕ → ℕ → ℕ
count_of counts i = get_or counts (i - 1) 0

-- the counts in which caller i has this one, and all else is as before
abbrev pub with_count : List ℕ → ℕ → ℕ → List ℕ
with_count counts i count = set counts (i - 1) count

-- the records that wait there
abbrev pub waiting_of : List Waiting → List ℕ → ℕ → List Waiting
waiting_of list counts i = take (count_of counts i) (queue_of list i)

-- a caller has work where a record waits in its queue
abbrev pub has_work : List ℕ → ℕ → Bool
has_work counts i = not (eqb (count_of counts i) 0)
