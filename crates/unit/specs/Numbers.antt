-- The number of each refusal, and of an answer.
use Rattle.std.specs.Prelude.{List, [], ◌∷◌, ℕ, Ok, Err}
use Rattle.unit.specs.declared.Refusal.{Refusal}
use Rattle.unit.specs.declared.Refusal.TheVariants.{NotSound, NoSuchTag, NoSuchSegment, NoSuchColumn, ShortWork, ShortOutput, TooManyStates, NoPlan, BadCycle, NotGranted, BadLength, BadHeader, MarkBeyondColumns, TooManyWait, BadRecord, BadLoop, NoSuchCaller, TwoMarks, BadInterval, PlaceBeyond, NoSmallTable}
use Rattle.unit.specs.Answers.{Answer}

abbrev pub number_of : Refusal → ℕ
-- a count outside its range, a mark outside the counts, or a plan whose K is 0 or above 256
number_of NotSound = 1
-- tag, segment, column not in the unit
number_of NoSuchTag = 2
number_of NoSuchSegment = 3
number_of NoSuchColumn = 4
-- working words fewer than 16,000
number_of ShortWork = 5
-- output too short
number_of ShortOutput = 6
-- more than 256 states
number_of TooManyStates = 7
-- a read, or the record of a function, without a plan
number_of NoPlan = 8
-- an empty list of latencies, one above 256, or a latency 0
number_of BadCycle = 9
-- start not granted
number_of NotGranted = 10
-- a file of fewer than 4 bytes, or of a wrong length
number_of BadLength = 11
-- byte 3 or an offset of a file wrong
number_of BadHeader = 12
-- a mark of a file beyond the columns
number_of MarkBeyondColumns = 13
-- at an arrival, as many tasks already wait as a queue has room for, 32 or a caller's 8; when a time unit passes, more
number_of TooManyWait = 14
-- a plan record, or a plan to be written, that no cycle of 1 to 256 latencies, each 1 to 32, gives; a plan of tag 0 to be written
number_of BadRecord = 15
-- a loop of no tags, or of more than 8
number_of BadLoop = 17
-- callers that are not 1 to 4, no such caller, or a turn that names none
number_of NoSuchCaller = 18
-- two marks of a function in a column
number_of TwoMarks = 19
-- a wanted latency of 0, above 32 or below the largest number of marks in a segment
number_of BadInterval = 20
-- a place beyond 32
number_of PlaceBeyond = 21
-- a size of which there are no small tables, or a number that none has
number_of NoSmallTable = 22

-- the refusals, by rising number
abbrev pub refusals : List Refusal
refusals =
    NotSound ∷ NoSuchTag ∷ NoSuchSegment ∷ NoSuchColumn ∷ ShortWork ∷ ShortOutput ∷ TooManyStates ∷ NoPlan ∷ BadCycle ∷ NotGranted ∷ BadLength
    ∷ BadHeader ∷ MarkBeyondColumns ∷ TooManyWait ∷ BadRecord ∷ BadLoop ∷ NoSuchCaller ∷ TwoMarks ∷ BadInterval ∷ PlaceBeyond ∷ NoSmallTable ∷ []

-- the number that an answer tells: 0 where the call was accepted
abbrev pub number_in : Answer → ℕ
number_in (Ok _) = 0
number_in (Err why) = number_of why
