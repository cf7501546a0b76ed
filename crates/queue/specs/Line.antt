-- The waiting tasks: records of tag and ticket in a lent list, of which the first `count` wait, the oldest first.
use Rattle.std.specs.Prelude.{ℕ, ◌-◌, Bool, true, ◌&&◌, List, [], ◌∷◌, ◌++◌, take, drop}
use Rattle.unit.specs.declared.Tag.{Tag}
use Rattle.unit.specs.Unit.{inside}
use Rattle.queue.specs.declared.Waiting.{Waiting}

-- what stands past the end of a list
abbrev pub no_record : Waiting
no_record = record { tag = 0; ticket = 0 }

-- the tag of a record's function
abbrev pub tag_of : Waiting → Tag
tag_of w = record { 0 = w.tag }

-- each of the records has a tag of a unit with so many functions
unfoldable pub tags_inside : ℕ → List Waiting → Bool
tags_inside f [] = true
tags_inside f (w ∷ line) = inside w.tag f && tags_inside f line

-- the list when the first of `count` records has left: the waiting records are one place further forward, and the records from the new
-- count on are as before
unfoldable pub forward : List Waiting → ℕ → List Waiting
forward list count = take (count - 1) (drop 1 list) ++ drop (count - 1) list
