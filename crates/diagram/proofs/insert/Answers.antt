-- `diagram::insert` meets its contract: the index of one state more is right. Assumes nothing.
use native.Mathlib.Omega.{arith}
use lib.ListN.{length-set}
use Rattle.diagram.proofs.InsertLaws.{insert_grown}
use Rattle.diagram.proofs.insert.Goals as goal

pub bounds-work-count-2 : goal.bounds-work-count-2
bounds-work-count-2 c = simp length-set (omega (arith, c.requires.1.room))

pub bounds-work-slot-2 : goal.bounds-work-slot-2
bounds-work-slot-2 c = simp length-set (omega (arith, c.requires.1.room, c.bucket_of-slot.ensures))

pub returns : goal.returns
returns c = insert_grown _ _ _ _ c.bucket_of-slot.ensures c.requires.0 c.requires.1
