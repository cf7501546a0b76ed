-- What the private functions ask and find. No public contract cites this file.
use Rattle.std.specs.Prelude.{ℕ, ◌+◌, ◌*◌, ◌≤◌, ◌<◌, ◌≡◌, true, List, length, take}
use Rattle.unit.specs.declared.Plan.{Plan}
use Rattle.unit_file.specs.Read.{byte_in, word16}
use Rattle.collision.specs.Pipeline.{total}
use Rattle.plan_record.specs.declared.Turned.{Turned}
use Rattle.plan_record.specs.Record.{Recordable, ring_byte, record_of}
use Rattle.plan_record.specs.Write.{cycle_in, holds_cycle}

-- the ring has been followed up to i: `index` starts lie below i, and the next, if there is one, is at `next`
pub record Reached (l : List ℕ) (i index next : ℕ) : Type 0 where
  pub cycle : Recordable l
  pub inside : index ≤ length l
  pub sum : next ≡ total (take index l)
  pub passed : (k : ℕ) → k < index → total (take k l) < i
  pub ahead : index < length l → i ≤ next

-- byte j was made, and the ring has been followed up to its end
pub record Made (l : List ℕ) (j : ℕ) (r : Turned) : Type 0 where
  pub byte : r.byte ≡ ring_byte l j
  pub reached : Reached l (8 * j + 8) r.index r.next

-- a field, whose two bytes are bytes
pub record Field (bytes : List ℕ) (at r : ℕ) : Type 0 where
  pub value : r ≡ word16 bytes at
  pub low : byte_in bytes at < 256
  pub high : byte_in bytes (at + 1) < 256

-- a plan of a cycle, and room for its record
pub record Writable (p : Plan) (room : ℕ) : Type 0 where
  pub plan : holds_cycle p ≡ true
  pub fits : length (record_of (cycle_in p)) ≤ room
