-- The plan record, which the report and the controller's loader both read. It starts with four little-endian 16-bit fields: K, S, the offset of the list
-- and the offset of the ring. The list of K latencies follows from byte 8, then the ring, and nothing after.
use Rattle.std.specs.Prelude.{ℕ, ◌+◌, ◌*◌, ◌/◌, ◌%◌, ◌≤◌, ◌<◌, ◌≡◌, Bool, true, false, not, ◌&&◌, ◌||◌, ◌⊎◌, ◌↔◌, List, ◌++◌, ltb, eqb, length, get_or, take}
use Rattle.words.specs.Bits.{is_set}
use Rattle.words.specs.Below.{some_below, word_below, list_below}
use Rattle.unit.specs.Unit.{inside}
use Rattle.unit_file.specs.File.{bytes16}
use Rattle.collision.specs.Pipeline.{total}

-- The cycles that a record holds

-- 1 to 256 latencies, each 1 to 32
pub record Recordable (l : List ℕ) : Type 0 where
  pub some : 1 ≤ length l
  pub few : length l ≤ 256
  pub least : (i : ℕ) → i < length l → 1 ≤ get_or l i 0
  pub most : (i : ℕ) → i < length l → get_or l i 0 ≤ 32

-- the same as a test (`recordable_facts`, `recordable_of`, proofs/CycleLaws.antt)
unfoldable pub recordable : List ℕ → Bool
recordable l = inside (length l) 256 && not (some_below (length l) (λ i. not (inside (get_or l i 0) 32)))

-- The ring

-- i is 0, or a sum of the first several latencies, below S
unfoldable pub starts : List ℕ → ℕ → Bool
starts l i = eqb i 0 || (ltb i (total l) && some_below (length l) (λ k. eqb (total (take (k + 1) l)) i))

-- byte j: its bit b is that of i = 8 × j + b, 0 exactly when i is such a start; no i from S on is one, so that the spare bits are 1
unfoldable pub ring_byte : List ℕ → ℕ → ℕ
ring_byte l j = word_below 8 (λ b. not (starts l (8 * j + b)))

-- how many bytes S bits take
abbrev pub ring_length : ℕ → ℕ
ring_length S = (S + 7) / 8

unfoldable pub ring_of : List ℕ → List ℕ
ring_of l = list_below (ring_length (total l)) (ring_byte l)

-- bit i of a ring is bit i mod 8 of byte i / 8
abbrev pub ring_bit : List ℕ → ℕ → Bool
ring_bit ring i = is_set (get_or ring (i / 8) 0) (i % 8)

-- The ring as the papers say it

-- a sum of the first several latencies, below S
pub record SumBelow (l : List ℕ) (i : ℕ) : Type 0 where
  pub several : ℕ
  pub some : 1 ≤ several
  pub all : several ≤ length l
  pub sum : i ≡ total (take several l)
  pub below : i < total l

-- bit i is 0 exactly when i is 0 or such a sum; the bits from S on are spare, and 1
pub record IsRing (l ring : List ℕ) : Type 0 where
  pub size : length ring ≡ ring_length (total l)
  pub bits : (i : ℕ) → i < total l → (ring_bit ring i ≡ false) ↔ ((i ≡ 0) ⊎ SumBelow l i)
  pub spare : (i : ℕ) → total l ≤ i → i < 8 * length ring → ring_bit ring i ≡ true

-- The record

-- the four fields: the list begins at 8, the ring K bytes further
abbrev pub fields : ℕ → ℕ → List ℕ
fields K S = bytes16 K ++ (bytes16 S ++ (bytes16 8 ++ bytes16 (8 + K)))

unfoldable pub record_of : List ℕ → List ℕ
record_of l = fields (length l) (total l) ++ (l ++ ring_of l)

-- no record has more than 8 + 256 + 1,024 bytes (`NoLonger`, specs/Claims.antt)
abbrev pub longest_record : ℕ
longest_record = 1288
