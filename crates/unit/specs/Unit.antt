-- A function unit: its marks, and when it is sound.
use Rattle.std.specs.Prelude.{ℕ, ◌+◌, ◌-◌, ◌*◌, ◌≤◌, ◌≡◌, List, Bool, true, cond, not, ◌&&◌, get_or, take, drop, replicate, leb, eqb}
use Rattle.words.specs.Bits.{is_set}
use Rattle.words.specs.Below.{some_below}
pub use Rattle.words.specs.Below.{inside}
use Rattle.unit.specs.declared.FunctionUnit.{FunctionUnit}
use Rattle.unit.specs.Table.{Table}

-- Marks

-- the word of a tag in a column
abbrev pub place : ℕ → ℕ → ℕ
place q c = (q - 1) * 32 + (c - 1)

abbrev pub word_at : FunctionUnit → ℕ → ℕ → ℕ
word_at u q c = get_or u.marks (place q c) 0

-- tag 1 to 4, segment 1 to 16, column 1 to 32: a place that some unit has
abbrev pub somewhere : ℕ → ℕ → ℕ → Bool
somewhere q s c = inside q 4 && (inside s 16 && inside c 32)

-- the unit's table: whether a task of q occupies segment s in column c
unfoldable pub marked : FunctionUnit → Table
marked u q s c = somewhere q s c && is_set (word_at u q c) (s - 1)

-- the marks of a function by column, bit r - 1 for segment r
unfoldable pub columns_of : FunctionUnit → ℕ → List ℕ
columns_of u q = cond (inside q 4) (take 32 (drop ((q - 1) * 32) u.marks)) (replicate 32 0)

-- Soundness

-- 1 to 4 functions, 1 to 16 segments, 1 to 32 columns
abbrev pub good_counts : ℕ → ℕ → ℕ → Bool
good_counts f s c = inside f 4 && (inside s 16 && inside c 32)

-- no plan, or one of 1 to 256 latencies
abbrev pub sound_plan : ℕ → ℕ → Bool
sound_plan tag count = cond (eqb tag 0) true (inside count 256)

-- a mark outside the counts
abbrev pub strays : FunctionUnit → ℕ → ℕ → ℕ → Bool
strays u q s c = marked u q s c && not (leb q u.functions && (leb s u.segments && leb c u.columns))

unfoldable pub marks_inside : FunctionUnit → Bool
marks_inside u = not (some_below 5 (λ q. some_below 17 (λ s. some_below 33 (λ c. strays u q s c))))

unfoldable pub sound_of : FunctionUnit → Bool
sound_of u =
    good_counts u.functions u.segments u.columns
    && (sound_plan u.plan.tag u.plan.count && marks_inside u)

-- the same as facts (`sound_means`, proofs/SoundLaws.antt)
pub record SoundUnit (u : FunctionUnit) : Type 0 where
  pub functions : (1 ≤ u.functions) × (u.functions ≤ 4)
  pub segments : (1 ≤ u.segments) × (u.segments ≤ 16)
  pub columns : (1 ≤ u.columns) × (u.columns ≤ 32)
  pub plan : (u.plan.tag ≡ 0 → ⊥) → (1 ≤ u.plan.count) × (u.plan.count ≤ 256)
  pub marks : (q s c : ℕ) → marked u q s c ≡ true → (q ≤ u.functions) × (s ≤ u.segments) × (c ≤ u.columns)
