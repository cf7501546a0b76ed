-- The intervals of a cycle, tested one after another against a word, and the word of a vector. Assumes nothing.
use mathlib.Core.Path.{◌≡◌, sym, ap, ◌∙◌}
use mathlib.Core.Bool.{true, false}
use mathlib.Core.List.{List}
use Prim.Native.Nat.{ℕ, ◌+◌, ◌-◌, ◌^◌, ◌≤◌, ◌<◌}
use native.Mathlib.Numerals.{add-one}
use native.Mathlib.Decide.{dec_lt}
use native.Mathlib.Omega.{arith}
use borrow.Author.Count.{below_more}
use lib.ListN.{length}
use Rattle.words.specs.Bits.{is_set}
use Rattle.words.specs.Below.{some_below}
use Rattle.words.proofs.Tests.{same_test}
use Rattle.words.proofs.BitLaws.{bit_above, zero_unset}
use Rattle.words.proofs.BelowLaws.{some_intro, some_none, some_same}
use Rattle.unit.specs.Table.{Table}
use Rattle.collision.specs.Pipeline.{Cycle, latency, start_at}
use Rattle.collision.specs.Vector.{collides, vector_word}
use Rattle.collision.specs.Meaning.{Bounded}
use Rattle.collision.proofs.ClashLaws.{start_at_mono}
use Rattle.collision.proofs.StartLaws.{interval_least}
use Rattle.collision.proofs.VectorLaws.{collides_means, vector_bit}
use Rattle.judge.specs.Judge.{meets}
use Rattle.judge.specs.Inner.{start_meets, turn_meets}

-- From one start

-- the word has no 1 for the first k intervals from the start i, and the k-th start after it is t time units away
pub record Passed (v : ℕ) (l : List ℕ) (i k t : ℕ) : Type 0 where
  pub interval : start_at l i + t ≡ start_at l (i + k)
  pub none : (m : ℕ) → m < k → is_set v (start_at l (i + m + 1) - start_at l i - 1) ≡ false

pub passed_start : (v : ℕ) (l : List ℕ) (i : ℕ) → Passed v l i 0 0
passed_start v l i = record { interval = let e : i + 0 ≡ i = omega arith in rw e (omega arith); none = λ m h. absurd (omega arith) }

-- the next interval
pub passed_next : (v : ℕ) (l : List ℕ) (i k t : ℕ) → Passed v l i k t → start_at l (i + k + 1) ≡ start_at l i + (t + latency l (i + k))
passed_next v l i k t p = rw (add-one (i + k)) (omega (arith, p.interval))

next_index : (v : ℕ) (l : List ℕ) (i k t : ℕ) → Passed v l i k t → start_at l (i + k + 1) - start_at l i - 1 ≡ t + latency l (i + k) - 1
next_index v l i k t p = omega (arith, passed_next v l i k t p)

pub passed_more : (v : ℕ) (l : List ℕ) (i k t : ℕ) → Passed v l i k t → is_set v (t + latency l (i + k) - 1) ≡ false
    → Passed v l i (k + 1) (t + latency l (i + k))
passed_more v l i k t p e = record {
  interval = let s : i + (k + 1) ≡ i + k + 1 = omega arith in rw s (sym (passed_next v l i k t p));
  none = below_more _ k p.none (ap (is_set v) (next_index v l i k t p) ∙ e);
}

pub passed_hit : (v : ℕ) (l : List ℕ) (i k t : ℕ) → Passed v l i k t → k < 32 → is_set v (t + latency l (i + k) - 1) ≡ true → start_meets v l i ≡ true
unfolding start_meets
passed_hit v l i k t p h e =
    some_intro 32 (λ k. is_set v (start_at l (i + k + 1) - start_at l i - 1)) k h (ap (is_set v) (next_index v l i k t p) ∙ e)

pub passed_all : (v : ℕ) (l : List ℕ) (i k t : ℕ) → Passed v l i k t → 32 ≤ k → start_meets v l i ≡ false
unfolding start_meets
passed_all v l i k t p h = some_none 32 (λ k. is_set v (start_at l (i + k + 1) - start_at l i - 1)) (λ m b. p.none m (omega arith))

-- no interval after one above 32 has a bit in the word
pub passed_far : (v : ℕ) (l : List ℕ) (i k t : ℕ) → v < 2 ^ 32 → Passed v l i k t → 32 < t + latency l (i + k) → start_meets v l i ≡ false
unfolding start_meets
passed_far v l i k t w p h =
    some_none 32 (λ k. is_set v (start_at l (i + k + 1) - start_at l i - 1)) (λ m b. go m (dec_lt m k))
  where
    go : (m : ℕ) → Dec (m < k) → is_set v (start_at l (i + m + 1) - start_at l i - 1) ≡ false
    go m (yes b) = p.none m b
    go m (no b) =
        let far : 32 ≤ start_at l (i + m + 1) - start_at l i - 1 =
        omega (arith, passed_next v l i k t p, start_at_mono l (i + k + 1) (i + m + 1) (omega arith)) in
        zero_unset v (start_at l (i + m + 1) - start_at l i - 1) (bit_above v 32 (start_at l (i + m + 1) - start_at l i - 1) w far)

-- From each start of a turn

pub turn_hit : (v : ℕ) (l : List ℕ) (i : ℕ) → i < length l → start_meets v l i ≡ true → turn_meets v l ≡ true
unfolding turn_meets
turn_hit v l i h e = some_intro (length l) (start_meets v l) i h e

pub turn_all : (v : ℕ) (l : List ℕ) → ((i : ℕ) → i < length l → start_meets v l i ≡ false) → turn_meets v l ≡ false
unfolding turn_meets
turn_all v l h = some_none (length l) (start_meets v l) h

-- The word of a vector

-- column t of the vector says whether t is forbidden, for every t
vector_column : (T : Table) (q t : ℕ) → Bounded T → 1 ≤ t → is_set (vector_word T q) (t - 1) ≡ collides T q q t
vector_column T q t b h =
    same_test (is_set (vector_word T q) (t - 1)) (collides T q q t)
    (λ e. (collides_means T b q q t).1 ((vector_bit T b q t h).0 e))
    (λ e. (vector_bit T b q t h).1 ((collides_means T b q q t).0 e))

-- the intervals tested against the collision vector are tested for a collision
pub turn_vector : (T : Table) (q : ℕ) (l : List ℕ) → Bounded T → Cycle 1 l → turn_meets (vector_word T q) l ≡ meets T q l
unfolding turn_meets start_meets meets
turn_vector T q l b c =
    some_same (length l)
    (start_meets (vector_word T q) l)
    (λ i. some_below 32 (λ k. collides T q q (start_at l (i + k + 1) - start_at l i)))
    (λ i h.
    some_same 32
    (λ k. is_set (vector_word T q) (start_at l (i + k + 1) - start_at l i - 1))
    (λ k. collides T q q (start_at l (i + k + 1) - start_at l i))
    (λ k n.
    let s : i + (k + 1) ≡ i + k + 1 = omega arith in
    vector_column T q (start_at l (i + k + 1) - start_at l i) b (omega (arith, rw s at (interval_least l c i (k + 1))))))
