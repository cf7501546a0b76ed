-- The bits of states: where an arc leads, and that a state has no more bits than the collision vector. Assumes nothing.
use mathlib.Core.Path.{◌≡◌, refl, sym, ap, ◌∙◌}
use mathlib.Core.Bool.{not, ◌&&◌, ◌||◌}
use mathlib.Core.List.{List}
use Prim.Native.Nat.{ℕ, zero, suc, ◌+◌, ◌-◌, ◌/◌, ◌^◌, ◌≤◌, ◌<◌, max}
use native.Mathlib.Nat.{div-eq_of_lt, lt_of_lt_of_le}
use native.Mathlib.Decide.{dec_lt}
use native.Mathlib.Omega.{arith}
use lib.Bits.{bit_or, or_lt}
use lib.Dec.{ltb, eqb}
use lib.Pow.{shr_le, pow_mono}
use borrow.Author.Tests.{le-leb, lt-ltb, le-ltb}
use Rattle.words.specs.Bits.{bit, is_set}
use Rattle.words.proofs.BitLaws.{bit_small, bit_or_lem, bit_shr, bit_above}
use Rattle.diagram.specs.Diagram.{width, next, Walk, stay, step, Reachable}
use Rattle.diagram.specs.States.{Each, arc, states}
use Rattle.diagram.proofs.WidthLaws.{width_lt}
use Rattle.diagram.proofs.Listing.{states_each}

-- Where an arc leads

pub bit_next : (cv s t k : ℕ) → bit (next cv s t) k ≡ max (bit s (t + k)) (bit cv k)
bit_next cv s t k = bit_or_lem (s / 2 ^ t) cv k ∙ ap (λ (y : ℕ). max y (bit cv k)) (bit_shr s t k)

-- a state of n bits leads to a state of n bits
pub next_lt : (n cv s t : ℕ) → cv < 2 ^ n → s < 2 ^ n → next cv s t < 2 ^ n
next_lt n cv s t h l = or_lt n (s / 2 ^ t) cv (omega (arith, shr_le s t)) h

-- a latency above n leads from every state to the first state: such latencies are all one
pub next_far : (n cv s t u : ℕ) → s < 2 ^ n → n ≤ t → n ≤ u → next cv s t ≡ next cv s u
next_far n cv s t u h k l =
    ap (λ (y : ℕ). bit_or y cv) (div-eq_of_lt (lt_of_lt_of_le h (pow_mono k)) ∙ sym (div-eq_of_lt (lt_of_lt_of_le h (pow_mono l))))

-- The bits of states

pub reachable_below : (g n cv s : ℕ) → cv < 2 ^ n → Reachable g n cv s → s < 2 ^ n
reachable_below g n cv s h r = follow r.walk h
  where
    follow : {a e : ℕ} {l : List ℕ} → Walk g n cv a l e → a < 2 ^ n → e < 2 ^ n
    follow stay k = k
    follow (step {s = a} {t = t} p w) k = follow w (next_lt n cv a t h k)

pub states_below : (cap g n cv : ℕ) → cv < 2 ^ n → Each (λ s. s < 2 ^ n) (states cap g n cv)
states_below cap g n cv h = states_each g n cv cap (λ s. s < 2 ^ n) h (λ s t k p. next_lt n cv s t h k)

-- every state of a 32-bit vector's diagram is below 2 ^ n
pub states_width : (cap g cv : ℕ) → cv < 2 ^ 32 → Each (λ s. s < 2 ^ width cv) (states cap g (width cv) cv)
states_width cap g cv h = states_below cap g (width cv) cv (width_lt cv h)

-- One test for every latency: column n + 1 of a state of n bits is 0

pub arc_free : (n s t : ℕ) → s < 2 ^ n → 1 ≤ t → t ≤ n + 1 → arc 1 n s t ≡ eqb (bit s (t - 1)) 0
arc_free n s t h p l = ap (λ b. b && (ltb n t || eqb (bit s (t - 1)) 0)) (le-leb 1 t p) ∙ go (dec_lt n t)
  where
    go : Dec (n < t) → ltb n t || eqb (bit s (t - 1)) 0 ≡ eqb (bit s (t - 1)) 0
    go (yes m) =
        let z : bit s (t - 1) ≡ 0 = bit_above s n (t - 1) h (omega arith) in
        rw (lt-ltb n t m, z)
    go (no m) = rw (le-ltb n t (omega arith))

bit_clear : (x : ℕ) → x < 2 → eqb x 0 ≡ not (eqb x 1)
bit_clear zero h = refl
bit_clear (suc zero) h = refl
bit_clear (suc (suc x)) h = absurd (omega arith)

pub arc_test : (n s t : ℕ) → s < 2 ^ n → 1 ≤ t → t ≤ n + 1 → arc 1 n s t ≡ not (is_set s (t - 1))
arc_test n s t h p l = arc_free n s t h p l ∙ bit_clear (bit s (t - 1)) (bit_small s (t - 1))
