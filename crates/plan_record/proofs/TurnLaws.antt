-- One byte of the ring, made bit by bit. Assumes nothing.
use Prim.Native.Nat.{ℕ, ◌+◌, ◌*◌, ◌^◌, ◌<◌}
use mathlib.Core.Path.{◌≡◌, refl, sym, ap, ◌∙◌, subst}
use mathlib.Core.Bool.{true, false, not, ◌&&◌}
use mathlib.Core.List.{List}
use native.Mathlib.Omega.{arith}
use lib.Dec.{ltb, eqb}
use lib.ListN.{length, get_or}
use Rattle.words.specs.Bits.{set_bit}
use Rattle.words.specs.Below.{word_below}
use Rattle.words.proofs.BelowLaws.{word_lt, word_one, word_none}
use Rattle.plan_record.specs.Record.{starts, ring_byte}
use Rattle.plan_record.specs.Inner.{Reached}
use Rattle.plan_record.proofs.RingLaws.{reached_bit, reached_start, reached_tick}

-- the first bits of byte j are made
pub record Turn (l : List ℕ) (j bit byte index next : ℕ) : Type 0 where
  pub made : byte ≡ word_below bit (λ b. not (starts l (8 * j + b)))
  pub reached : Reached l (8 * j + bit) index next

module _ (l : List ℕ) (j : ℕ) where
  pub turn_first : (index next : ℕ) → Reached l (8 * j) index next → Turn l j 0 0 index next
  unfolding word_below
  turn_first index next r = let e : 8 * j ≡ 8 * j + 0 = omega arith in record { made = refl; reached = rw e at r }

  module _ (bit byte index next : ℕ) (t : Turn l j bit byte index next) (h : bit < 8) where
    further : 8 * j + bit + 1 ≡ 8 * j + (bit + 1)
    further = omega arith

    -- the byte and the next start after the bit
    pub turn_start : (byte' index' next' : ℕ) → ltb index (length l) && eqb (8 * j + bit) next ≡ true
        → byte' ≡ byte → index' ≡ index + 1 → next' ≡ next + get_or l index 0 → Turn l j (bit + 1) byte' index' next'
    turn_start byte' index' next' e b i n = record {
      made = b ∙ t.made ∙ word_none bit (λ b. not (starts l (8 * j + b))) (ap not (reached_bit l (8 * j + bit) index next t.reached ∙ e));
      reached = rw (i, n, ← further) (reached_start l (8 * j + bit) index next t.reached e);
    }

    pub turn_tick : (byte' index' next' : ℕ) → ltb index (length l) && eqb (8 * j + bit) next ≡ false
        → byte' ≡ set_bit byte bit → index' ≡ index → next' ≡ next → Turn l j (bit + 1) byte' index' next'
    turn_tick byte' index' next' e b i n = record {
      made = b ∙ ap (λ w. set_bit w bit) t.made
          ∙ word_one bit (λ b. not (starts l (8 * j + b))) (omega arith) (ap not (reached_bit l (8 * j + bit) index next t.reached ∙ e));
      reached = rw (i, n, ← further) (reached_tick l (8 * j + bit) index next t.reached e);
    }

  module _ (bit byte index next : ℕ) (t : Turn l j bit byte index next) (e : bit ≡ 8) where
    pub turn_small : byte < 2 ^ 8
    turn_small = subst (λ (k : ℕ). byte < 2 ^ k) e (subst (λ (w : ℕ). w < 2 ^ bit) (sym t.made) (word_lt bit (λ b. not (starts l (8 * j + b)))))

    pub turn_byte : byte ≡ ring_byte l j
    unfolding ring_byte
    turn_byte = t.made ∙ ap (λ k. word_below k (λ b. not (starts l (8 * j + b)))) e

    pub turn_reached : Reached l (8 * j + 8) index next
    turn_reached = subst (λ (i : ℕ). Reached l (8 * j + i) index next) e t.reached
