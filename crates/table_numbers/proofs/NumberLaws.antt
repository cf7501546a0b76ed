-- Numbers and small tables correspond one to one. Assumes nothing.
use Prim.Native.Nat.{ℕ, ◌+◌, ◌-◌, ◌*◌, ◌/◌, ◌%◌, ◌≤◌, ◌<◌}
use mathlib.Core.Path.{◌≡◌, refl, sym, ap, ◌∙◌}
use mathlib.Core.Bool.{Bool, true}
use native.Mathlib.Nat.{mul-le-mul_right, add-mul, mul-add-div_right, mul-add-mod_self_right, div-eq_of_lt, mod-eq_of_lt, mod-lt, div-lt_iff_lt-mul, div-add-mod'}
use native.Mathlib.Omega.{arith}
use lib.Dec.{eqb}
use borrow.Author.Tests.{eq-eqb, eqb-true}
use Rattle.words.specs.Bits.{is_set}
use Rattle.words.proofs.Tests.{and_left, and_right, and_true, same_test}
use Rattle.words.proofs.BitLaws.{same_bits}
use Rattle.words.proofs.BelowLaws.{word_lt, word_set}
use Rattle.unit.specs.Table.{Table}
use Rattle.unit.specs.Unit.{inside}
use Rattle.unit.proofs.Laws.{within, inside_of}
use Rattle.table_numbers.specs.Tables.{table_count, small_table, number_of_table}
use Rattle.table_numbers.specs.Claims.{OfSize, HasSize}

-- The place of a mark

-- the place of column k of segment r, and back
pub record Placed (s c r k : ℕ) : Type 0 where
  pub below : (r - 1) * c + (k - 1) < s * c
  pub segment : ((r - 1) * c + (k - 1)) / c + 1 ≡ r
  pub column : ((r - 1) * c + (k - 1)) % c + 1 ≡ k

pub placed : (s c r k : ℕ) → inside r s ≡ true → inside k c ≡ true → Placed s c r k
placed s c r k i j =
    let a = within r s i in
    let b = within k c j in
    let small : k - 1 < c = omega arith in
    let pos : 0 < c = omega arith in
    let more : (r - 1 + 1) * c ≡ (r - 1) * c + c = add-mul (r - 1) 1 c ∙ omega arith in
    let most : (r - 1 + 1) * c ≤ s * c = mul-le-mul_right c (omega arith) in
    record {
      below = omega arith;
      segment = omega (arith, mul-add-div_right pos (r - 1) (k - 1), div-eq_of_lt small);
      column = omega (arith, mul-add-mod_self_right (r - 1) c (k - 1), mod-eq_of_lt small);
    }

less : (x : ℕ) → x + 1 - 1 ≡ x
less x = omega arith

-- a place is that of a column of a segment
pub record Spot (s c i : ℕ) : Type 0 where
  pub segment : inside (i / c + 1) s ≡ true
  pub column : inside (i % c + 1) c ≡ true
  pub place : (i / c + 1 - 1) * c + (i % c + 1 - 1) ≡ i

pub spot : (s c i : ℕ) → 1 ≤ c → i < s * c → Spot s c i
spot s c i pos l =
    let row : i / c < s = (div-lt_iff_lt-mul pos).1 l in
    let column : i % c < c = mod-lt i pos in
    record {
      segment = inside_of (i / c + 1) s (omega arith) (omega arith);
      column = inside_of (i % c + 1) c (omega arith) (omega arith);
      place = omega (arith, ap (λ x. x * c) (less (i / c)), div-add-mod' i c);
    }

-- The marks of the table of a number

pub small_mark : (s c n q r k : ℕ) → small_table s c n q r k ≡ true → OfSize s c q r k × (is_set n ((r - 1) * c + (k - 1)) ≡ true)
unfolding small_table
small_mark s c n q r k e =
    let e2 = and_right (eqb q 1) _ e in
    let e3 = and_right (inside r s) _ e2 in (
      record {
        tag = eqb-true q 1 (and_left (eqb q 1) _ e);
        segment = and_left (inside r s) _ e2;
        column = and_left (inside k c) _ e3;
      },
      and_right (inside k c) _ e3,
    )

pub mark_small : (s c n q r k : ℕ) → OfSize s c q r k → is_set n ((r - 1) * c + (k - 1)) ≡ true → small_table s c n q r k ≡ true
unfolding small_table
mark_small s c n q r k o e = and_true (eq-eqb q 1 o.tag) (and_true o.segment (and_true o.column e))

-- Both ways

module _ (s c : ℕ) (pos : 1 ≤ c) where
  -- bit i of the number is the mark at place i
  pub small_bit : (n i : ℕ) → i < s * c → small_table s c n 1 (i / c + 1) (i % c + 1) ≡ is_set n i
  small_bit n i l =
      let p = spot s c i pos l in
      same_test (small_table s c n 1 (i / c + 1) (i % c + 1)) (is_set n i)
      (λ e. sym (ap (is_set n) p.place) ∙ (small_mark s c n 1 (i / c + 1) (i % c + 1) e).1)
      (λ e. mark_small s c n 1 (i / c + 1) (i % c + 1) (record { tag = refl; segment = p.segment; column = p.column }) (ap (is_set n) p.place ∙ e))

  pub number_of_small : (n : ℕ) → n < table_count s c → number_of_table s c (small_table s c n) ≡ n
  unfolding number_of_table
  number_of_small n l =
      same_bits (s * c) (number_of_table s c (small_table s c n)) n (word_lt (s * c) marks) l
      (λ i h. word_set (s * c) marks i h ∙ small_bit n i h)
    where
      marks : ℕ → Bool
      marks i = small_table s c n 1 (i / c + 1) (i % c + 1)

  pub number_below : (T : Table) → number_of_table s c T < table_count s c
  unfolding number_of_table
  number_below T = word_lt (s * c) (λ i. T 1 (i / c + 1) (i % c + 1))

  pub number_bit : (T : Table) (r k : ℕ) → inside r s ≡ true → inside k c ≡ true → is_set (number_of_table s c T) ((r - 1) * c + (k - 1)) ≡ T 1 r k
  unfolding number_of_table
  number_bit T r k i j =
      let p = placed s c r k i j in
      word_set (s * c) (λ x. T 1 (x / c + 1) (x % c + 1)) ((r - 1) * c + (k - 1)) p.below
      ∙ ap (λ x. T 1 x (((r - 1) * c + (k - 1)) % c + 1)) p.segment ∙ ap (T 1 r) p.column

  pub small_of_number : (T : Table) → HasSize s c T → small_table s c (number_of_table s c T) ≡ T
  small_of_number T h = λ i q r k. at q r k i
    where
      at : (q r k : ℕ) → small_table s c (number_of_table s c T) q r k ≡ T q r k
      at q r k =
          same_test (small_table s c (number_of_table s c T) q r k) (T q r k)
          (λ e. let m = small_mark s c (number_of_table s c T) q r k e in
          let o = m.0 in
          ap (λ x. T x r k) o.tag ∙ sym (number_bit T r k o.segment o.column) ∙ m.1)
          (λ e. let o = h q r k e in
          mark_small s c (number_of_table s c T) q r k o (number_bit T r k o.segment o.column ∙ sym (ap (λ x. T x r k) o.tag) ∙ e))
