-- How many digits numbers have. Assumes nothing.
use Prim.Native.Nat.{ℕ, zero, suc, ◌+◌, ◌-◌, ◌/◌, ◌^◌, ◌≤◌, ◌<◌}
use mathlib.Core.Path.{◌≡◌, ap}
use native.Mathlib.Omega.{arith}
use lib.ListN.{length}
use Rattle.text.specs.Text.{decimal}
use Rattle.text.proofs.DecimalLaws.{by_digits, decimal_small, decimal_longer, decimal_some}

pub one_digit : (n : ℕ) → n < 10 → length (decimal n) ≡ 1
one_digit n h = ap length (decimal_small n h)

-- a smaller number has no more digits
more_digits : (k a b : ℕ) → b < 10 ^ k → b < 2 ^ 32 → a ≤ b → length (decimal a) ≤ length (decimal b)
more_digits zero a b h w l = let e : a ≡ b = omega arith in omega (arith, ap (λ n. length (decimal n)) e)
more_digits (suc k) a b h w l =
    by_digits b (λ s. omega (arith, one_digit a (omega arith), one_digit b s))
    (λ t.
    by_digits a (λ s. omega (arith, one_digit a s, decimal_some b))
    (λ s. omega (arith, decimal_longer a s (omega arith), decimal_longer b t w, more_digits k (a / 10) (b / 10) (omega arith) (omega arith) (omega arith))))

pub digits_most : (a b : ℕ) → b < 2 ^ 32 → a ≤ b → length (decimal a) ≤ length (decimal b)
digits_most a b w l = more_digits 10 a b (omega arith) w l

-- both numbers divided by ten so often that so many spaces are counted
pub record Counted (number most rest room spaces : ℕ) : Type 0 where
  pub below : rest ≤ room
  pub word : room < 2 ^ 32
  pub digits : spaces + length (decimal room) + length (decimal number) ≡ length (decimal most) + length (decimal rest)

module _ (number most rest room spaces : ℕ) (c : Counted number most rest room spaces) where
  pub counted_space : 10 ≤ room → rest < 10 → Counted number most (rest / 10) (room / 10) (spaces + 1)
  counted_space h l = record {
    below = omega arith;
    word = omega (arith, c.word);
    digits = omega (arith, c.digits, decimal_longer room h c.word, one_digit rest l, one_digit (rest / 10) (omega arith));
  }

  pub counted_digit : 10 ≤ room → 10 ≤ rest → Counted number most (rest / 10) (room / 10) spaces
  counted_digit h l = record {
    below = omega (arith, c.below);
    word = omega (arith, c.word);
    digits = omega (arith, c.digits, decimal_longer room h c.word, decimal_longer rest l (omega (arith, c.below, c.word)));
  }

  pub counted_few : spaces ≤ length (decimal most)
  counted_few = omega (arith, c.digits, decimal_some number, decimal_some room, digits_most rest room c.word c.below)

  pub counted_end : room < 10 → spaces ≡ length (decimal most) - length (decimal number)
  counted_end h = omega (arith, c.digits, one_digit room h, one_digit rest (omega (arith, c.below)))
