-- The digits of a number that stand before its last. Assumes nothing.
use mathlib.Core.Path.{◌≡◌, ap, ◌∙◌}
use mathlib.Core.Bool.{cond}
use mathlib.Core.List.{List, [], ◌∷◌, ◌++◌}
use Prim.Native.Nat.{ℕ, ◌+◌, ◌/◌, ◌%◌, ◌^◌, ◌≤◌, ◌<◌}
use native.Mathlib.Nat.{mod-eq_of_lt}
use native.Mathlib.Omega.{arith}
use borrow.Author.Tests.{lt-ltb, le-ltb}
use lib.Dec.{ltb}
use lib.ListN.{length, set, length-append}
use Rattle.text.specs.Text.{digit, decimal}
use Rattle.text.proofs.DecimalLaws.{by_digits, decimal_small, decimal_step}
use Rattle.text.specs.Wrote.{Wrote}
use Rattle.text.proofs.WroteLaws.{wrote_start, wrote_byte}

pub higher : ℕ → List ℕ
higher n = cond (ltb n 10) [] (decimal (n / 10))

pub higher_none : (n : ℕ) → n < 10 → higher n ≡ []
unfolding higher
higher_none n h = rw (lt-ltb n 10 h)

pub higher_some : (n : ℕ) → 10 ≤ n → higher n ≡ decimal (n / 10)
unfolding higher
higher_some n h = rw (le-ltb n 10 h)

pub decimal_last : (n : ℕ) → n < 2 ^ 32 → decimal n ≡ higher n ++ (digit (n % 10) ∷ [])
decimal_last n h =
    by_digits
    n
    (λ l. decimal_small n l ∙ rw (higher_none n l, mod-eq_of_lt l))
    (λ l. rw (higher_some n l) (decimal_step n l h))

higher_length : (n : ℕ) → n < 2 ^ 32 → length (decimal n) ≡ length (higher n) + 1
higher_length n h = ap length (decimal_last n h) ∙ length-append (higher n) (digit (n % 10) ∷ [])

-- The digits are written, the highest first

-- of a number below ten there is only the last
pub higher_start : {bytes : List ℕ} {at : ℕ} {after : List ℕ} {end : ℕ} (n : ℕ) → n < 10
    → at ≤ length bytes → after ≡ bytes → end ≡ at → Wrote bytes at (higher n) after end
higher_start {bytes} {at} n l h b e = rw (higher_none n l, b, e) (wrote_start bytes at h)

-- those of the tenth are written
pub higher_tenth : {bytes : List ℕ} {at : ℕ} {after : List ℕ} {end : ℕ} (n : ℕ) → 10 ≤ n
    → Wrote bytes at (decimal (n / 10)) after end → Wrote bytes at (higher n) after end
higher_tenth n l w = rw (higher_some n l) w

pub higher_last : {bytes : List ℕ} {at : ℕ} {mid : List ℕ} {e : ℕ} (n : ℕ) → n < 2 ^ 32
    → at + length (decimal n) ≤ length bytes → Wrote bytes at (higher n) mid e → Wrote bytes at (decimal n) (set mid e (digit (n % 10))) (e + 1)
higher_last {bytes} {at} n h fits w =
    rw (decimal_last n h) (wrote_byte (digit (n % 10)) w (omega (arith, higher_length n h, w.next)))
