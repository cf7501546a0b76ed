-- How many numbers pass a test: of a test moved, of a test that passes in a row. Assumes nothing.
use mathlib.Core.Path.{◌≡◌, ◌∙◌}
use mathlib.Core.Bool.{Bool, true, false, cond}
use Prim.Native.Nat.{ℕ, zero, suc, ◌+◌, ◌≤◌, ◌<◌}
use native.Mathlib.Nat.{add-suc, add-zero}
use native.Mathlib.Decide.{dec_le}
use native.Mathlib.Omega.{arith}
use Rattle.words.specs.Below.{count_below}
use Rattle.words.proofs.BelowLaws.{count_none}

pub count_split : (a n : ℕ) (f : ℕ → Bool) → count_below (a + n) f ≡ count_below a f + count_below n (λ k. f (a + k))
unfolding count_below
count_split a zero f = rw (add-zero a) (omega arith)
count_split a (suc n) f = rw (add-suc a n) (omega (arith, count_split a n f))

-- none passes from m on
pub count_beyond : (m n : ℕ) (f : ℕ → Bool) → ((k : ℕ) → f (m + k) ≡ false) → count_below (m + n) f ≡ count_below m f
count_beyond m n f h = count_split m n f ∙ omega (arith, count_none n (λ k. f (m + k)) (λ k l. h k))

-- all from a on do
pub count_row : (a b : ℕ) (f : ℕ → Bool) → ((k : ℕ) → a ≤ k → k < b → f k ≡ true) → b ≤ count_below b f + a
unfolding count_below
count_row a zero f h = omega arith
count_row a (suc b) f h = go (dec_le a b) (count_row a b f (λ k l m. h k l (omega arith)))
  where
    go : Dec (a ≤ b) → b ≤ count_below b f + a → suc b ≤ cond (f b) 1 0 + count_below b f + a
    go (yes l) r = rw (h b l (omega arith)) (omega arith)
    go (no l) r = omega arith
