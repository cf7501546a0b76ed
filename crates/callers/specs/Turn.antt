-- Whose turn it is: callers are numbered from 1 to C, and the turn goes round.
use Rattle.std.specs.Prelude.{ℕ, zero, suc, ◌+◌, Bool, cond, not, eqb}
use Rattle.words.specs.Below.{some_below}

-- a test holds for each of the callers 1 to C
unfoldable pub each_caller : ℕ → (ℕ → Bool) → Bool
each_caller C f = not (some_below C (λ k. not (f (k + 1))))

-- the caller after i, going round
abbrev pub round : ℕ → ℕ → ℕ
round C i = cond (eqb i C) 1 (i + 1)

-- the first of the k callers after i, going round, that has work; if none of them has, the caller `stay`
unfoldable pub first_after : ℕ → ℕ → (ℕ → Bool) → ℕ → ℕ → ℕ
first_after zero C work i stay = stay
first_after (suc k) C work i stay = cond (work (round C i)) (round C i) (first_after k C work (round C i) stay)

-- the turn goes round from i to the next caller with work, i itself being the last that is asked; with no work anywhere it stays
abbrev pub next_turn : ℕ → (ℕ → Bool) → ℕ → ℕ
next_turn C work i = first_after C C work i i

-- whose turn it is in a time unit: where the queue of the caller whose turn it was is empty, the turn has gone round
abbrev pub turn_now : ℕ → (ℕ → Bool) → ℕ → ℕ
turn_now C work i = cond (work i) i (next_turn C work i)
