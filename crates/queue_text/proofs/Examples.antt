-- Some lines at the issue port, worked out by hand. Assumes nothing.
use Rattle.std.proofs.Common.{Ok, Err, Some, None}
use Prim.Native.Nat.{ℕ}
use mathlib.Core.Path.{◌≡◌, refl, ap}
use mathlib.Core.List.{List, ◌∷◌}
use native.Mathlib.Omega.{arith}
use lib.ListN.{get_or, replicate}
use Rattle.words.specs.Below.{join_below}
use Rattle.text.specs.Text.{ascii, digits, decimal, spaced}
use Rattle.unit.specs.declared.Refusal.TheVariants.{TooManyWait}
use Rattle.queue.specs.declared.Waiting.{Waiting}
use Rattle.queue.specs.Calls.{empty_queue}
use Rattle.queue_text.specs.Told.{flat, passed_line, queue_line}

abbrev a : Waiting
a = record { tag = 1; ticket = 17 }

abbrev b : Waiting
b = record { tag = 2; ticket = 4294967295 }

-- two of the records wait, the oldest first
pub two_wait : queue_line (record { list = a ∷ b ∷ replicate 30 a; count = 2 }) ≡ ascii "queue 2: 1 17 2 4294967295\n"
unfolding join_below digits decimal spaced flat
two_wait = refl

pub none_waits : queue_line empty_queue ≡ ascii "queue 0:\n"
unfolding join_below digits decimal spaced flat
none_waits = refl

-- the youngest is not told first
pub not_reversed : queue_line (record { list = a ∷ b ∷ replicate 30 a; count = 2 }) ≡ ascii "queue 2: 2 4294967295 1 17\n" → ⊥
unfolding join_below digits decimal spaced flat
not_reversed e = let z : ◌≡◌ {A = ℕ} 49 50 = ap (λ (l : List ℕ). get_or l 9 0) e in omega arith

pub one_starts : passed_line (Ok (Some b)) ≡ ascii "started 2 4294967295\n"
unfolding digits decimal
one_starts = refl

pub none_starts : passed_line (Ok None) ≡ ascii "none\n"
none_starts = refl

pub too_many : passed_line (Err TooManyWait) ≡ ascii "refused 14\n"
unfolding digits decimal
too_many = refl
