-- The start of a cycle that falls on a position, found by adding its latencies. Assumes nothing.
use Prim.Native.Nat.{ℕ, ◌+◌, ◌≤◌, ◌<◌}
use mathlib.Core.Path.{◌≡◌, sym, ap, ◌∙◌}
use mathlib.Core.Bool.{◌&&◌}
use mathlib.Core.Logic.{⊎_elim}
use mathlib.Core.List.{List}
use native.Mathlib.Nat.{eq-or-lt_of_le}
use native.Mathlib.Omega.{arith}
use borrow.Author.Count.{below_more}
use borrow.Author.Tests.{lt-ltb, eq-eqb, eqb-true}
use lib.Dec.{ltb, eqb}
use lib.ListN.{length, get_or, take}
use Rattle.words.proofs.Tests.{and_right, and_true, same_test}
use Rattle.collision.specs.Pipeline.{total}
use Rattle.collision.proofs.StartLaws.{sum_more}
use Rattle.plan_record.specs.Record.{Recordable, starts}
use Rattle.plan_record.proofs.CycleLaws.{sum_all}
use Rattle.plan_record.proofs.RingLaws.{reached_bit}

-- the starts of the first `index` latencies are below the position, and the next is at `next`
pub record Passed (l : List ℕ) (position index next : ℕ) : Type 0 where
  pub sum : next ≡ total (take index l)
  pub passed : (k : ℕ) → k < index → total (take k l) < position

module _ (l : List ℕ) (position index next : ℕ) (a : Passed l position index next) where
  pub passed_more : index < length l → next < position → Passed l position (index + 1) (next + get_or l index 0)
  passed_more i h = record { sum = sum_more l index next i a.sum; passed = below_more _ index a.passed (omega (arith, a.sum)) }

  -- after the last latency the position is passed
  pub passed_all : index ≡ length l → next ≡ total l
  passed_all e = a.sum ∙ ap (λ k. total (take k l)) e ∙ sum_all l

  -- the position is reached: it is the next start, or none
  pub passed_end : Recordable l → position < total l → index ≤ length l → position ≤ next → eqb next position ≡ starts l position
  passed_end cycle before inside h =
      sym (reached_bit l position index next (record { cycle = cycle; inside = inside; sum = a.sum; passed = a.passed; ahead = λ o. h })
      ∙ same_test (ltb index (length l) && eqb position next) (eqb next position)
      (λ e. eq-eqb next position (sym (eqb-true position next (and_right (ltb index (length l)) _ e))))
      (λ e.
      let s = eqb-true next position e in
      and_true (lt-ltb index (length l) (there s)) (eq-eqb position next (sym s))))
    where
      there : next ≡ position → index < length l
      there s = ⊎_elim (λ e. absurd (omega (arith, passed_all e))) (λ o. o) (eq-or-lt_of_le inside)
