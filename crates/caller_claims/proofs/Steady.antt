-- From empty on, a call is refused for the unit, for C, the turn or the caller, for the list and the tag offered, and where 8 wait, and for nothing else.
-- Assumes nothing.
use Rattle.std.proofs.Common.{Ok}
use Prim.Native.Nat.{ℕ, ◌*◌}
use mathlib.Core.Path.{◌≡◌}
use mathlib.Core.Bool.{true}
use mathlib.Core.List.{List}
use lib.Dec.{leb, ltb}
use lib.ListN.{length}
use borrow.Author.Tests.{le-leb}
use Rattle.words.proofs.Tests.{by_test, and_left, and_right}
use Rattle.unit.specs.declared.FunctionUnit.{FunctionUnit}
use Rattle.unit.specs.declared.Refusal.TheVariants.{NotSound, NoSuchTag, ShortOutput, TooManyWait, NoSuchCaller}
use Rattle.unit.specs.Unit.{inside, sound_of}
use Rattle.unit.specs.Calls.{check}
use Rattle.unit.proofs.Laws.{within}
use Rattle.queue.specs.declared.Waiting.{Waiting}
use Rattle.queue.specs.Line.{tags_inside}
use Rattle.queue.specs.Calls.{arrival_answer}
use Rattle.callers.specs.Turn.{each_caller}
use Rattle.callers.specs.Queues.{room, queue_of, count_of, waiting_of}
use Rattle.callers.specs.Calls.{one_of, arrival_at, arrival_of, unit_at}
use Rattle.callers.proofs.EachLaws.{each_true}
use Rattle.callers.proofs.SameLaws.{long_queues}
use Rattle.caller_claims.specs.Runs.{brought}
use Rattle.caller_claims.specs.Claims.{StaysSteady}
use Rattle.caller_claims.proofs.HeldLaws.{Held, held}

-- The tests of the counts and of the tags that wait always pass

module _ (u : FunctionUnit) (C : ℕ) (list : List Waiting) (counts : List ℕ) (h : Held u C list counts) where
  pub units : (turn : ℕ) → unit_at u C turn list counts
      ≡ check (sound_of u) NotSound (check (one_of C turn) NoSuchCaller (check (leb (room * C) (length list)) ShortOutput (Ok tt)))
  unfolding unit_at
  units turn =
      let few : each_caller C (λ i. leb (count_of counts i) room) ≡ true = each_true C _ (λ i ii. le-leb (count_of counts i) room (h.few i ii)) in
      let tags : each_caller C (λ i. tags_inside u.functions (waiting_of list counts i)) ≡ true = each_true C _ h.tags in
      simp (few, tags) (by_test (one_of C turn) one (λ e. simp e))
    where
      one : one_of C turn ≡ true
          → check (sound_of u) NotSound (check (one_of C turn) NoSuchCaller (check (each_caller C (λ i. leb room (length (queue_of list i)))) ShortOutput (Ok tt)))
          ≡ check (sound_of u) NotSound (check (one_of C turn) NoSuchCaller (check (leb (room * C) (length list)) ShortOutput (Ok tt)))
      one e = rw (long_queues list C (within C 4 (and_left (inside C 4) (inside turn C) e)).least)

  arrivals : (i : ℕ) (w : Waiting) → arrival_at u C i (queue_of list i) (count_of counts i) w
      ≡ check (sound_of u) NotSound
      (check (one_of C i) NoSuchCaller
      (check (leb room (length (queue_of list i))) ShortOutput
      (check (inside w.tag u.functions) NoSuchTag
      (check (ltb (count_of counts i) room) TooManyWait (Ok tt)))))
  unfolding arrival_at arrival_answer
  arrivals i w = by_test (one_of C i)
      (λ e. by_test (sound_of u) (λ s. simp (s, h.tags i (and_right (inside C 4) (inside i C) e))) (λ s. simp s))
      (λ e. simp e)

pub stays_steady : StaysSteady
unfolding arrival_of
stays_steady u C turn list actions =
    let p = brought u C turn list actions in
    let h = held u C turn list actions in
    record { units = units u C p.list p.counts h p.turn; arrivals = arrivals u C p.list p.counts h }
