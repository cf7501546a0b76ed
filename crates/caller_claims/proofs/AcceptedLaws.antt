-- What accepts an arrival and a time unit at a shared port. Assumes nothing.
use Rattle.std.proofs.Common.{Ok}
use Prim.Native.Nat.{ℕ, ◌≤◌}
use mathlib.Core.Path.{◌≡◌}
use mathlib.Core.Bool.{true}
use mathlib.Core.List.{List}
use lib.Dec.{leb}
use lib.ListN.{length, take}
use borrow.Author.Tests.{leb-true}
use Rattle.unit.specs.declared.FunctionUnit.{FunctionUnit}
use Rattle.unit.specs.declared.Refusal.TheVariants.{NotSound, NoSuchTag, ShortOutput, TooManyWait, NoSuchCaller}
use Rattle.unit.specs.Unit.{inside, sound_of}
use Rattle.unit.proofs.Laws.{check_ok, check_next}
use Rattle.queue.specs.declared.Waiting.{Waiting}
use Rattle.queue.specs.Line.{tags_inside}
use Rattle.queue.proofs.AcceptedLaws.{ArrivalAccepted, arrival_accepted}
use Rattle.callers.proofs.EachLaws.{each_at}
use Rattle.callers.specs.Turn.{each_caller}
use Rattle.callers.specs.Queues.{room, queue_of, count_of, waiting_of}
use Rattle.callers.specs.Calls.{one_of, arrival_at, unit_at}

pub record Arrives (u : FunctionUnit) (C i : ℕ) (queue : List Waiting) (count : ℕ) (w : Waiting) : Type 0 where
  pub caller : one_of C i ≡ true
  pub joins : ArrivalAccepted room u (length queue) count w.tag (tags_inside u.functions (take count queue))

pub arrives : (u : FunctionUnit) (C i : ℕ) (queue : List Waiting) (count : ℕ) (w : Waiting) → arrival_at u C i queue count w ≡ Ok tt
    → Arrives u C i queue count w
unfolding arrival_at
arrives u C i queue count w e =
    let e1 = check_next (sound_of u) NotSound _ e in
    record {
      caller = check_ok (one_of C i) NoSuchCaller _ e1;
      joins = arrival_accepted room u queue count w (check_next (one_of C i) NoSuchCaller _ e1);
    }

pub record Passes (u : FunctionUnit) (C turn : ℕ) (list : List Waiting) (counts : List ℕ) : Type 0 where
  pub sound : sound_of u ≡ true
  pub caller : one_of C turn ≡ true
  pub long : (i : ℕ) → inside i C ≡ true → room ≤ length (queue_of list i)
  pub tags : (i : ℕ) → inside i C ≡ true → tags_inside u.functions (waiting_of list counts i) ≡ true

pub passes : (u : FunctionUnit) (C turn : ℕ) (list : List Waiting) (counts : List ℕ) → unit_at u C turn list counts ≡ Ok tt → Passes u C turn list counts
unfolding unit_at
passes u C turn list counts e =
    let e1 = check_next (sound_of u) NotSound _ e in
    let e2 = check_next (one_of C turn) NoSuchCaller _ e1 in
    let long = check_ok (each_caller C (λ i. leb room (length (queue_of list i)))) ShortOutput _ e2 in
    let e3 = check_next (each_caller C (λ i. leb room (length (queue_of list i)))) ShortOutput _ e2 in
    let e4 = check_next (each_caller C (λ i. leb (count_of counts i) room)) TooManyWait _ e3 in
    record {
      sound = check_ok (sound_of u) NotSound _ e;
      caller = check_ok (one_of C turn) NoSuchCaller _ e1;
      long = λ i h. leb-true room (length (queue_of list i)) (each_at C (λ i. leb room (length (queue_of list i))) i long h);
      tags = λ i h. each_at C (λ i. tags_inside u.functions (waiting_of list counts i)) i (check_ok _ NoSuchTag _ e4) h;
    }
