-- What accepts an arrival, and a time unit. Assumes nothing.
use Rattle.std.proofs.Common.{Ok}
use Prim.Native.Nat.{ℕ, ◌≤◌, ◌<◌}
use mathlib.Core.Path.{◌≡◌}
use mathlib.Core.Bool.{Bool, true}
use mathlib.Core.List.{List}
use lib.Dec.{leb, ltb}
use lib.ListN.{length, take}
use borrow.Author.Tests.{leb-true, ltb-true, le-leb}
use Rattle.unit.specs.declared.FunctionUnit.{FunctionUnit}
use Rattle.unit.specs.declared.Refusal.TheVariants.{NotSound, NoSuchTag, ShortOutput, TooManyWait}
use Rattle.unit.specs.Unit.{inside, sound_of}
use Rattle.unit.proofs.Laws.{check_ok, check_next}
use Rattle.queue.specs.declared.Waiting.{Waiting}
use Rattle.queue.specs.Line.{tags_inside}
use Rattle.queue.specs.Calls.{arrival_by, arrival_answer, unit_by, unit_answer}

pub record ArrivalAccepted (size : ℕ) (u : FunctionUnit) (length count q : ℕ) (fit : Bool) : Type 0 where
  pub sound : sound_of u ≡ true
  pub long : size ≤ length
  pub tag : inside q u.functions ≡ true
  pub few : count < size
  pub tags : fit ≡ true

pub arrival_by_lem : (size : ℕ) (u : FunctionUnit) (length count tag : ℕ) (fit : Bool) → arrival_by size u length count tag fit ≡ Ok tt
    → ArrivalAccepted size u length count tag fit
arrival_by_lem size u length count tag fit e =
    let e1 = check_next (sound_of u) NotSound _ e in
    let e2 = check_next (leb size length) ShortOutput _ e1 in
    let e3 = check_next (inside tag u.functions) NoSuchTag _ e2 in
    record {
      sound = check_ok (sound_of u) NotSound _ e;
      long = leb-true size length (check_ok (leb size length) ShortOutput _ e1);
      tag = check_ok (inside tag u.functions) NoSuchTag _ e2;
      few = ltb-true count size (check_ok (ltb count size) TooManyWait _ e3);
      tags = check_ok fit NoSuchTag _ (check_next (ltb count size) TooManyWait _ e3);
    }

pub arrival_accepted : (size : ℕ) (u : FunctionUnit) (list : List Waiting) (count : ℕ) (w : Waiting) → arrival_answer size u list count w ≡ Ok tt
    → ArrivalAccepted size u (length list) count w.tag (tags_inside u.functions (take count list))
unfolding arrival_answer
arrival_accepted size u list count w e = arrival_by_lem size u (length list) count w.tag (tags_inside u.functions (take count list)) e

pub record UnitAccepted (size : ℕ) (u : FunctionUnit) (length count : ℕ) (fit : Bool) : Type 0 where
  pub sound : sound_of u ≡ true
  pub long : size ≤ length
  pub few : count ≤ size
  pub tags : fit ≡ true

pub unit_by_lem : (size : ℕ) (u : FunctionUnit) (length count : ℕ) (fit : Bool) → unit_by size u length count fit ≡ Ok tt → UnitAccepted size u length count fit
unit_by_lem size u length count fit e =
    let e1 = check_next (sound_of u) NotSound _ e in
    let e2 = check_next (leb size length) ShortOutput _ e1 in
    record {
      sound = check_ok (sound_of u) NotSound _ e;
      long = leb-true size length (check_ok (leb size length) ShortOutput _ e1);
      few = leb-true count size (check_ok (leb count size) TooManyWait _ e2);
      tags = check_ok fit NoSuchTag _ (check_next (leb count size) TooManyWait _ e2);
    }

pub unit_accepted : (size : ℕ) (u : FunctionUnit) (list : List Waiting) (count : ℕ) → unit_answer size u list count ≡ Ok tt
    → UnitAccepted size u (length list) count (tags_inside u.functions (take count list))
unfolding unit_answer
unit_accepted size u list count e = unit_by_lem size u (length list) count (tags_inside u.functions (take count list)) e

-- and the other way round
pub unit_answered : (size : ℕ) (u : FunctionUnit) (list : List Waiting) (count : ℕ) → sound_of u ≡ true → size ≤ length list → count ≤ size
    → tags_inside u.functions (take count list) ≡ true → unit_answer size u list count ≡ Ok tt
unfolding unit_answer
unit_answered size u list count s l c t = simp (s, le-leb size (length list) l, le-leb count size c, t)
