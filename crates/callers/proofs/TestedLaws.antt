-- The tests are one after the other, in the order of the code's lines; what refuses a call, and what accepts it. Assumes nothing.
use Rattle.std.proofs.Common.{Ok, Err}
use Prim.Native.Nat.{ℕ, ◌+◌, ◌-◌, ◌*◌, ◌≤◌, ◌<◌}
use mathlib.Core.Path.{◌≡◌, refl, ap, ◌∙◌, sym}
use mathlib.Core.Bool.{Bool, true, false}
use mathlib.Core.List.{List}
use native.Mathlib.Omega.{arith}
use lib.Dec.{leb, ltb}
use lib.ListN.{take, drop}
use borrow.Author.Tests.{leb-true, leb-false, le-leb, lt-leb}
use Rattle.words.proofs.Tests.{nowhere, by_test, and_left, and_right}
use Rattle.unit.specs.declared.FunctionUnit.{FunctionUnit}
use Rattle.unit.specs.Answers.{Answer}
use Rattle.unit.specs.Calls.{check, tested_by}
use Rattle.unit.specs.declared.Refusal.{Refusal}
use Rattle.unit.specs.declared.Refusal.TheVariants.{NotSound, NoSuchTag, ShortOutput, TooManyWait, NoSuchCaller}
use Rattle.unit.specs.Unit.{inside, sound_of}
use Rattle.unit.proofs.Laws.{within, inside_of, check_ok, check_next, never_done}
use Rattle.unit.proofs.TestLaws.{two_tests, five_tests, six_tests}
use Rattle.controller.specs.declared.Bank.{Bank}
use Rattle.queue.specs.declared.Waiting.{Waiting}
use Rattle.queue.specs.Line.{tags_inside}
use Rattle.queue.specs.Calls.{oldest, passed_then}
use Rattle.queue.proofs.AcceptedLaws.{arrival_by_lem}
use Rattle.callers.specs.Turn.{each_caller}
use Rattle.callers.specs.Queues.{room, place_of, count_of, waiting_of}
use Rattle.callers.specs.Calls.{one_of, caller_first, caller_of, served_by}
use Rattle.callers.specs.Parts.{arrival_in, arrival_on_by, unit_in, unit_on_by}
use Rattle.callers.specs.Inner.{Among, Servable}

-- Callers

pub one_of_lem : (C i : ℕ) → one_of C i ≡ true → Among C i
one_of_lem C i e =
    let c = within C 4 (and_left (inside C 4) _ e) in
    let w = within i C (and_right (inside C 4) _ e) in
    record { few = c.most; least = w.least; most = w.most }

-- what is none of 4 is no caller
pub none_of : (C i : ℕ) → inside i 4 ≡ false → one_of C i ≡ false
none_of C i e =
    by_test (one_of C i)
    (λ t. let a = one_of_lem C i t in nowhere (sym e ∙ inside_of i 4 a.least (omega (arith, a.few, a.most))))
    (λ f. f)

-- what is tried first refuses before what comes after it
pub first_refused : (u : FunctionUnit) (C i : ℕ) (next : Answer) (why : Refusal) → caller_first u C i (Ok tt) ≡ Err why → caller_first u C i next ≡ Err why
first_refused u C i next why = go (sound_of u) (one_of C i)
  where
    go : (a b : Bool) → check a NotSound (check b NoSuchCaller (Ok tt)) ≡ Err why → check a NotSound (check b NoSuchCaller next) ≡ Err why
    go true true e = never_done (sym e)
    go true false e = e
    go false b e = e

-- An arrival

-- a queue is all in a list of this length exactly where the list reaches its end
pub reaches : (p length : ℕ) → leb room (length - p) ≡ leb (p + room) length
reaches p length = by_test (leb (p + room) length)
    (λ t. le-leb room (length - p) (omega (arith, leb-true (p + room) length t)) ∙ sym t)
    (λ f. lt-leb room (length - p) (omega (arith, leb-false (p + room) length f)) ∙ sym f)

pub arrival_tests : (u : FunctionUnit) (C i length : ℕ) (list : List Waiting) (count tag : ℕ)
    → arrival_in u C i length list count tag
    ≡ tested_by
    (tested_by
    (tested_by
    (tested_by (tested_by (tested_by (Ok tt) (sound_of u) NotSound) (one_of C i) NoSuchCaller) (leb (place_of i + room) length) ShortOutput)
    (inside tag u.functions) NoSuchTag)
    (ltb count room) TooManyWait)
    (tags_inside u.functions (take count (drop (place_of i) list))) NoSuchTag
arrival_tests u C i length list count tag =
    let fit = tags_inside u.functions (take count (drop (place_of i) list)) in
    sym (ap (λ (x : Answer). tested_by
    (tested_by (tested_by (tested_by x (leb (place_of i + room) length) ShortOutput) (inside tag u.functions) NoSuchTag) (ltb count room) TooManyWait)
    fit NoSuchTag)
    (two_tests (sound_of u) (one_of C i) NotSound NoSuchCaller)
    ∙ six_tests (sound_of u) (one_of C i) (leb (place_of i + room) length) (inside tag u.functions) (ltb count room) fit
    NotSound NoSuchCaller ShortOutput NoSuchTag TooManyWait NoSuchTag
    ∙ once (sound_of u) (one_of C i) _
    ∙ ap (λ (long : Bool). caller_first u C i
    (check (sound_of u) NotSound
    (check long ShortOutput (check (inside tag u.functions) NoSuchTag (check (ltb count room) TooManyWait (check fit NoSuchTag (Ok tt)))))))
    (sym (reaches (place_of i) length)))
  where
    -- the unit is tested once
    once : (a b : Bool) (next : Answer) → check a NotSound (check b NoSuchCaller next) ≡ check a NotSound (check b NoSuchCaller (check a NotSound next))
    once true b next = refl
    once false b next = refl

-- so the answer to it
pub arrival_told : (u : FunctionUnit) (C i length : ℕ) (list : List Waiting) (count : ℕ) (w : Waiting)
    → (arrival_on_by i list count w (arrival_in u C i length list count w.tag)).arrival.answer
    ≡ tested_by
    (tested_by
    (tested_by
    (tested_by (tested_by (tested_by (Ok tt) (sound_of u) NotSound) (one_of C i) NoSuchCaller) (leb (place_of i + room) length) ShortOutput)
    (inside w.tag u.functions) NoSuchTag)
    (ltb count room) TooManyWait)
    (tags_inside u.functions (take count (drop (place_of i) list))) NoSuchTag
arrival_told u C i length list count w = arrival_tests u C i length list count w.tag

pub record ArrivalAccepted (C i length count : ℕ) : Type 0 where
  pub caller : one_of C i ≡ true
  pub long : place_of i + room ≤ length
  pub few : count < room

pub arrival_accepted : (u : FunctionUnit) (C i length : ℕ) (list : List Waiting) (count tag : ℕ) → arrival_in u C i length list count tag ≡ Ok tt
    → ArrivalAccepted C i length count
arrival_accepted u C i length list count tag e =
    let e1 = check_next (sound_of u) NotSound _ e in
    let a = arrival_by_lem room u (length - place_of i) count tag (tags_inside u.functions (take count (drop (place_of i) list))) (check_next (one_of C i) NoSuchCaller _ e1) in
    record {
      caller = check_ok (one_of C i) NoSuchCaller _ e1;
      long = omega (arith, a.long);
      few = a.few;
    }

-- A time unit

abbrev pub few_at : List ℕ → ℕ → Bool
few_at counts i = leb (count_of counts i) room

abbrev pub fits_at : ℕ → List Waiting → List ℕ → ℕ → Bool
fits_at f list counts i = tags_inside f (take (count_of counts i) (drop (place_of i) list))

pub unit_tests : (u : FunctionUnit) (C turn length : ℕ) (list : List Waiting) (counts : List ℕ)
    → unit_in u C turn length list counts
    ≡ tested_by
    (tested_by
    (tested_by (tested_by (tested_by (Ok tt) (sound_of u) NotSound) (one_of C turn) NoSuchCaller) (leb (room * C) length) ShortOutput)
    (each_caller C (few_at counts)) TooManyWait)
    (each_caller C (fits_at u.functions list counts)) NoSuchTag
unit_tests u C turn length list counts =
    let few = each_caller C (few_at counts) in
    let fit = each_caller C (fits_at u.functions list counts) in
    sym (ap (λ (x : Answer). tested_by (tested_by (tested_by x (leb (room * C) length) ShortOutput) few TooManyWait) fit NoSuchTag)
    (two_tests (sound_of u) (one_of C turn) NotSound NoSuchCaller)
    ∙ five_tests (sound_of u) (one_of C turn) (leb (room * C) length) few fit NotSound NoSuchCaller ShortOutput TooManyWait NoSuchTag)

-- so its answer: the first refusal, or what is done with the oldest record of the caller whose turn it is
pub unit_told : (u : FunctionUnit) (b : Bank) (C turn length : ℕ) (list : List Waiting) (counts : List ℕ)
    → (unit_on_by u b C turn list counts (unit_in u C turn length list counts)).turned.answer
    ≡ served_by (caller_of C turn counts)
    (passed_then
    (tested_by
    (tested_by
    (tested_by (tested_by (tested_by (Ok tt) (sound_of u) NotSound) (one_of C turn) NoSuchCaller) (leb (room * C) length) ShortOutput)
    (each_caller C (few_at counts)) TooManyWait)
    (each_caller C (fits_at u.functions list counts)) NoSuchTag)
    (oldest b (waiting_of list counts (caller_of C turn counts))))
unit_told u b C turn length list counts =
    ap (λ (x : Answer). served_by (caller_of C turn counts) (passed_then x (oldest b (waiting_of list counts (caller_of C turn counts)))))
    (unit_tests u C turn length list counts)

pub unit_accepted : (u : FunctionUnit) (C turn length : ℕ) (list : List Waiting) (counts : List ℕ) → unit_in u C turn length list counts ≡ Ok tt
    → Servable u C turn list counts
unit_accepted u C turn length list counts e =
    let e1 = check_next (sound_of u) NotSound _ e in
    let e2 = check_next (one_of C turn) NoSuchCaller _ e1 in
    let e3 = check_next (leb (room * C) length) ShortOutput _ e2 in
    record {
      sound = check_ok (sound_of u) NotSound _ e;
      turn_there = check_ok (one_of C turn) NoSuchCaller _ e1;
      few = check_ok (each_caller C (few_at counts)) TooManyWait _ e3;
      fit = check_ok (each_caller C (fits_at u.functions list counts)) NoSuchTag _ (check_next (each_caller C (few_at counts)) TooManyWait _ e3);
    }

pub unit_long : (u : FunctionUnit) (C turn length : ℕ) (list : List Waiting) (counts : List ℕ) → unit_in u C turn length list counts ≡ Ok tt → room * C ≤ length
unit_long u C turn length list counts e =
    leb-true (room * C) length
    (check_ok (leb (room * C) length) ShortOutput _ (check_next (one_of C turn) NoSuchCaller _ (check_next (sound_of u) NotSound _ e)))
