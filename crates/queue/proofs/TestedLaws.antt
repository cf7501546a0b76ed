-- The tests are one after the other, in the order of the code's lines, so that the first that fails is told. Assumes nothing.
use Rattle.std.proofs.Common.{Ok}
use Prim.Native.Nat.{ℕ}
use mathlib.Core.Path.{◌≡◌, ap, ◌∙◌, sym}
use mathlib.Core.Bool.{Bool}
use mathlib.Core.List.{List}
use lib.Dec.{leb, ltb}
use lib.ListN.{length, take}
use Rattle.unit.specs.declared.FunctionUnit.{FunctionUnit}
use Rattle.unit.specs.declared.Refusal.TheVariants.{NotSound, NoSuchTag, ShortOutput, TooManyWait}
use Rattle.unit.specs.Answers.{Answer}
use Rattle.unit.specs.Unit.{inside, sound_of}
use Rattle.unit.specs.Calls.{tested_by}
use Rattle.unit.proofs.TestLaws.{two_tests, four_tests, five_tests}
use Rattle.controller.specs.declared.Bank.{Bank}
use Rattle.queue.specs.declared.Waiting.{Waiting}
use Rattle.queue.specs.Line.{tags_inside}
use Rattle.queue.specs.Calls.{arrival_by, arrival_answer, arrival_of, unit_by, unit_answer, oldest, passed_then, passed_of, pass_of}
use Rattle.queue.specs.Inner.{list_by}

-- A list

pub list_tested : (size : ℕ) (u : FunctionUnit) (length : ℕ)
    → list_by size u length ≡ tested_by (tested_by (Ok tt) (sound_of u) NotSound) (leb size length) ShortOutput
list_tested size u length = sym (two_tests (sound_of u) (leb size length) NotSound ShortOutput)

-- An arrival

pub arrival_tested : (size : ℕ) (u : FunctionUnit) (length count tag : ℕ) (fit : Bool)
    → arrival_by size u length count tag fit
    ≡ tested_by
    (tested_by
    (tested_by (tested_by (tested_by (Ok tt) (sound_of u) NotSound) (leb size length) ShortOutput) (inside tag u.functions) NoSuchTag)
    (ltb count size) TooManyWait)
    fit NoSuchTag
arrival_tested size u length count tag fit =
    sym (ap (λ (x : Answer). tested_by (tested_by (tested_by x (inside tag u.functions) NoSuchTag) (ltb count size) TooManyWait) fit NoSuchTag)
    (sym (list_tested size u length))
    ∙ five_tests (sound_of u) (leb size length) (inside tag u.functions) (ltb count size) fit NotSound ShortOutput NoSuchTag TooManyWait NoSuchTag)

-- so the answer to it
pub arrival_told : (size : ℕ) (u : FunctionUnit) (list : List Waiting) (count : ℕ) (w : Waiting)
    → (arrival_of size u list count w).answer
    ≡ tested_by
    (tested_by
    (tested_by (tested_by (tested_by (Ok tt) (sound_of u) NotSound) (leb size (length list)) ShortOutput) (inside w.tag u.functions) NoSuchTag)
    (ltb count size) TooManyWait)
    (tags_inside u.functions (take count list)) NoSuchTag
unfolding arrival_of arrival_answer
arrival_told size u list count w = arrival_tested size u (length list) count w.tag (tags_inside u.functions (take count list))

-- A time unit

pub unit_tested : (size : ℕ) (u : FunctionUnit) (length count : ℕ) (fit : Bool)
    → unit_by size u length count fit
    ≡ tested_by (tested_by (tested_by (tested_by (Ok tt) (sound_of u) NotSound) (leb size length) ShortOutput) (leb count size) TooManyWait) fit NoSuchTag
unit_tested size u length count fit =
    sym (ap (λ (x : Answer). tested_by (tested_by x (leb count size) TooManyWait) fit NoSuchTag) (sym (list_tested size u length))
    ∙ four_tests (sound_of u) (leb size length) (leb count size) fit NotSound ShortOutput TooManyWait NoSuchTag)

-- so its answer: the first refusal, or what is done with the oldest record
pub unit_told : (size : ℕ) (u : FunctionUnit) (b : Bank) (list : List Waiting) (count : ℕ)
    → (pass_of size u b list count).answer
    ≡ passed_then
    (tested_by
    (tested_by (tested_by (tested_by (Ok tt) (sound_of u) NotSound) (leb size (length list)) ShortOutput) (leb count size) TooManyWait)
    (tags_inside u.functions (take count list)) NoSuchTag)
    (oldest b (take count list))
unfolding pass_of passed_of unit_answer
unit_told size u b list count =
    ap (λ (x : Answer). passed_then x (oldest b (take count list)))
    (unit_tested size u (length list) count (tags_inside u.functions (take count list)))
