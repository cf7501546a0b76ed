-- The line of waiting records after an arrival and after a start. Assumes nothing.
use Prim.Native.Nat.{ℕ, zero, suc, ◌+◌, ◌-◌, ◌≤◌, ◌<◌}
use mathlib.Core.Path.{◌≡◌, refl, ap, ◌∙◌}
use mathlib.Core.Bool.{Bool, true, false, ◌&&◌}
use mathlib.Core.List.{List, [], ◌∷◌, ◌++◌}
use native.Mathlib.Omega.{arith}
use native.Mathlib.Numerals.{add-one}
use lib.ListN.{length, take, drop, set, length-append, length-take, length-drop}
use lib.Seq.{take_at, take-suc-set, length-take-le}
use Rattle.std.specs.List.{copy_within, list_all}
use Rattle.words.proofs.Tests.{and_left, and_right, and_true}
use Rattle.unit.specs.declared.FunctionUnit.{FunctionUnit}
use Rattle.unit.specs.Unit.{inside}
use Rattle.queue.specs.declared.Waiting.{Waiting}
use Rattle.queue.specs.Line.{tags_inside, forward}

and_one : (b : Bool) → b && true ≡ true && b
and_one true = refl
and_one false = refl

and_assoc : (a b c : Bool) → a && (b && c) ≡ (a && b) && c
and_assoc true b c = refl
and_assoc false b c = refl

-- Tags

pub tags_first : (u : FunctionUnit) (w : Waiting) (line : List Waiting) → tags_inside u.functions (w ∷ line) ≡ true → inside w.tag u.functions ≡ true
unfolding tags_inside
tags_first u w line e = and_left (inside w.tag u.functions) _ e

pub tags_rest : (u : FunctionUnit) (w : Waiting) (line : List Waiting) → tags_inside u.functions (w ∷ line) ≡ true → tags_inside u.functions line ≡ true
unfolding tags_inside
tags_rest u w line e = and_right (inside w.tag u.functions) _ e

-- one more record
pub tags_one_more : (f : ℕ) (line : List Waiting) (w : Waiting) → tags_inside f (line ++ w ∷ []) ≡ tags_inside f line && inside w.tag f
unfolding tags_inside
tags_one_more f [] w = and_one (inside w.tag f)
tags_one_more f (x ∷ line) w = ap (λ t. inside x.tag f && t) (tags_one_more f line w) ∙ and_assoc (inside x.tag f) (tags_inside f line) (inside w.tag f)

pub tags_joined : (u : FunctionUnit) (line : List Waiting) (w : Waiting) → tags_inside u.functions line ≡ true → inside w.tag u.functions ≡ true
    → tags_inside u.functions (line ++ w ∷ []) ≡ true
tags_joined u line w e i = tags_one_more u.functions line w ∙ and_true e i

-- whether all of them have
pub tags_all : (f : ℕ) (line : List Waiting) → list_all (λ w. inside w.tag f) line ≡ tags_inside f line
unfolding tags_inside
tags_all f [] = refl
tags_all f (w ∷ line) = ap (λ t. inside w.tag f && t) (tags_all f line)

pub tags_take : (f n : ℕ) (line : List Waiting) → tags_inside f line ≡ true → tags_inside f (take n line) ≡ true
unfolding tags_inside
tags_take f zero line e = refl
tags_take f (suc n) [] e = refl
tags_take f (suc n) (x ∷ line) e = and_true (and_left (inside x.tag f) _ e) (tags_take f n line (and_right (inside x.tag f) _ e))

-- An arrival

pub set_line : (list : List Waiting) (count : ℕ) (w : Waiting) → count < length list → take (count + 1) (set list count w) ≡ take count list ++ w ∷ []
set_line list count w h = rw add-one (take-suc-set list count w h)

-- A start

-- the method of a list that moves a part of it
pub copied_forward : (list after : List Waiting) (count : ℕ) → after ≡ copy_within list 1 count 0 → after ≡ forward list count
unfolding forward
copied_forward list after count e = e ∙ ap (λ k. take (count - 1) (drop 1 list) ++ drop k list) (omega arith)

pub forward_length : (list : List Waiting) (count : ℕ) → count ≤ length list → 1 ≤ count → length (forward list count) ≡ length list
unfolding forward
forward_length list count h l =
    omega (arith, length-append (take (count - 1) (drop 1 list)) (drop (count - 1) list), length-take-le (count - 1) (drop 1 list) (omega (arith, length-drop 1 list)), length-drop 1 list, length-drop (count - 1) list)

pub forward_line : (list : List Waiting) (count : ℕ) (w : Waiting) (line : List Waiting) → count ≤ length list → take count list ≡ w ∷ line
    → take (count - 1) (forward list count) ≡ line
unfolding forward
forward_line list count w line h e =
    take_at (take (count - 1) (drop 1 list)) (drop (count - 1) list) (count - 1)
    (omega (arith, length-take (count - 1) (drop 1 list), length-drop 1 list))
    ∙ rest list count e
  where
    rest : (list : List Waiting) (count : ℕ) → take count list ≡ w ∷ line → take (count - 1) (drop 1 list) ≡ line
    rest list zero e = let z : ◌≡◌ {A = ℕ} 0 1 = cc in absurd (omega arith)
    rest [] (suc count) e = let z : ◌≡◌ {A = ℕ} 0 1 = cc in absurd (omega arith)
    rest (x ∷ list) (suc count) e = let s : suc count - 1 ≡ count = omega arith in rw s (cc)
