-- The paper's marks 1 3 6 with m = 3; each refusal; a latency below the bound of the table that is there; and what is no unit with delays. Assumes nothing.
use Rattle.std.proofs.Common.{Ok, Err}
use Prim.Native.Nat.{ℕ, ◌<◌}
use mathlib.Core.Path.{◌≡◌, refl, sym, ap, ◌∙◌}
use mathlib.Core.List.{List, [], ◌∷◌, ◌++◌}
use native.Mathlib.Omega.{arith}
use lib.ListN.{get_or, replicate}
use Rattle.words.specs.Below.{some_below, count_below, max_below, least_from, word_below, list_below}
use Rattle.words.proofs.Tests.{nowhere}
use Rattle.clique_size.specs.Largest.{most_of, largest_clique}
use Rattle.unit.specs.declared.FunctionUnit.{FunctionUnit}
use Rattle.unit.specs.declared.Outcome.{Outcome}
use Rattle.unit.specs.declared.Plan.{Plan}
use Rattle.unit.specs.declared.Refusal.TheVariants.{NotSound, NoSuchTag, TwoMarks, BadInterval, PlaceBeyond}
use Rattle.unit.specs.Table.{Table}
use Rattle.unit.specs.Unit.{marked, marks_inside, sound_of}
use Rattle.unit.specs.Calls.{no_plan, tag_answer, unit_of}
use Rattle.collision.specs.Pipeline.{NeverCollides}
use Rattle.collision.specs.Vector.{collides, row_word, marks_of, bound_of}
use Rattle.collision.proofs.VectorLaws.{marked_bounded}
use Rattle.delays.specs.Delays.{last_of, sharing, taken, next_place, places, width_of, moved_table, crowded, delays_answer, delays_of}
use Rattle.delays.specs.Claims.{ByRule, Delayed, TwoIn, Beyond}
use Rattle.delays.proofs.RuleLaws.{by_rule, one_way}
use Rattle.delays.proofs.Claims.{delays_permit, one_unit, crowded_exactly, beyond_exactly}

-- so many functions, segments and columns, and the words of the first columns
abbrev pub having : ℕ → ℕ → ℕ → List ℕ → FunctionUnit
having f s c marks = record { functions = f; segments = s; columns = c; marks = marks; plan = no_plan }

-- marks 1 3 6 of one segment
abbrev pub paper : FunctionUnit
paper = having 1 1 6 (1 ∷ 0 ∷ 1 ∷ 0 ∷ 0 ∷ 1 ∷ replicate 122 0)

pub one_three_six : places (marked paper 1) 3 6 ≡ 1 ∷ 2 ∷ 3 ∷ 4 ∷ 5 ∷ 8 ∷ []
unfolding places next_place taken sharing some_below least_from marked
one_three_six = refl

pub paper_accepted : delays_answer paper 1 3 ≡ Ok tt
unfolding delays_answer tag_answer sound_of marks_inside marked some_below crowded marks_of max_below count_below places next_place taken sharing least_from no_plan
paper_accepted = refl

-- they become 1 3 8
pub one_three_eight : delays_of paper 1 3 ≡ record { answer = (Ok tt); unit = having 1 1 8 (1 ∷ 0 ∷ 1 ∷ 0 ∷ 0 ∷ 0 ∷ 0 ∷ 1 ∷ replicate 120 0) }
unfolding delays_of delays_answer tag_answer sound_of marks_inside marked some_below crowded marks_of max_below count_below places next_place taken sharing least_from no_plan unit_of moved_table list_below word_below
one_three_eight = refl

-- and no other place of column 6 is by the rule: not that of its predecessor, not 6 or 7, and none after 8
pub only_8 : (p : ℕ) → ByRule (marked paper 1) 3 6 (1 ∷ 2 ∷ 3 ∷ 4 ∷ 5 ∷ p ∷ []) → p ≡ 8
unfolding crowded marks_of max_below count_below some_below marked
only_8 p r =
    let found = by_rule (marked paper) 1 3 6 (marked_bounded paper) refl (omega arith) in
    ap (λ (l : List ℕ). get_or l 5 0) (one_way (marked paper 1) 3 6 _ _ r found ∙ one_three_six)

-- Refusals

pub no_function : delays_answer (having 0 1 6 (replicate 128 0)) 1 3 ≡ Err NotSound
unfolding delays_answer tag_answer sound_of
no_function = refl

pub function_2 : delays_answer paper 2 0 ≡ Err NoSuchTag
unfolding delays_answer tag_answer sound_of marks_inside marked some_below no_plan
function_2 = refl

-- two marks in column 1
pub two_marks : delays_answer (having 1 2 1 (3 ∷ replicate 127 0)) 1 0 ≡ Err TwoMarks
unfolding delays_answer tag_answer sound_of marks_inside marked some_below crowded no_plan
two_marks = refl

pub latency_0 : delays_answer paper 1 0 ≡ Err BadInterval
unfolding delays_answer tag_answer sound_of marks_inside marked some_below crowded no_plan
latency_0 = refl

pub latency_33 : delays_answer paper 1 33 ≡ Err BadInterval
unfolding delays_answer tag_answer sound_of marks_inside marked some_below crowded no_plan
latency_33 = refl

pub latency_2 : delays_answer paper 1 2 ≡ Err BadInterval
unfolding delays_answer tag_answer sound_of marks_inside marked some_below crowded marks_of max_below count_below no_plan
latency_2 = refl

-- a refused call hands the unit back
pub kept : delays_of paper 1 2 ≡ record { answer = Err BadInterval; unit = paper }
unfolding delays_of
kept = rw latency_2

-- marks 1 3 and 32 columns, of which the last has no mark
abbrev pub wide : FunctionUnit
wide = having 1 1 32 (1 ∷ 0 ∷ 1 ∷ replicate 125 0)

pub column_32 : delays_answer wide 1 2 ≡ Err PlaceBeyond
unfolding delays_answer tag_answer sound_of marks_inside marked some_below crowded marks_of max_below count_below places next_place taken sharing least_from no_plan
column_32 = refl

-- marks 1 3 5 and 32 columns: with m = 2 the last is beyond 32 too, and 20 is tried first
abbrev pub full : FunctionUnit
full = having 1 1 32 (1 ∷ 0 ∷ 1 ∷ 0 ∷ 1 ∷ replicate 123 0)

pub before_21 : (delays_answer full 1 2 ≡ Err BadInterval) × (32 < width_of (marked full 1) 2 32)
unfolding delays_answer tag_answer sound_of marks_inside marked some_below crowded marks_of max_below count_below places next_place taken sharing least_from no_plan
before_21 = (refl, omega arith)

-- three segments of two marks each, one, two and three columns apart: a set of four numbers is all a forbidden latency apart, and m = 2 is accepted
abbrev pub apart : FunctionUnit
apart = having 1 3 7 (1 ∷ 1 ∷ 2 ∷ 4 ∷ 2 ∷ 0 ∷ 4 ∷ replicate 121 0)

pub bound_4 : bound_of (marked apart) 1 ≡ 4
unfolding bound_of largest_clique most_of row_word word_below collides some_below marked
bound_4 = refl

pub below_the_bound : delays_answer apart 1 2 ≡ Ok tt
unfolding delays_answer tag_answer sound_of marks_inside marked some_below crowded marks_of max_below count_below places next_place taken sharing least_from no_plan
below_the_bound = refl

-- What is no unit with delays

-- one whose width, or a mark, is not that of 1 3 8
other_width : (v : FunctionUnit) → Delayed paper 1 3 v → v.columns ≡ 8
other_width v d =
    let found = delays_permit paper 1 3 paper_accepted in
    (one_unit paper v (delays_of paper 1 3).unit 1 3 d found).columns ∙ ap (λ (o : Outcome). o.unit.columns) one_three_eight

other_mark : (v : FunctionUnit) → Delayed paper 1 3 v → (z : ℕ) → marked v 1 1 z ≡ marked (delays_of paper 1 3).unit 1 1 z
other_mark v d z =
    let found = delays_permit paper 1 3 paper_accepted in
    ap (λ (t : Table). t 1 1 z) (one_unit paper v (delays_of paper 1 3).unit 1 3 d found).marks

-- the function as it was: column 6 of a task and column 3 of the next one, three time units later, meet
pub collides_at_3 : NeverCollides (marked paper) 1 (3 ∷ []) → ⊥
unfolding marked
collides_at_3 never =
    never 0 1 (omega arith) (record {
      segment = 1;
      time = 6;
      one = record { column = 6; marked = refl; moment = refl };
      other = record { column = 3; marked = refl; moment = refl };
    })

pub unmoved : Delayed paper 1 3 paper → ⊥
unmoved d = collides_at_3 d.never

-- 11 has a remainder that is free, and is not the first place that has
pub too_late : Delayed paper 1 3 (having 1 1 11 (1 ∷ 0 ∷ 1 ∷ replicate 7 0 ++ (1 ∷ replicate 117 0))) → ⊥
too_late d = omega (arith, other_width _ d)

-- 7 has the remainder of 1
pub last_mark_only : Delayed paper 1 3 (having 1 1 8 (1 ∷ 0 ∷ 1 ∷ 0 ∷ 0 ∷ 0 ∷ 1 ∷ replicate 121 0)) → ⊥
unfolding marked
last_mark_only d = nowhere (other_mark _ d 8 ∙ ap (λ (o : Outcome). marked o.unit 1 1 8) one_three_eight)

-- a mark that was not there
pub one_mark_more : Delayed paper 1 3 (having 1 1 8 (1 ∷ 1 ∷ 1 ∷ 0 ∷ 0 ∷ 0 ∷ 0 ∷ 1 ∷ replicate 120 0)) → ⊥
unfolding marked
one_mark_more d = nowhere (sym (other_mark _ d 2 ∙ ap (λ (o : Outcome). marked o.unit 1 1 2) one_three_eight))

-- a function or a segment more than it should have, a plan, a mark of a function that it has not
abbrev moved : List ℕ
moved = 1 ∷ 0 ∷ 1 ∷ 0 ∷ 0 ∷ 0 ∷ 0 ∷ 1 ∷ replicate 24 0

pub two_functions : Delayed paper 1 3 (having 2 1 8 (moved ++ replicate 96 0)) → ⊥
two_functions d = omega (arith, d.functions)

pub two_segments : Delayed paper 1 3 (having 1 2 8 (moved ++ replicate 96 0)) → ⊥
two_segments d = omega (arith, d.segments)

pub with_a_plan : Delayed paper 1 3 (record {
  functions = 1;
  segments = 1;
  columns = 8;
  marks = moved ++ replicate 96 0;
  plan = record { tag = 1; count = 1; sum = 3; latencies = 3 ∷ replicate 255 0 };
}) → ⊥
unfolding no_plan
with_a_plan d = omega (arith, ap (λ (p : Plan). p.tag) d.plan)

pub of_function_2 : Delayed paper 1 3 (having 1 1 8 (moved ++ (1 ∷ replicate 95 0))) → ⊥
unfolding sound_of marks_inside marked some_below no_plan
of_function_2 d = nowhere d.sound

-- What the refusals are for, and what they are not for

-- two marks in column 1
pub two : TwoIn (marked (having 1 2 1 (3 ∷ replicate 127 0)) 1)
unfolding crowded some_below marked
two = (crowded_exactly (having 1 2 1 (3 ∷ replicate 127 0)) 1).0 refl

-- column 32, which has no mark, is at place 33
pub beyond : Beyond (marked wide 1) 2 32
unfolding crowded marks_of max_below count_below some_below marked places next_place taken sharing least_from
beyond = (beyond_exactly wide 1 2 refl (omega arith)).0 (omega arith)

-- one mark in each marked column
pub not_two : TwoIn (marked paper 1) → ⊥
unfolding crowded some_below marked
not_two t = nowhere ((crowded_exactly paper 1).1 t)

-- the last place is 8
pub not_beyond : Beyond (marked paper 1) 3 6 → ⊥
unfolding crowded marks_of max_below count_below some_below marked
not_beyond b =
    let width : 32 < width_of (marked paper 1) 3 6 = (beyond_exactly paper 1 3 refl (omega arith)).1 b in
    omega (arith, ap last_of one_three_six)
