-- What the calls about one function answer.
use Rattle.std.specs.Prelude.{ℕ, Result, Ok, Err}
use Rattle.unit.specs.declared.FunctionUnit.{FunctionUnit}
use Rattle.unit.specs.declared.Refusal.TheVariants.{NotSound, NoSuchTag}
use Rattle.unit.specs.Answers.{Answer}
use Rattle.unit.specs.Unit.{inside, marked, sound_of}
use Rattle.unit.specs.Calls.{check, tag_answer}
use Rattle.collision.specs.Vector.{vector_word, row_word, marks_of, bound_of, upper_of, constant_of}
use Rattle.unit.specs.declared.Refusal.{Refusal}

-- the value, where nothing is refused
abbrev pub answering : Answer → ℕ → Result ℕ Refusal
answering (Ok _) n = Ok n
answering (Err why) n = Err why

-- two tags: the unit, then either tag
unfoldable pub tags_answer : FunctionUnit → ℕ → ℕ → Answer
tags_answer u q r =
    check (sound_of u) NotSound
    (check (inside q u.functions) NoSuchTag
    (check (inside r u.functions) NoSuchTag (Ok tt)))

unfoldable pub vector_answer : FunctionUnit → ℕ → Result ℕ Refusal
vector_answer u q = answering (tag_answer u q) (vector_word (marked u) q)

-- row q of M_r
unfoldable pub row_answer : FunctionUnit → ℕ → ℕ → Result ℕ Refusal
row_answer u q r = answering (tags_answer u q r) (row_word (marked u) q r)

unfoldable pub marks_answer : FunctionUnit → ℕ → Result ℕ Refusal
marks_answer u q = answering (tag_answer u q) (marks_of (marked u) q)

unfoldable pub bound_answer : FunctionUnit → ℕ → Result ℕ Refusal
bound_answer u q = answering (tag_answer u q) (bound_of (marked u) q)

unfoldable pub upper_answer : FunctionUnit → ℕ → Result ℕ Refusal
upper_answer u q = answering (tag_answer u q) (upper_of (marked u) q)

unfoldable pub constant_answer : FunctionUnit → ℕ → Result ℕ Refusal
constant_answer u q = answering (tag_answer u q) (constant_of (marked u) q)
