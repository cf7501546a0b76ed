-- How an answer follows from what was tried before it, and what the vector's answer tells a caller. Assumes nothing.
use Rattle.std.proofs.Common.{Ok, Err}
use Prim.Native.Nat.{ℕ}
use mathlib.Core.Path.{◌≡◌, refl, ap, ap₂, sym}
use mathlib.Core.Bool.{Bool, true, false}
use native.Mathlib.Omega.{arith}
use Rattle.unit.specs.declared.FunctionUnit.{FunctionUnit}
use Rattle.unit.specs.declared.Refusal.{Refusal}
use Rattle.unit.specs.declared.Refusal.TheVariants.{NotSound, NoSuchTag}
use Rattle.unit.specs.Answers.{Answer}
use Rattle.unit.specs.Unit.{inside, marked, sound_of}
use Rattle.unit.specs.Calls.{check, tag_answer}
use Rattle.unit.proofs.Laws.{never_done, tag_accepted}
use Rattle.collision.specs.Vector.{vector_word}
use Rattle.collision.specs.Answers.{answering, tags_answer, vector_answer}

-- a number, or why there is none

pub number_refused : {a : Answer} {why : Refusal} (n : ℕ) → a ≡ Err why → Err why ≡ answering a n
number_refused n e = ap (λ b. answering b n) (sym e)

pub number_given : {a : Answer} {m n : ℕ} → a ≡ Ok tt → m ≡ n → Ok m ≡ answering a n
number_given e f = ap₂ answering (sym e) f

-- two tags are tried one after the other

pub tags_one : (u : FunctionUnit) (q r : ℕ) (why : Refusal) → tag_answer u q ≡ Err why → tags_answer u q r ≡ Err why
unfolding tag_answer tags_answer
tags_one u q r why e = go (sound_of u) (inside q u.functions) e
  where
    go : (a b : Bool) → check a NotSound (check b NoSuchTag (Ok tt)) ≡ Err why
        → check a NotSound (check b NoSuchTag (check (inside r u.functions) NoSuchTag (Ok tt))) ≡ Err why
    go true true e = never_done (sym e)
    go true false e = e
    go false b e = e

pub tags_other : (u : FunctionUnit) (q r : ℕ) → tag_answer u q ≡ Ok tt → tags_answer u q r ≡ tag_answer u r
unfolding tag_answer tags_answer
tags_other u q r e = let a = tag_accepted u q e in simp (a.sound, a.tag)

-- what the vector's answer tells of the tag and of the word

answer_refused : (a : Answer) (n : ℕ) (why : Refusal) → answering a n ≡ Err why → a ≡ Err why
answer_refused (Ok _) n why e = let z : ◌≡◌ {A = ℕ} 0 1 = cc in absurd (omega arith)
answer_refused (Err other) n why e = cc

pub vector_refused : (u : FunctionUnit) (q : ℕ) (why : Refusal) → vector_answer u q ≡ Err why → tag_answer u q ≡ Err why
unfolding vector_answer
vector_refused u q why e = answer_refused (tag_answer u q) (vector_word (marked u) q) why e

-- nothing was refused, and the number that was asked for is the one in hand
pub record Given (a : Answer) (n w : ℕ) : Type 0 where
  pub done : a ≡ Ok tt
  pub value : n ≡ w

pub answer_given : (a : Answer) (n w : ℕ) → answering a n ≡ Ok w → Given a n w
answer_given (Ok _) n w e = record { done = refl; value = cc }
answer_given (Err why) n w e = let z : ◌≡◌ {A = ℕ} 0 1 = cc in absurd (omega arith)

pub vector_given : (u : FunctionUnit) (q w : ℕ) → vector_answer u q ≡ Ok w → Given (tag_answer u q) (vector_word (marked u) q) w
unfolding vector_answer
vector_given u q w e = answer_given (tag_answer u q) (vector_word (marked u) q) w e
