-- The latencies of a line that are handed on: 257 suffice, since more than 256 are refused. Assumes nothing.
use Rattle.std.proofs.Common.{Ok, Err}
use mathlib.Core.Path.{◌≡◌, refl, sym, ap, ◌∙◌}
use mathlib.Core.Bool.{Bool, true, false}
use mathlib.Core.List.{List}
use Prim.Native.Nat.{ℕ, min, ◌<◌}
use native.Mathlib.Omega.{arith}
use borrow.Author.Tests.{leb-true, leb-false, le-leb, lt-leb}
use lib.Dec.{leb}
use lib.ListN.{length, take}
use lib.Seq.{take_all, length-take-le}
use Rattle.text.specs.Text.{put_in, put_end}
use Rattle.unit.specs.declared.FunctionUnit.{FunctionUnit}
use Rattle.unit.specs.Answers.{Answer}
use Rattle.unit.specs.Unit.{marked}
use Rattle.unit.specs.Calls.{tag_answer}
use Rattle.judge.specs.Judge.{good_cycle, meets, verdict, cycle_answer, judge_answer}
use Rattle.questions.specs.declared.Question.{Question}
use Rattle.questions.specs.declared.Question.TheVariants as Question
use Rattle.questions.specs.Replies.{verdict_line, reply_to}
use Rattle.command.specs.Lines.{latencies_in, in_front}
use Rattle.command.proofs.FrontLaws.{front_taken}
use Rattle.session.specs.declared.Session.{Session}
use Rattle.console.specs.Turns.{question}
use Rattle.session.specs.Sessions.{Line}
use Rattle.console.specs.Inner.{Gives}
use Rattle.session.proofs.LineLaws.{line_as}

-- The cut

long_bad : (l : List ℕ) → 256 < length l → good_cycle l ≡ false
unfolding good_cycle
long_bad l h = rw (le-leb 1 (length l) (omega arith), lt-leb (length l) 256 h)

-- cycles that are both bad are judged alike
bad_alike : (a : Answer) (l m : List ℕ) (b c : Bool) → good_cycle l ≡ false → good_cycle m ≡ false → verdict (cycle_answer a l) b ≡ verdict (cycle_answer a m) c
unfolding cycle_answer
bad_alike (Ok _) l m b c e f = rw (e, f)
bad_alike (Err why) l m b c e f = refl

long_cut : (u : FunctionUnit) (q : ℕ) (l : List ℕ) → 256 < length l → judge_answer u q (take 257 l) ≡ judge_answer u q l
unfolding judge_answer
long_cut u q l h =
    bad_alike (tag_answer u q) (take 257 l) l (meets (marked u) q (take 257 l)) (meets (marked u) q l)
    (long_bad (take 257 l) (omega (arith, length-take-le 257 l (omega arith)))) (long_bad l h)

-- what is judged of a list is judged of its first 257 latencies
pub judge_cut : (u : FunctionUnit) (q : ℕ) (l : List ℕ) → judge_answer u q (take 257 l) ≡ judge_answer u q l
judge_cut u q l = go (leb (length l) 256) refl
  where
    go : (b : Bool) → leb (length l) 256 ≡ b → judge_answer u q (take 257 l) ≡ judge_answer u q l
    go true e = ap (judge_answer u q) (take_all 257 l (omega (arith, leb-true (length l) 256 e)))
    go false e = long_cut u q l (leb-false (length l) 256 e)

-- no other question depends on the latencies
reply_cut : (u : FunctionUnit) (asked : Question) (l : List ℕ) → reply_to u asked (take 257 l) ≡ reply_to u asked l
unfolding reply_to
reply_cut u (Question.Vector q) l = refl
reply_cut u (Question.Row q r) l = refl
reply_cut u (Question.States q) l = refl
reply_cut u (Question.Greedy q) l = refl
reply_cut u (Question.Bound q) l = refl
reply_cut u (Question.Upper q) l = refl
reply_cut u (Question.Constant q) l = refl
reply_cut u (Question.Judge q) l = ap verdict_line (judge_cut u q.0 l)

-- What was read of the line

module _ (l zeros : List ℕ) {count : ℕ} {cycle : List ℕ} (n : count ≡ min (length l) (length zeros)) (e : cycle ≡ in_front l zeros) where
  -- the answer to the question
  pub gives_told : {s : Session} (told asked : Question) (line before : List ℕ) {after : List ℕ} {end : ℕ} → told ≡ asked → length zeros ≡ 257 → latencies_in line ≡ l
      → (end ≡ put_end before 0 (reply_to s.unit told (take count cycle))) × (after ≡ put_in before 0 (reply_to s.unit told (take count cycle)))
      → Gives (question s asked line) (λ x. x ≡ s) before after record { session = s; end = end }
  gives_told {s} told asked line before q z h p =
      let t = front_taken l zeros n e ∙ ap (λ k. take k l) z in
      let same : reply_to s.unit told (take count cycle) ≡ question s asked line =
      ap (λ x. reply_to s.unit x (take count cycle)) q ∙ ap (reply_to s.unit asked) t ∙ reply_cut s.unit asked l ∙ ap (reply_to s.unit asked) (sym h)
      in
      record { line = line_as same record { next = p.0; out = p.1 }; next = refl }
