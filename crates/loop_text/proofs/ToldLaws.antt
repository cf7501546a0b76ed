-- The line of a loop, and the tags of a line: nine suffice. Assumes nothing.
use Rattle.std.proofs.Common.{Result, Ok, Err}
use mathlib.Core.Path.{◌≡◌, refl, sym, ap, ◌∙◌, subst}
use mathlib.Core.Bool.{false}
use mathlib.Core.List.{List, ◌++◌}
use Prim.Native.Nat.{ℕ, min, ◌-◌, ◌≤◌, ◌<◌}
use native.Mathlib.Decide.{dec_le}
use native.Mathlib.Omega.{arith}
use borrow.Author.Tests.{le-leb, lt-leb}
use lib.ListN.{length, take, replicate}
use lib.Seq.{take_all, take_at, length-take-le}
use Rattle.words.proofs.Tests.{nowhere}
use Rattle.text.specs.Text.{ascii, decimal, spaced}
use Rattle.unit.specs.declared.FunctionUnit.{FunctionUnit}
use Rattle.unit.specs.declared.Plan.{Plan}
use Rattle.unit.specs.declared.Refusal.{Refusal}
use Rattle.unit.specs.declared.Refusal.TheVariants.{NotSound, BadLoop}
use Rattle.unit.specs.Answers.{Answer}
use Rattle.unit.specs.Unit.{inside, sound_of}
use Rattle.unit.proofs.Laws.{never_done, check_ok, check_next}
use Rattle.collision.specs.Pipeline.{total}
use Rattle.listing.specs.Lines.{newline, cycle_line, refused_line}
use Rattle.session.specs.Sessions.{Line}
use Rattle.command.specs.Lines.{in_front}
use Rattle.command.proofs.FrontLaws.{front_taken}
use Rattle.planner.specs.Plans.{answer_of}
use Rattle.loops.specs.Answers.{loop_answer, LoopFound, LoopPromise}
use Rattle.loop_text.specs.Told.{LoopTold}
use Rattle.loop_text.specs.Inner.{held_line}

-- The line

module _ (u : FunctionUnit) (tags : List ℕ) (plan : Plan) (f : LoopFound u tags plan) where
  count_is : plan.count ≡ length f.latencies
  count_is = ap (λ (p : Plan). p.count) f.held

  pub count_few : plan.count ≤ 256
  count_few = omega (arith, count_is, f.few)

  pub held_is : held_line plan ≡ cycle_line "loop cycle" f.latencies
  held_is =
      ap held_line f.held
      ∙ ap (λ (l : List ℕ). ascii "loop cycle" ++ spaced l ++ ascii " sum " ++ decimal (total f.latencies) ++ newline)
      (take_at f.latencies (replicate (256 - length f.latencies) 0) (length f.latencies) refl)

-- What is told

module _ (u : FunctionUnit) (tags words after : List ℕ) (room : length words ≡ 16000) where
  says : {r : Result Plan Refusal} → LoopPromise u tags words after r → answer_of r ≡ loop_answer u tags 16000
  says p = p.says ∙ ap (loop_answer u tags) room

  pub told_found : {plan : Plan} (before bytes : List ℕ) (end : ℕ) → LoopPromise u tags words after (Ok plan) → Line (held_line plan) before bytes end
      → LoopTold u tags before bytes end
  told_found {plan} before bytes end p l = record {
    text = held_line plan;
    found = λ e. let f = p.found plan refl in record { latencies = f.latencies; best = f.best; spelled = held_is u tags plan f };
    refused = λ why e. never_done (sym e ∙ sym (says p));
    line = l;
  }

  pub told_refused : {why : Refusal} (before bytes : List ℕ) (end : ℕ) → LoopPromise u tags words after (Err why) → Line (refused_line why) before bytes end
      → LoopTold u tags before bytes end
  told_refused {why} before bytes end p l = record {
    text = refused_line why;
    found = λ e. never_done (says p ∙ e);
    refused = λ other e. let same : why ≡ other = only (says p ∙ e) in ap refused_line same;
    line = l;
  }
    where
      only : {a b : Refusal} → ◌≡◌ {A = Answer} (Err a) (Err b) → a ≡ b
      only e = cc

-- The tags of a line

long_out : (n : ℕ) → 8 < n → inside n 8 ≡ false
long_out n h = rw (le-leb 1 n (omega arith), lt-leb n 8 h)

-- a list of nine tags or more is refused as its first nine are
long_cut : (u : FunctionUnit) (tags : List ℕ) → 8 < length tags → loop_answer u (take 9 tags) 16000 ≡ loop_answer u tags 16000
unfolding loop_answer
long_cut u tags h =
    let n : length (take 9 tags) ≡ 9 = length-take-le 9 tags (omega arith) in
    simp (long_out (length (take 9 tags)) (omega arith), long_out (length tags) h)

long_never : {A : Type 0} (u : FunctionUnit) (tags : List ℕ) → 8 < length tags → loop_answer u tags 16000 ≡ Ok tt → A
unfolding loop_answer
long_never u tags h e =
    nowhere (sym (long_out (length tags) h) ∙ check_ok (inside (length tags) 8) BadLoop _ (check_next (sound_of u) NotSound _ e))

-- what is told of the first nine tags is told of all
told_cut : (u : FunctionUnit) (tags before after : List ℕ) (end : ℕ) → LoopTold u (take 9 tags) before after end → LoopTold u tags before after end
told_cut u tags before after end t = go (dec_le (length tags) 8)
  where
    go : Dec (length tags ≤ 8) → LoopTold u tags before after end
    go (yes h) = subst (λ (l : List ℕ). LoopTold u l before after end) (take_all 9 tags (omega arith)) t
    go (no h) = record {
      text = t.text;
      found = λ e. long_never u tags (omega arith) e;
      refused = λ why e. t.refused why (long_cut u tags (omega arith) ∙ e);
      line = t.line;
    }

pub told_line : (u : FunctionUnit) (tags before after : List ℕ) (end count : ℕ) (bytes : List ℕ) → count ≡ min (length tags) 9
    → bytes ≡ in_front tags (replicate 9 0) → LoopTold u (take count bytes) before after end → LoopTold u tags before after end
told_line u tags before after end count bytes n e t =
    told_cut u tags before after end (subst (λ (l : List ℕ). LoopTold u l before after end) (front_taken tags (replicate 9 0) n e) t)
