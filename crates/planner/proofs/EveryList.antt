-- Every list of calls from a fresh unit agrees with the sheet. Assumes nothing.
use Rattle.std.proofs.Common.{Ok, Err}
use Prim.Native.Nat.{ℕ, ◌-◌, ◌≤◌}
use mathlib.Core.Path.{◌≡◌, refl, ap, ◌∙◌, sym, subst, subst₂}
use mathlib.Core.Bool.{Bool, true, false, cond}
use mathlib.Core.List.{List, [], ◌∷◌, ◌++◌}
use native.Mathlib.Omega.{arith}
use lib.Dec.{eqb, leb}
use lib.ListN.{length, get_or, take, replicate, length-append, length-replicate}
use lib.Seq.{take-append_seam, drop_at}
use borrow.Author.Tests.{eq-eqb, ne_eqb}
use Rattle.words.proofs.Tests.{cond_same}
use Rattle.unit.specs.declared.Plan.{Plan}
use Rattle.unit.specs.declared.FunctionUnit.{FunctionUnit}
use Rattle.unit.specs.declared.Outcome.{Outcome}
use Rattle.unit.specs.declared.Refusal.{Refusal}
use Rattle.unit.specs.declared.Refusal.TheVariants.{NoSuchTag, ShortWork, TooManyStates, NoPlan}
use Rattle.unit.specs.Answers.{Answer}
use Rattle.unit.specs.Numbers.{number_of, number_in}
use Rattle.unit.specs.Table.{Table, changed}
use Rattle.unit.specs.Unit.{inside, marked, sound_plan, sound_of, good_counts}
use Rattle.unit.specs.Calls.{check, and_then, tag_answer, spot_answer, no_plan, fresh_of, mark_of, unmark_of}
use Rattle.unit.proofs.NumberLaws.{number_some}
use Rattle.unit.proofs.Laws.{inside_of, sound_has, sound_of_lem}
use Rattle.unit.proofs.SoundLaws.{Words, inside_means, inside_test}
use Rattle.unit.proofs.EditLaws.{Edited, mark_accepted, unmark_accepted, mark_refused, unmark_refused, mark_answer, unmark_answer, blank_words, blank_table, fresh_sound}
use Rattle.collision.specs.Pipeline.{total}
use Rattle.planner.specs.Plans.{Best, plan_of, with_plan, search_answer, Found, read_answer, read_of}
use Rattle.planner.specs.Sheet.{Call, Reply, reply_to, read_reply, Step, Run, Sheet, start, edited, owing, spot_number, search_number, next, fed, told, Agrees, Right, EveryList, Leaves, Noted, EveryUnit}
use Rattle.planner.specs.Sheet.Call.{Mark, Unmark, Search, Read}
use Rattle.planner.specs.Sheet.Reply.{accepted}

-- Answers and their numbers

reply_told : (a : Answer) → reply_to a ≡ told (number_in a)
reply_told (Ok _) = refl
reply_told (Err why) = simp (number_some why)

number_check : (ok : Bool) (why : Refusal) (rest : Answer) → number_in (check ok why rest) ≡ cond ok (number_in rest) (number_of why)
number_check true why rest = refl
number_check false why rest = refl

-- What holds between a unit and the sheet

record Kept (u : FunctionUnit) (t : Sheet) : Type 0 where
  pub noted : Noted u t
  pub words : Words u

abbrev KeptStep : FunctionUnit → Sheet → Call → Reply → Type 0
KeptStep u t k a = Agrees t k a × Kept u (next t k)

-- Edits

spot_number_lem : (u : FunctionUnit) (t : Sheet) (q s c : ℕ) → Kept u t → number_in (spot_answer u q s c) ≡ spot_number t q s c
unfolding spot_answer spot_number
spot_number_lem u t q s c k = simp (k.noted.sound, k.noted.functions, k.noted.segments, k.noted.columns, number_check)

edit_kept : (u after : FunctionUnit) (t : Sheet) (q s c : ℕ) (b : Bool) → Kept u t → Edited u after q s c b → Kept after (edited t (changed t.table q s c b))
unfolding no_plan
edit_kept u after t q s c b k e = record {
  noted = record {
    sound = e.sound;
    functions = e.functions ∙ k.noted.functions;
    segments = e.segments ∙ k.noted.segments;
    columns = e.columns ∙ k.noted.columns;
    table = e.table ∙ ap (λ m. changed m q s c b) k.noted.table;
    tag = ap (λ (p : Plan). p.tag) e.plan;
    member = λ ne. absurd (ne refl);
    plan = λ ne. absurd (ne refl);
  };
  words = e.words;
}

-- an edit, given what it leaves at each answer
edit_step : (u after : FunctionUnit) (t : Sheet) (q s c : ℕ) (b : Bool) → Kept u t
    → (spot_answer u q s c ≡ Ok tt → Edited u after q s c b) → ((why : Refusal) → spot_answer u q s c ≡ Err why → after ≡ u)
    → Kept after (cond (eqb (spot_number t q s c) 0) (edited t (changed t.table q s c b)) t)
edit_step u after t q s c b k d r = go (spot_answer u q s c) refl
  where
    go : (a : Answer) → spot_answer u q s c ≡ a → Kept after (cond (eqb (spot_number t q s c) 0) (edited t (changed t.table q s c b)) t)
    go (Ok _) e =
        let z : spot_number t q s c ≡ 0 = sym (spot_number_lem u t q s c k) ∙ ap number_in e in
        rw z (edit_kept u after t q s c b k (d e))
    go (Err why) e =
        let z : spot_number t q s c ≡ number_of why = sym (spot_number_lem u t q s c k) ∙ ap number_in e in
        rw (z, number_some why) (subst (λ (x : FunctionUnit). Kept x t) (sym (r why e)) k)

edit_told : (u : FunctionUnit) (t : Sheet) (q s c : ℕ) (a : Reply) (x : Answer) → Kept u t → a ≡ reply_to x → x ≡ spot_answer u q s c → a ≡ told (spot_number t q s c)
edit_told u t q s c a x k e f = e ∙ ap reply_to f ∙ reply_told (spot_answer u q s c) ∙ ap told (spot_number_lem u t q s c k)

mark_step : (u : FunctionUnit) (t : Sheet) (q s c : ℕ) (a : Reply) (after : FunctionUnit) → Kept u t → Step u (Mark q s c) a after → KeptStep after t (Mark q s c) a
mark_step u t q s c a after k (r, er, ea, eu) = (
  edit_told u t q s c a r.answer k ea (ap (λ (o : Outcome). o.answer) er ∙ mark_answer u q s c),
  subst (λ (x : FunctionUnit). Kept x (next t (Mark q s c))) (sym (eu ∙ ap (λ (o : Outcome). o.unit) er))
      (edit_step u (mark_of u q s c).unit t q s c true k (mark_accepted u q s c k.words) (mark_refused u q s c)),
)

unmark_step : (u : FunctionUnit) (t : Sheet) (q s c : ℕ) (a : Reply) (after : FunctionUnit) → Kept u t → Step u (Unmark q s c) a after → KeptStep after t (Unmark q s c) a
unmark_step u t q s c a after k (r, er, ea, eu) = (
  edit_told u t q s c a r.answer k ea (ap (λ (o : Outcome). o.answer) er ∙ unmark_answer u q s c),
  subst (λ (x : FunctionUnit). Kept x (next t (Unmark q s c))) (sym (eu ∙ ap (λ (o : Outcome). o.unit) er))
      (edit_step u (unmark_of u q s c).unit t q s c false k (unmark_accepted u q s c k.words) (unmark_refused u q s c)),
)

-- A search

search_number_lem : (u : FunctionUnit) (t : Sheet) (q room : ℕ) → Kept u t → number_in (search_answer u q room) ≡ search_number t q room
unfolding search_answer search_number tag_answer
search_number_lem u t q room k = simp (k.noted.sound, k.noted.functions, k.noted.table) (go (inside q t.functions))
  where
    go : (b : Bool) → number_in (and_then (check b NoSuchTag (Ok tt)) (check (leb 16000 room) ShortWork (check (leb (length (Rattle.diagram.specs.Answers.states_of 1 t.table q)) 256) TooManyStates (Ok tt))))
        ≡ cond b (cond (leb 16000 room) (cond (leb (length (Rattle.diagram.specs.Answers.states_of 1 t.table q)) 256) 0 7) 5) 2
    go true = simp number_check
    go false = refl

plan_sound : (q n : ℕ) → 1 ≤ n → n ≤ 256 → sound_plan q n ≡ true
plan_sound q n a b = simp (inside_of n 256 a b) (cond_same (eqb q 0) true)

-- a unit with another plan has the same marks
pub plan_marks : (u : FunctionUnit) (p : Plan) → marked (with_plan u p) ≡ marked u
unfolding marked
plan_marks u p = refl

-- what a search leaves of a sound unit is sound
pub found_sound : (u : FunctionUnit) (q : ℕ) (after : FunctionUnit) → sound_of u ≡ true → Found u q after → sound_of after ≡ true
found_sound u q after e f =
    let d = sound_has u e in
    let p = plan_of q f.cycle in
    ap sound_of f.unit
    ∙ sound_of_lem (with_plan u p) (record {
      functions = d.functions;
      segments = d.segments;
      columns = d.columns;
      plan = plan_sound q (length f.cycle) f.best.latencies.nonempty f.few;
      marks = inside_test (with_plan u p) (λ x y z m. inside_means u d.marks x y z (sym (ap (λ g. g x y z) (plan_marks u p)) ∙ m));
    })

found_kept : (u : FunctionUnit) (t : Sheet) (q : ℕ) (after : FunctionUnit) → Kept u t → inside q t.functions ≡ true → Found u q after
    → Kept after (owing t q)
found_kept u t q after k member f =
    let cycle = f.cycle in
    let p = plan_of q cycle in
    let e : take (length cycle) (cycle ++ replicate (256 - length cycle) 0) ≡ cycle = take-append_seam cycle (replicate (256 - length cycle) 0) in
    subst (λ (x : FunctionUnit). Kept x (owing t q)) (sym f.unit)
    (record {
      noted = record {
        sound = ap sound_of (sym f.unit) ∙ found_sound u q after k.noted.sound f;
        functions = k.noted.functions;
        segments = k.noted.segments;
        columns = k.noted.columns;
        table = plan_marks u p ∙ k.noted.table;
        tag = refl;
        member = λ ne. member;
        plan = λ ne. record {
          tag = refl;
          long = length-append cycle (replicate (256 - length cycle) 0) ∙ omega (arith, length-replicate {A = ℕ} (256 - length cycle) 0, f.few);
          some = f.best.latencies.nonempty;
          few = f.few;
          sum = ap total (sym e);
          rest = drop_at cycle (replicate (256 - length cycle) 0) (length cycle) refl;
          best = subst₂ (λ (m : Table) (l : List ℕ). Best 1 m q l) k.noted.table (sym e) f.best;
        };
      };
      words = record { count = k.words.count; small = k.words.small };
    })

-- a search that is not refused is for one of the functions
search_member : (t : Sheet) (q room : ℕ) → search_number t q room ≡ 0 → inside q t.functions ≡ true
unfolding search_number
search_member t q room = go (inside q t.functions)
  where
    go : (b : Bool) → ◌≡◌ {A = ℕ} (cond b (cond (leb 16000 room) (cond (leb (length (Rattle.diagram.specs.Answers.states_of 1 t.table q)) 256) 0 7) 5) 2) 0 → b ≡ true
    go true e = refl
    go false e = absurd (omega (arith, e))

search_step : (u : FunctionUnit) (t : Sheet) (q room : ℕ) (a : Reply) (after : FunctionUnit) → Kept u t → Step u (Search q room) a after → KeptStep after t (Search q room) a
search_step u t q room a after k h = (
  h.told ∙ reply_told h.answer ∙ ap told (ap number_in says ∙ search_number_lem u t q room k),
  go h.answer refl,
)
  where
    says : h.answer ≡ search_answer u q room
    says = h.promise.says ∙ ap (search_answer u q) h.lent

    go : (x : Answer) → h.answer ≡ x → Kept after (next t (Search q room))
    go (Ok _) e =
        let z : search_number t q room ≡ 0 = sym (search_number_lem u t q room k) ∙ ap number_in (sym says ∙ e) in
        rw z (found_kept u t q after k (search_member t q room z) (h.promise.found e))
    go (Err why) e =
        let z : search_number t q room ≡ number_of why = sym (search_number_lem u t q room k) ∙ ap number_in (sym says ∙ e) in
        rw (z, number_some why) (subst (λ (x : FunctionUnit). Kept x t) (sym (h.promise.kept why e)) k)

-- A read

read_none : (u : FunctionUnit) → sound_of u ≡ true → u.plan.tag ≡ 0 → read_of u ≡ Err NoPlan
unfolding read_of read_answer
read_none u h z = simp (h, eq-eqb u.plan.tag 0 z)

read_some : (u : FunctionUnit) → sound_of u ≡ true → (u.plan.tag ≡ 0 → ⊥) → read_of u ≡ Ok u.plan
unfolding read_of read_answer
read_some u h ne = simp (h, ne_eqb u.plan.tag 0 ne)

read_step : (u : FunctionUnit) (t : Sheet) (a : Reply) (after : FunctionUnit) → Kept u t → Step u Read a after → KeptStep after t Read a
read_step u t a after k (r, er, ea, eu) = (
  record {
    none = λ z. ea ∙ ap read_reply (er ∙ read_none u k.noted.sound (k.noted.tag ∙ z));
    some = λ ne. (
      u.plan,
      ea ∙ ap read_reply (er ∙ read_some u k.noted.sound (λ e. ne (sym k.noted.tag ∙ e))),
      k.noted.plan ne,
    );
  },
  subst (λ (x : FunctionUnit). Kept x t) (sym eu) k,
)

-- Every list of calls

each_step : (k : Call) (u : FunctionUnit) (t : Sheet) (a : Reply) (after : FunctionUnit) → Kept u t → Step u k a after → KeptStep after t k a
each_step (Mark q s c) u t a after = mark_step u t q s c a after
each_step (Unmark q s c) u t a after = unmark_step u t q s c a after
each_step (Search q room) u t a after = search_step u t q room a after
each_step Read u t a after = read_step u t a after

every_run : (calls : List Call) (replies : List Reply) (u : FunctionUnit) (t : Sheet) → Kept u t → Run u calls replies → Right t calls replies
every_run [] [] u t k run = tt
every_run [] (a ∷ replies) u t k run = run
every_run (c ∷ calls) [] u t k run = run
every_run (c ∷ calls) (a ∷ replies) u t k (after, step, run) =
    let s = each_step c u t a after k step in
    (s.0, every_run calls replies after (next t c) s.1 run)

fresh_kept : (f s c : ℕ) → good_counts f s c ≡ true → Kept (fresh_of f s c).unit (start f s c)
unfolding fresh_of no_plan
fresh_kept f s c g = record {
  noted = record {
    sound = fresh_sound f s c g;
    functions = refl;
    segments = refl;
    columns = refl;
    table = blank_table f s c;
    tag = refl;
    member = λ ne. absurd (ne refl);
    plan = λ ne. absurd (ne refl);
  };
  words = blank_words f s c;
}

pub every_list : EveryList
every_list f s c g calls replies run = every_run calls replies (fresh_of f s c).unit (start f s c) (fresh_kept f s c g) run

-- the same by position: the reply to a call, and the sheet that was fed the calls before it
pub right_at : (before : List Call) (k : Call) (rest : List Call) (replies : List Reply) (t : Sheet)
    → Right t (before ++ k ∷ rest) replies → Agrees (fed t before) k (get_or replies (length before) accepted)
unfolding fed
right_at [] k rest [] t r = absurd r
right_at [] k rest (a ∷ replies) t r = r.0
right_at (c ∷ before) k rest [] t r = absurd r
right_at (c ∷ before) k rest (a ∷ replies) t r = right_at before k rest replies (next t c) r.1

-- The unit that a list of calls leaves

-- such a list is a run
pub leaves_run : (calls : List Call) (replies : List Reply) (u left : FunctionUnit) → Leaves u calls replies left → Run u calls replies
leaves_run [] [] u left run = tt
leaves_run [] (a ∷ replies) u left run = run
leaves_run (c ∷ calls) [] u left run = run
leaves_run (c ∷ calls) (a ∷ replies) u left (after, step, run) = (after, step, leaves_run calls replies after left run)

every_left : (calls : List Call) (replies : List Reply) (u left : FunctionUnit) (t : Sheet) → Kept u t → Leaves u calls replies left → Kept left (fed t calls)
unfolding fed
every_left [] [] u left t k e = subst (λ (x : FunctionUnit). Kept x t) (sym e) k
every_left [] (a ∷ replies) u left t k run = absurd run
every_left (c ∷ calls) [] u left t k run = absurd run
every_left (c ∷ calls) (a ∷ replies) u left t k (after, step, run) = every_left calls replies after left (next t c) (each_step c u t a after k step).1 run

pub every_unit : EveryUnit
every_unit f s c g calls replies u run = (every_left calls replies (fresh_of f s c).unit u (start f s c) (fresh_kept f s c g) run).noted
