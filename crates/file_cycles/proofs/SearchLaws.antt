-- The best cycle of a function of a unit file: what is tried before the search, and what each way that the call ends hands out. Assumes nothing.
use Rattle.std.proofs.Common.{Ok, Err}
use Prim.Native.Nat.{ℕ, ◌+◌, ◌-◌, ◌≤◌, ◌<◌}
use mathlib.Core.Path.{◌≡◌, refl, sym, ap, ap₂, ◌∙◌, subst}
use mathlib.Core.Bool.{Bool, true, false}
use mathlib.Core.List.{List, []}
use native.Mathlib.Omega.{arith}
use borrow.Author.Tests.{le-leb, lt-leb, leb-true}
use lib.Dec.{leb}
use lib.ListN.{length, take, replicate, length-append}
use lib.Seq.{take-append_seam}
use Rattle.words.specs.Bytes.{narrow}
use Rattle.unit.specs.declared.Plan.{Plan}
use Rattle.unit.specs.declared.FunctionUnit.{FunctionUnit}
use Rattle.unit.specs.declared.Outcome.{Outcome}
use Rattle.unit.specs.declared.Refusal.{Refusal}
use Rattle.unit.specs.declared.Refusal.TheVariants.{ShortWork, ShortOutput}
use Rattle.unit.specs.Answers.{Answer}
use Rattle.unit.specs.Numbers.{number_in}
use Rattle.unit.specs.Unit.{marked}
use Rattle.unit.specs.Calls.{check, and_then, handed, tag_answer}
use Rattle.unit.proofs.Laws.{never_done}
use Rattle.unit.proofs.EndLaws.{then_first, then_second}
use Rattle.unit_file.specs.Read.{read_of}
use Rattle.unit_file.proofs.AskedLaws.{read_gives}
use Rattle.collision.specs.Pipeline.{total}
use Rattle.diagram.specs.Answers.{few_states, written}
use Rattle.cycles.specs.Greedy.{greedy_refusal, WorkAfter}
use Rattle.cycles.proofs.EndLaws.{work_same}
use Rattle.planner.specs.Plans.{Best, plan_of, search_answer, Found, SearchPromise}
use Rattle.text.specs.Text.{put_in}
use Rattle.text.proofs.PutLaws.{put_fits, placed_front}
use Rattle.file_cycles.specs.Cycles.{cycle_refusal, SearchHanded}
use Rattle.file_cycles.specs.Inner.{search_check, plan_front}

-- What is tried before the search

-- the ways that the check ends
module _ (read tagged : Answer) (work out : ℕ) where
  pub checked_read : {why : Refusal} → read ≡ Err why → read ≡ search_check read tagged work out
  unfolding search_check
  checked_read e = e ∙ sym (then_first read _ e)

  pub checked_tag : {why : Refusal} → read ≡ Ok tt → tagged ≡ Err why → tagged ≡ search_check read tagged work out
  unfolding search_check
  checked_tag r e = e ∙ sym (then_second read _ r ∙ then_first tagged _ e)

  pub checked_work : read ≡ Ok tt → tagged ≡ Ok tt → work < 16000 → Err ShortWork ≡ search_check read tagged work out
  unfolding search_check
  checked_work r t h = sym (simp (r, t, lt-leb 16000 work h))

  pub checked_out : read ≡ Ok tt → tagged ≡ Ok tt → 16000 ≤ work → out < 256 → Err ShortOutput ≡ search_check read tagged work out
  unfolding search_check
  checked_out r t h k = sym (simp (r, t, le-leb 16000 work h, lt-leb 256 out k))

  pub checked_done : read ≡ Ok tt → tagged ≡ Ok tt → 16000 ≤ work → 256 ≤ out → (Ok tt) ≡ search_check read tagged work out
  unfolding search_check
  checked_done r t h k = sym (simp (r, t, le-leb 16000 work h, le-leb 256 out k))

-- what its answer says of the call: the search's own tests are those that are left
module _ (read : Answer) (u : FunctionUnit) (q work out : ℕ) where
  check_refuses : {why : Refusal} → search_check read (tag_answer u q) work out ≡ Err why → and_then read (greedy_refusal u q work out) ≡ Err why
  unfolding search_check greedy_refusal
  check_refuses {why} e = go read (tag_answer u q) (leb 16000 work) (leb 256 out) e
    where
      go : (r a : Answer) (b d : Bool) → and_then r (and_then a (check b ShortWork (check d ShortOutput (Ok tt)))) ≡ Err why
          → and_then r (and_then a (check b ShortWork (check d ShortOutput (few_states 1 (marked u) q)))) ≡ Err why
      go (Err other) a b d h = h
      go (Ok _) (Err other) b d h = h
      go (Ok _) (Ok _) false d h = h
      go (Ok _) (Ok _) true false h = h
      go (Ok _) (Ok _) true true h = never_done (sym h)

  check_passes : search_check read (tag_answer u q) work out ≡ Ok tt → and_then read (greedy_refusal u q work out) ≡ search_answer u q work
  unfolding search_check greedy_refusal search_answer
  check_passes e = go read (tag_answer u q) (leb 16000 work) (leb 256 out) e
    where
      go : (r a : Answer) (b d : Bool) → and_then r (and_then a (check b ShortWork (check d ShortOutput (Ok tt)))) ≡ Ok tt
          → and_then r (and_then a (check b ShortWork (check d ShortOutput (few_states 1 (marked u) q)))) ≡ and_then a (check b ShortWork (few_states 1 (marked u) q))
      go (Err other) a b d h = never_done h
      go (Ok _) (Err other) b d h = never_done h
      go (Ok _) (Ok _) false d h = never_done h
      go (Ok _) (Ok _) true false h = never_done h
      go (Ok _) (Ok _) true true h = refl

  check_room : search_check read (tag_answer u q) work out ≡ Ok tt → 256 ≤ out
  unfolding search_check
  check_room e = leb-true 256 out (go read (tag_answer u q) (leb 16000 work) (leb 256 out) e)
    where
      go : (r a : Answer) (b d : Bool) → and_then r (and_then a (check b ShortWork (check d ShortOutput (Ok tt)))) ≡ Ok tt → d ≡ true
      go (Err other) a b d h = never_done h
      go (Ok _) (Err other) b d h = never_done h
      go (Ok _) (Ok _) false d h = never_done h
      go (Ok _) (Ok _) true false h = never_done h
      go (Ok _) (Ok _) true true h = refl

-- The plan that was found

pub record Planned (p : Plan) (cycle : List ℕ) : Type 0 where
  pub count : p.count ≡ length cycle
  pub sum : p.sum ≡ total cycle
  pub latencies : take p.count p.latencies ≡ cycle
  pub inside : p.count ≤ length p.latencies

planned_of : (q : ℕ) (cycle : List ℕ) → Planned (plan_of q cycle) cycle
planned_of q cycle = record {
  count = refl;
  sum = refl;
  latencies = take-append_seam cycle (replicate (256 - length cycle) 0);
  inside = omega (arith, length-append cycle (replicate (256 - length cycle) 0));
}

pub planned : (u : FunctionUnit) (q : ℕ) (after : FunctionUnit) (f : Found u q after) → Planned after.plan f.cycle
planned u q after f = subst (λ (v : FunctionUnit). Planned v.plan f.cycle) (sym f.unit) (planned_of q f.cycle)

-- a plan that was found has its latencies
pub found_inside : (u : FunctionUnit) (q : ℕ) (work workAfter : List ℕ) (o : Outcome) → SearchPromise u q work workAfter o.answer o.unit → o.answer ≡ Ok tt
    → o.unit.plan.count ≤ length o.unit.plan.latencies
found_inside u q work workAfter o p d = (planned u q o.unit (p.found d)).inside

-- How a plan is handed out

abbrev pub PlanEnds : Answer → Plan → List ℕ → List ℕ → ℕ → ℕ → ℕ → ℕ → ℕ → Type 0
PlanEnds a p out outAfter count countAfter sum sumAfter r =
    (r ≡ number_in a)
    × ((outAfter ≡ handed a (plan_front p out) out) × ((countAfter ≡ handed a p.count count) × (sumAfter ≡ handed a p.sum sum)))

module _ (answer : Answer) (p : Plan) (out : List ℕ) (count sum : ℕ) where
  plan_ends : (a : Answer) → answer ≡ a
      → PlanEnds answer p out (handed a (plan_front p out) out) count (handed a p.count count) sum (handed a p.sum sum) (number_in a)
  plan_ends a e = (
    ap number_in (sym e),
    (
      ap (λ x. handed x (plan_front p out) out) (sym e),
      (ap (λ x. handed x p.count count) (sym e), ap (λ x. handed x p.sum sum) (sym e)),
    ),
  )

  pub plan_refused : {why : Refusal} {r : ℕ} → answer ≡ Err why → r ≡ number_in answer → PlanEnds answer p out out count count sum sum r
  plan_refused {why} e n = (n, (plan_ends (Err why) e).1)

  pub plan_handed : {outAfter : List ℕ} → answer ≡ Ok tt → outAfter ≡ plan_front p out → PlanEnds answer p out outAfter count p.count sum p.sum 0
  plan_handed e put = let l = plan_ends (Ok tt) e in (l.0, (put ∙ l.1.0, l.1.1))

-- The ways that the call ends

module _ (file : List ℕ) (q : ℕ) (work out : List ℕ) (count sum : ℕ) (back : Outcome) (t : ℕ) (tagged checked : Answer) (read : back ≡ read_of file)
    (tag : t ≡ narrow q) (looked : tagged ≡ tag_answer back.unit t) (tried : checked ≡ search_check back.answer tagged (length work) (length out)) where
  -- what was tried of the unit that was read
  checks : checked ≡ search_check back.answer (tag_answer back.unit t) (length work) (length out)
  checks = tried ∙ ap (λ a. search_check back.answer a (length work) (length out)) looked

  -- the unit that was read decides
  cycle_read : cycle_refusal file q (length work) (length out) ≡ and_then back.answer (greedy_refusal back.unit t (length work) (length out))
  unfolding cycle_refusal
  cycle_read =
      ap₂ and_then (read_gives file back read refl)
      (ap₂ (λ (o : Outcome) s. greedy_refusal o.unit s (length work) (length out)) (sym read) (sym tag))

  -- nothing is handed out
  nothing : (workAfter : List ℕ) (a : Answer) {why : Refusal} (r : ℕ) → cycle_refusal file q (length work) (length out) ≡ a → a ≡ Err why
      → WorkAfter a work workAfter → r ≡ number_in a → SearchHanded file q work workAfter out out count count sum sum r
  nothing workAfter a {why} r says e words n =
      let refused : cycle_refusal file q (length work) (length out) ≡ Err why = says ∙ e in
      record {
        cycle = [];
        best = λ done. never_done (sym refused ∙ done);
        says = n ∙ ap number_in (sym says);
        bytes = ap (λ x. written x [] out) (sym refused);
        counted = ap (λ x. handed x 0 count) (sym refused);
        summed = ap (λ x. handed x 0 sum) (sym refused);
        words = subst (λ x. WorkAfter x work workAfter) (sym says) words;
      }

  -- the check refuses
  pub search_checked : {why : Refusal} (r : ℕ) → checked ≡ Err why → r ≡ number_in checked → SearchHanded file q work work out out count count sum sum r
  search_checked r e n =
      nothing work checked r
      (cycle_read ∙ check_refuses back.answer back.unit t (length work) (length out) (sym checks ∙ e) ∙ sym e) e (work_same checked work) n

  module _ (workAfter : List ℕ) (o : Outcome) (d : checked ≡ Ok tt) (p : SearchPromise back.unit t work workAfter o.answer o.unit) where
    -- where the check passes, the search's answer
    search_says : cycle_refusal file q (length work) (length out) ≡ o.answer
    search_says = cycle_read ∙ check_passes back.answer back.unit t (length work) (length out) (sym checks ∙ d) ∙ sym p.says

    -- the cycle of the plan is put to the front of the bytes
    search_found : o.answer ≡ Ok tt → SearchHanded file q work workAfter out (plan_front o.unit.plan out) count o.unit.plan.count sum o.unit.plan.sum 0
    search_found e =
        let f = p.found e in
        let l = planned back.unit t o.unit f in
        let done : cycle_refusal file q (length work) (length out) ≡ Ok tt = search_says ∙ e in
        let room = check_room back.answer back.unit t (length work) (length out) (sym checks ∙ d) in
        let fits : 0 + length f.cycle ≤ length out = omega (arith, f.few) in
        record {
          cycle = f.cycle;
          best = λ x. subst (λ (b : Outcome). Best 1 (marked b.unit) (narrow q) f.cycle) read
              (subst (λ (s : ℕ). Best 1 (marked back.unit) s f.cycle) tag f.best);
          says = ap number_in (sym done);
          bytes = ap (put_in out 0) l.latencies ∙ put_fits out 0 f.cycle fits ∙ placed_front out f.cycle ∙ ap (λ x. written x f.cycle out) (sym done);
          counted = l.count ∙ ap (λ x. handed x (length f.cycle) count) (sym done);
          summed = l.sum ∙ ap (λ x. handed x (total f.cycle) sum) (sym done);
          words = subst (λ x. WorkAfter x work workAfter) (sym search_says) p.work;
        }

    pub search_ends : (outAfter : List ℕ) (countAfter sumAfter r : ℕ) → PlanEnds o.answer o.unit.plan out outAfter count countAfter sum sumAfter r
        → SearchHanded file q work workAfter out outAfter count countAfter sum sumAfter r
    search_ends outAfter countAfter sumAfter r h =
        let bytes = handed o.answer (plan_front o.unit.plan out) out in
        let counted = handed o.answer o.unit.plan.count count in
        subst (λ (x : ℕ). SearchHanded file q work workAfter out outAfter count countAfter sum sumAfter x) (sym h.0)
        (subst (λ (l : List ℕ). SearchHanded file q work workAfter out l count countAfter sum sumAfter (number_in o.answer)) (sym h.1.0)
        (subst (λ (x : ℕ). SearchHanded file q work workAfter out bytes count x sum sumAfter (number_in o.answer)) (sym h.1.1.0)
        (subst (λ (x : ℕ). SearchHanded file q work workAfter out bytes count counted sum x (number_in o.answer)) (sym h.1.1.1) (go o.answer refl))))
      where
        go : (a : Answer) → o.answer ≡ a
            → SearchHanded file q work workAfter out (handed a (plan_front o.unit.plan out) out) count (handed a o.unit.plan.count count)
            sum (handed a o.unit.plan.sum sum) (number_in a)
        go (Ok _) e = search_found e
        go (Err why) e = nothing workAfter (Err why) _ (search_says ∙ e) refl (subst (λ x. WorkAfter x work workAfter) e p.work) refl
