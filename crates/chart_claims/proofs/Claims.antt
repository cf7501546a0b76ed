-- What a chart shows. The argument: the k-th start is the k-th of the cycle, because between two starts of it there is none; a cell that has a task by
-- one start has it by no other, because no two tasks meet. Assumes nothing.
use Rattle.std.proofs.Common.{Result, Ok, Err}
use Prim.Native.Nat.{ℕ, zero, suc, ◌+◌, ◌-◌, ◌*◌, ◌%◌, ◌≤◌, ◌<◌}
use mathlib.Core.Path.{◌≡◌, refl, sym, ap, ◌∙◌, subst}
use mathlib.Core.Bool.{Bool, true, false, cond, not, ◌&&◌, ◌||◌}
use mathlib.Core.Logic.{◌⊎◌, inl, inr}
use mathlib.Core.List.{List, []}
use native.Mathlib.Decide.{dec_lt}
use native.Mathlib.Nat.{le_dest, eq-or-lt_of_le, mul-le-mul}
use native.Mathlib.Numerals.{add-one}
use native.Mathlib.Omega.{arith}
use borrow.Author.Tests.{lt-ltb, le-leb, leb-true, leb-false, ne_eqb, eqb-false, ltb-true, ltb-false, not-true}
use lib.Dec.{leb, ltb, eqb}
use lib.ListN.{length}
use Rattle.words.proofs.Tests.{nowhere, and_left, and_right, and_true, not_passed}
use Rattle.words.proofs.BelowLaws.{count_more}
use Rattle.text.proofs.DecimalLaws.{decimal_length}
use Rattle.unit.specs.declared.Plan.{Plan}
use Rattle.unit.specs.declared.FunctionUnit.{FunctionUnit}
use Rattle.unit.specs.declared.Refusal.{Refusal}
use Rattle.unit.specs.declared.Refusal.TheVariants.{NotSound, NoSuchTag, BadRecord, NotGranted, ShortOutput}
use Rattle.unit.specs.Answers.{Answer}
use Rattle.unit.specs.Numbers.{number_of, number_in}
use Rattle.unit.specs.Unit.{inside, somewhere, marked, sound_of}
use Rattle.unit.specs.Calls.{check, and_then, tag_answer}
use Rattle.unit.proofs.Laws.{never_done, check_ok, check_next, tag_accepted}
use Rattle.unit.proofs.EndLaws.{then_both}
use Rattle.unit.proofs.SoundLaws.{sound_means}
use Rattle.collision.specs.Pipeline.{Serves, Cycle, start_at, task_at}
use Rattle.collision.proofs.StartLaws.{interval_least}
use Rattle.controller.specs.declared.Bank.{Bank}
use Rattle.controller.specs.Bank.{granted}
use Rattle.plan_record.specs.Write.{cycle_in, holds_cycle}
use Rattle.plan_record.proofs.CycleLaws.{total_least}
use Rattle.plan_record.proofs.PlanLaws.{held}
use Rattle.planner.specs.Plans.{search_answer}
use Rattle.function_plan.proofs.Claims.{own_exactly, tag_taken}
use Rattle.simulator.specs.Step.{bit_of, position_after, step_answer, playing, play_of}
use Rattle.simulator.specs.Play.{place_after, unit_after}
use Rattle.simulator.specs.Claims.{FallsOn, Plays, FoundPlan}
use Rattle.simulator.proofs.Claims.{every_search_plays}
use Rattle.chart.specs.Cells.{letter, none, tasks_before, start_cell, cell_of, segment_cell}
use Rattle.chart.specs.Text.{chart_of}
use Rattle.chart.specs.Answers.{plan_answer, units_answer, charted, chart_refusal, chart_answer, simulate_refusal, simulate_answer}
use Rattle.chart_claims.specs.Claims.{PlaysShown, SearchCharted, TenAlone, LettersApart, ChartFits}
use Rattle.chart.specs.Inner.{Ready, line_length}
use Rattle.chart.proofs.CellLaws.{tasks_none, units_none, units_more}
use Rattle.chart.proofs.LineLaws.{line_is}
use Rattle.chart.proofs.ChartLaws.{plan_ready, ready_plan, ready_sound, chart_length}

-- Letters

letter_least : (k : ℕ) → 65 ≤ letter k
letter_least k = go (ltb (k % 52) 26)
  where
    go : (b : Bool) → 65 ≤ cond b (65 + k % 52) (71 + k % 52)
    go true = omega arith
    go false = omega arith

letter_some : (k : ℕ) → letter k ≡ none → ⊥
letter_some k e = omega (arith, letter_least k, e)

-- one letter has one place among the 52
letter_place : (j k : ℕ) → letter j ≡ letter k → j % 52 ≡ k % 52
letter_place j k = go (ltb (j % 52) 26) refl (ltb (k % 52) 26) refl
  where
    go : (a : Bool) → ltb (j % 52) 26 ≡ a → (b : Bool) → ltb (k % 52) 26 ≡ b
        → cond a (65 + j % 52) (71 + j % 52) ≡ cond b (65 + k % 52) (71 + k % 52) → j % 52 ≡ k % 52
    go true x true y e = omega (arith, e)
    go true x false y e = absurd (omega (arith, e, ltb-true (j % 52) 26 x, ltb-false (k % 52) 26 y))
    go false x true y e = absurd (omega (arith, e, ltb-false (j % 52) 26 x, ltb-true (k % 52) 26 y))
    go false x false y e = omega (arith, e)

-- a mark has a column from 1 on
column_least : (u : FunctionUnit) (q s c : ℕ) → marked u q s c ≡ true → 1 ≤ c
unfolding marked
column_least u q s c e =
    let w = and_left (somewhere q s c) _ e in
    leb-true 1 c (and_left (leb 1 c) (leb c 32) (and_right (inside s 16) _ (and_right (inside q 4) _ w)))

pub letters_apart : LettersApart
letters_apart u sound q cycle rising r s time j k h x y e =
    let d : (m : ℕ) × (suc j + m ≡ k) = le_dest h in
    let apart = interval_least cycle rising j (suc d.0) in
    let at : j + suc d.0 ≡ k = omega (arith, d.1) in
    let last = (((sound_means u).0 sound).marks q r x.column x.marked).2 in
    let most = ((sound_means u).0 sound).columns.1 in
    let first = column_least u q s y.column y.marked in
    let near : k < j + 32 = omega (arith, apart, ap (start_at cycle) at, x.moment, y.moment, last, most, first, d.1) in
    omega (arith, letter_place j k e, near)

abbrev why_of : Answer → Refusal
why_of (Ok _) = NotGranted
why_of (Err why) = why

step_says : (a : Answer) (u : FunctionUnit) (p : Plan) (i : ℕ) (b : Bank) → (playing a u p i b).answer ≡ a
step_says (Ok _) u p i b = refl
step_says (Err why) u p i b = refl

-- Starts

module _ (u : FunctionUnit) (p : Plan) (plays : Plays u p) where
  ready : Ready u p
  unfolding play_of step_answer
  ready =
      let place = place_after u p 0 in
      let done : step_answer u p place.position place.bank ≡ Ok tt =
      sym (step_says (step_answer u p place.position place.bank) u p place.position place.bank) ∙ (plays.each 0).accepted in
      let rest = check_next (sound_of u) NotSound _ done in
      let ring = check_ok (holds_cycle p && ltb place.position p.sum) BadRecord _ (check_next (inside p.tag u.functions) NoSuchTag _ rest) in
      record {
        tag = tag_taken u p.tag (check_ok (sound_of u) NotSound _ done) (check_ok (inside p.tag u.functions) NoSuchTag _ rest);
        holds = and_left (holds_cycle p) _ ring;
      }

  abbrev cycle : List ℕ
  cycle = cycle_in p

  rising : Cycle 1 cycle
  rising = let c = (held p ready.holds).cycle in record { nonempty = c.some; each = c.least }

  apart : (j k : ℕ) → j < k → start_at cycle j < start_at cycle k
  apart j k h =
      let d : (m : ℕ) × (suc j + m ≡ k) = le_dest h in
      let at : j + suc d.0 ≡ k = omega (arith, d.1) in
      omega (arith, interval_least cycle rising j (suc d.0), ap (start_at cycle) at)

  -- no start between two of the cycle
  between : (k n : ℕ) → start_at cycle k < n → n < start_at cycle (suc k) → (unit_after u p n).started ≡ false
  between k n l h = not_passed (unit_after u p n).started (λ e. go ((plays.starts n).0 e))
    where
      go : FallsOn cycle n → ⊥
      go f = by (dec_lt f.index (suc k))
        where
          by : Dec (f.index < suc k) → ⊥
          by (yes o) = same (eq-or-lt_of_le (omega arith))
            where
              same : (f.index ≡ k) ⊎ (f.index < k) → ⊥
              same (inl e) = omega (arith, f.start, ap (start_at cycle) e, l)
              same (inr o) = omega (arith, f.start, apart f.index k o, l)
          by (no m) = later (eq-or-lt_of_le (omega arith))
            where
              later : (suc k ≡ f.index) ⊎ (suc k < f.index) → ⊥
              later (inl e) = omega (arith, f.start, ap (start_at cycle) e, h)
              later (inr o) = omega (arith, f.start, apart (suc k) f.index o, h)

  falls : (k : ℕ) → (unit_after u p (start_at cycle k)).started ≡ true
  falls k = (plays.starts (start_at cycle k)).1 (record { index = k; start = refl })

  one_more : (n : ℕ) (b : Bool) (k : ℕ) → (unit_after u p n).started ≡ b → tasks_before u p n ≡ k → tasks_before u p (n + 1) ≡ cond b 1 0 + k
  unfolding tasks_before
  one_more n b k e t =
      let m = count_more n (λ i. (unit_after u p i).started) in
      let s : ◌≡◌ {A = ℕ} (cond (unit_after u p n).started 1 0) (cond b 1 0) = ap (λ x. cond x 1 0) e in
      omega (arith, m, s, t)

  -- d units after the k-th start, and up to the next, k + 1 tasks have started
  tasks_between : (k d : ℕ) → tasks_before u p (start_at cycle k) ≡ k → start_at cycle k + suc d ≤ start_at cycle (suc k)
      → tasks_before u p (start_at cycle k + suc d) ≡ suc k
  tasks_between k zero t h =
      let e : start_at cycle k + 1 ≡ start_at cycle k + suc zero = omega arith in
      sym (ap (tasks_before u p) e) ∙ one_more (start_at cycle k) true k (falls k) t ∙ omega arith
  tasks_between k (suc d) t h =
      let e : start_at cycle k + suc d + 1 ≡ start_at cycle k + suc (suc d) = omega arith in
      sym (ap (tasks_before u p) e)
      ∙ one_more (start_at cycle k + suc d) false (suc k) (between k (start_at cycle k + suc d) (omega arith) (omega arith)) (tasks_between k d t (omega arith))
      ∙ omega arith

  tasks_at : (k : ℕ) → tasks_before u p (start_at cycle k) ≡ k
  tasks_at zero = sym (tasks_none u p)
  tasks_at (suc k) =
      let d : (m : ℕ) × (suc (start_at cycle k) + m ≡ start_at cycle (suc k)) = le_dest (apart k (suc k) (omega arith)) in
      let e : start_at cycle k + suc d.0 ≡ start_at cycle (suc k) = omega (arith, d.1) in
      sym (ap (tasks_before u p) e) ∙ tasks_between k d.0 (tasks_at k) (omega (arith, e))

  shown_start : (k : ℕ) → start_cell u p (start_at cycle k) ≡ letter k
  unfolding start_cell
  shown_start k = ap (λ b. cond b (letter (tasks_before u p (start_at cycle k))) none) (falls k) ∙ ap letter (tasks_at k)

  shown_quiet : (n : ℕ) → (FallsOn cycle n → ⊥) → start_cell u p n ≡ none
  unfolding start_cell
  shown_quiet n f =
      ap (λ b. cond b (letter (tasks_before u p n)) none) (not_passed (unit_after u p n).started (λ e. f ((plays.starts n).0 e)))

  -- what a cell of the row of starts says
  told : (n : ℕ) → (start_cell u p n ≡ none → ⊥) → FallsOn cycle n
  unfolding start_cell
  told n f = go (unit_after u p n).started refl
    where
      go : (b : Bool) → (unit_after u p n).started ≡ b → FallsOn cycle n
      go true e = (plays.starts n).0 e
      go false e = absurd (f (ap (λ b. cond b (letter (tasks_before u p n)) none) e))

  -- Cells

  -- two tasks that are in one cell are one
  one_task : (s time j k : ℕ) → Serves (marked u) s time (task_at p.tag cycle j) → Serves (marked u) s time (task_at p.tag cycle k) → j ≡ k
  one_task s time j k x y = go (dec_lt j k)
    where
      meet : (a b : ℕ) → a < b → Serves (marked u) s time (task_at p.tag cycle a) → Serves (marked u) s time (task_at p.tag cycle b) → ⊥
      meet a b h v w =
          plays.apart (start_at cycle a) (start_at cycle b) (apart a b h) (falls a) (falls b) (record { segment = s; time = time; one = v; other = w })

      go : Dec (j < k) → j ≡ k
      go (yes h) = absurd (meet j k h x y)
      go (no m) = other (eq-or-lt_of_le (omega arith))
        where
          other : (k ≡ j) ⊎ (k < j) → j ≡ k
          other (inl e) = sym e
          other (inr h) = absurd (meet k j h y x)

  module _ (s n : ℕ) where
    abbrev hit : ℕ → Bool
    hit c = leb c n && marked u p.tag s (c + 1) && not (eqb (start_cell u p (n - c)) none)

    -- a column that is hit has a task of the cycle
    record Hit (c : ℕ) : Type 0 where
      pub task : ℕ
      pub serves : Serves (marked u) s (n + 1) (task_at p.tag cycle task)
      pub letter_is : start_cell u p (n - c) ≡ letter task

    hit_has : (c : ℕ) → hit c ≡ true → Hit c
    hit_has c e =
        let first = and_left (leb c n && marked u p.tag s (c + 1)) _ e in
        let f = told (n - c) (eqb-false (start_cell u p (n - c)) none (not-true (eqb (start_cell u p (n - c)) none) (and_right (leb c n && marked u p.tag s (c + 1)) _ e))) in
        record {
          task = f.index;
          serves = record { column = c + 1; marked = and_right (leb c n) _ first; moment = omega (arith, f.start, leb-true c n (and_left (leb c n) _ first)) };
          letter_is = sym (ap (start_cell u p) f.start) ∙ shown_start f.index;
        }

    -- the cell, where no column is hit
    cell_idle : (k : ℕ) → ((c : ℕ) → hit c ≡ false) → cell_of (marked u p.tag s) (start_cell u p) n k ≡ none
    unfolding cell_of
    cell_idle zero f = refl
    cell_idle (suc c) f = ap (λ b. cond b (start_cell u p (n - c)) (cell_of (marked u p.tag s) (start_cell u p) n c)) (f c) ∙ cell_idle c f

    -- and where one is, and every one that is shows x
    cell_hit : (x k : ℕ) → ((c : ℕ) → hit c ≡ true → start_cell u p (n - c) ≡ x) → (c : ℕ) → c < k → hit c ≡ true → cell_of (marked u p.tag s) (start_cell u p) n k ≡ x
    unfolding cell_of
    cell_hit x zero f c h e = absurd (omega arith)
    cell_hit x (suc k) f c h e = go (hit k) refl (λ l. cell_hit x k f c l e)
      where
        down : hit k ≡ false → c < k
        down z = by (eq-or-lt_of_le (omega arith))
          where
            by : (c ≡ k) ⊎ (c < k) → c < k
            by (inl same) = absurd (omega (arith, clash))
              where
                clash : ◌≡◌ {A = ℕ} 1 0
                clash = ap (λ b. cond b 1 0) (sym e ∙ ap hit same ∙ z)
            by (inr o) = o

        go : (b : Bool) → hit k ≡ b → (c < k → cell_of (marked u p.tag s) (start_cell u p) n k ≡ x)
            → cond (hit k) (start_cell u p (n - k)) (cell_of (marked u p.tag s) (start_cell u p) n k) ≡ x
        go true z r = ap (λ b. cond b (start_cell u p (n - k)) (cell_of (marked u p.tag s) (start_cell u p) n k)) z ∙ f k z
        go false z r = ap (λ b. cond b (start_cell u p (n - k)) (cell_of (marked u p.tag s) (start_cell u p) n k)) z ∙ r (down z)

    shown_idle : ((k : ℕ) → Serves (marked u) s (n + 1) (task_at p.tag cycle k) → ⊥) → segment_cell u p s n ≡ none
    shown_idle f = cell_idle u.columns (λ c. not_passed (hit c) (λ e. let h = hit_has c e in f h.task h.serves))

    shown_busy : (k : ℕ) → Serves (marked u) s (n + 1) (task_at p.tag cycle k) → segment_cell u p s n ≡ letter k
    shown_busy k x =
        let c = x.column - 1 in
        let least = column_least u p.tag s x.column x.marked in
        let most = ((ready_sound u p ready).marks p.tag s x.column x.marked).2 in
        let same : c + 1 ≡ x.column = omega arith in
        let back : n - c ≡ start_at cycle k = omega (arith, x.moment) in
        let at : start_cell u p (n - c) ≡ letter k = ap (start_cell u p) back ∙ shown_start k in
        let here : hit c ≡ true =
        and_true (and_true (le-leb c n (omega (arith, x.moment))) (ap (marked u p.tag s) same ∙ x.marked))
        (ap not (ne_eqb (start_cell u p (n - c)) none (λ z. letter_some k (sym at ∙ z)))) in
        cell_hit (letter k) u.columns
        (λ d e. let h = hit_has d e in h.letter_is ∙ ap letter (one_task s (n + 1) h.task k h.serves x))
        c (omega arith) here

  shown_played : (n : ℕ) → units_answer u p n ≡ Ok tt
  shown_played zero = units_none u p
  shown_played (suc n) =
      ap (units_answer u p) (sym (add-one n)) ∙ units_more u p n ∙ ap (λ (a : Answer). and_then a (unit_after u p n).answer) (shown_played n) ∙ (plays.each n).accepted

pub plays_shown : PlaysShown
plays_shown u p plays = record {
  plan = sym (ready_plan u p (ready u p plays));
  played = shown_played u p plays;
  start = shown_start u p plays;
  quiet = shown_quiet u p plays;
  busy = shown_busy u p plays;
  idle = shown_idle u p plays;
}

-- 10

module _ (u : FunctionUnit) (p : Plan) (r : Ready u p) where
  some : 0 < p.sum
  some = let h = held p r.holds in omega (arith, h.holds.sum, total_least (cycle_in p) h.cycle)

  after_below : (i : ℕ) → i < p.sum → position_after p i < p.sum
  after_below i h = go (eqb (i + 1) p.sum) refl
    where
      go : (b : Bool) → eqb (i + 1) p.sum ≡ b → cond b 0 (i + 1) < p.sum
      go true e = some
      go false e = let n = eqb-false (i + 1) p.sum e in omega arith

  -- the ring stays on itself
  place_below : (n : ℕ) → (place_after u p n).position < p.sum
  unfolding place_after play_of
  place_below zero = some
  place_below (suc n) = go (step_answer u p (place_after u p n).position (place_after u p n).bank) (place_below n)
    where
      go : (a : Answer) → (place_after u p n).position < p.sum → (playing a u p (place_after u p n).position (place_after u p n).bank).position < p.sum
      go (Ok _) h = after_below (place_after u p n).position h
      go (Err why) h = h

  ten_step : (i : ℕ) (b : Bank) (why : Refusal) → i < p.sum → (play_of u p i b).answer ≡ Err why → why ≡ NotGranted
  unfolding play_of step_answer
  ten_step i b why h e =
      let a = tag_accepted u p.tag r.tag in
      go (sound_of u) (inside p.tag u.functions) (holds_cycle p && ltb i p.sum) (bit_of p i || granted b p.tag) a.sound a.tag
      (and_true r.holds (lt-ltb i p.sum h)) (sym (step_says (step_answer u p i b) u p i b) ∙ e)
    where
      go : (s m l g : Bool) → s ≡ true → m ≡ true → l ≡ true
          → check s NotSound (check m NoSuchTag (check l BadRecord (check g NotGranted (Ok tt)))) ≡ Err why → why ≡ NotGranted
      go true true true true x y z e = never_done (sym e)
      go true true true false x y z e = sym (ap why_of e)
      go true true false g x y z e = nowhere z
      go true false l g x y z e = nowhere y
      go false m l g x y z e = nowhere x

  ten_units : (n : ℕ) (why : Refusal) → units_answer u p n ≡ Err why → why ≡ NotGranted
  unfolding units_answer
  ten_units zero why e = never_done (sym e)
  ten_units (suc n) why e = go (units_answer u p n) refl e (ten_units n why)
    where
      go : (a : Answer) → units_answer u p n ≡ a → and_then a (unit_after u p n).answer ≡ Err why → (units_answer u p n ≡ Err why → why ≡ NotGranted) → why ≡ NotGranted
      go (Ok _) d e f = ten_step (place_after u p n).position (place_after u p n).bank why (place_below n) e
      go (Err w) d e f = f (d ∙ e)

pub ten_alone : TenAlone
ten_alone u p n why d e = ten_units u p (plan_ready u p d) n why e

-- After a search

pub search_charted : SearchCharted
unfolding search_answer simulate_answer simulate_refusal chart_refusal
search_charted u after q before words s n room h =
    let f = s.found refl in
    let plan = after.plan in
    let found : FoundPlan plan [] [] after =
    record { unit = u; tag = q; before = before; words = words; found = after; search = s; plan = refl; stays = refl } in
    let plays = every_search_plays plan [] [] after found tt in
    let shows = plays_shown after plan plays in
    let a = tag_accepted u q (then_both (tag_answer u q) _ (sym s.says)).0 in
    let own : plan.tag ≡ q = ap (λ (x : FunctionUnit). x.plan.tag) f.unit in
    let known : tag_answer after q ≡ Ok tt = subst (λ k. tag_answer after k ≡ Ok tt) own (ready after plan plays).tag in
    simp ((own_exactly after q known).done.1 own, shows.plan, le-leb (length (chart_of after plan n)) room h, shows.played n)

-- Room

-- no step is refused by 6
abbrev NotShort : Answer → Type 0
NotShort a = a ≡ Err ShortOutput → ⊥

done_not : NotShort (Ok tt)
done_not e = never_done (sym e)

check_not : (b : Bool) (why : Refusal) (rest : Answer) → (number_of why ≡ 6 → ⊥) → NotShort rest → NotShort (check b why rest)
check_not true why rest n r = r
check_not false why rest n r = λ e. n (ap number_in e)

then_not : (a b : Answer) → NotShort a → NotShort b → NotShort (and_then a b)
then_not (Ok _) b x y = y
then_not (Err why) b x y = x

step_not : (u : FunctionUnit) (p : Plan) (i : ℕ) (b : Bank) → NotShort (play_of u p i b).answer
unfolding play_of step_answer
step_not u p i b e =
    check_not (sound_of u) NotSound _ (λ z. omega (arith, z))
    (check_not (inside p.tag u.functions) NoSuchTag _ (λ z. omega (arith, z))
    (check_not (holds_cycle p && ltb i p.sum) BadRecord _ (λ z. omega (arith, z))
    (check_not (bit_of p i || granted b p.tag) NotGranted (Ok tt) (λ z. omega (arith, z)) done_not)))
    (sym (step_says (step_answer u p i b) u p i b) ∙ e)

plan_not : (u : FunctionUnit) (p : Plan) → NotShort (plan_answer u p)
unfolding plan_answer tag_answer
plan_not u p =
    then_not (tag_answer u p.tag) _
    (check_not (sound_of u) NotSound _ (λ z. omega (arith, z)) (check_not (inside p.tag u.functions) NoSuchTag (Ok tt) (λ z. omega (arith, z)) done_not))
    (check_not (holds_cycle p) BadRecord (Ok tt) (λ z. omega (arith, z)) done_not)

units_not : (u : FunctionUnit) (p : Plan) (n : ℕ) → NotShort (units_answer u p n)
unfolding units_answer
units_not u p zero = done_not
units_not u p (suc n) = then_not (units_answer u p n) _ (units_not u p n) (step_not u p (place_after u p n).position (place_after u p n).bank)

abbrev why_not : Result ℕ Refusal → Answer
why_not (Ok n) = Ok tt
why_not (Err why) = Err why

pub chart_fits : ChartFits
unfolding chart_answer chart_refusal
chart_fits u p n room h r e = go (plan_answer u p) refl (leb (length (chart_of u p n)) room) refl (units_answer u p n) refl e
  where
    short : plan_answer u p ≡ Ok tt → length (chart_of u p n) ≤ room
    short d =
        let ready = plan_ready u p d in
        let digits = decimal_length n 4 (omega arith) (omega arith) in
        let long : line_length n ≤ 8216 = omega (arith, line_is n, digits) in
        let few = (ready_sound u p ready).segments.1 in
        let all : line_length n * u.segments ≤ 8216 * 16 = mul-le-mul long few in
        omega (arith, chart_length u p ready n (omega arith), all)

    go : (a : Answer) → plan_answer u p ≡ a → (b : Bool) → leb (length (chart_of u p n)) room ≡ b → (c : Answer) → units_answer u p n ≡ c
        → charted (and_then a (check b ShortOutput c)) (chart_of u p n) ≡ Err ShortOutput → ⊥
    go (Err why) d b t c f e = plan_not u p (d ∙ ap why_not e)
    go (Ok _) d true t (Ok _) f e = done_not (ap why_not e)
    go (Ok _) d true t (Err why) f e = units_not u p n (f ∙ ap why_not e)
    go (Ok _) d false t c f e = absurd (omega (arith, leb-false (length (chart_of u p n)) room t, short d))
