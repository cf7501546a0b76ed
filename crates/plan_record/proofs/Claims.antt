-- What the record promises as a whole. Assumes nothing.
use Rattle.std.proofs.Common.{Result, Ok, Err}
use Prim.Native.Nat.{ℕ, zero, suc, ◌-◌, ◌≤◌, ◌<◌}
use mathlib.Core.Path.{◌≡◌, refl, sym, ap, ap₂, ◌∙◌, subst}
use mathlib.Core.Bool.{Bool, true, false, cond, not}
use mathlib.Core.Logic.{◌⊎◌, inl, inr, ⊎_elim}
use mathlib.Core.List.{List, ◌∷◌, ◌++◌}
use native.Mathlib.Omega.{arith}
use native.Mathlib.Nat.{le_of_suc-le-suc, eq-or-lt_of_le}
use native.Mathlib.Decide.{dec_le}
use borrow.Author.Tests.{eqb-true, eqb-false, eq-eqb, le-leb}
use lib.Dec.{leb, eqb}
use lib.ListN.{length, get_or, take, drop, replicate}
use lib.Seq.{take_all, take-length, take-append_seam, length-take-le, drop-cons, drop-length}
use Rattle.words.proofs.Tests.{nowhere, and_true, not_passed}
use Rattle.text.proofs.SameLaws.{same_of}
use Rattle.unit.specs.declared.Plan.{Plan}
use Rattle.unit.specs.declared.Refusal.TheVariants.{BadRecord, ShortOutput}
use Rattle.unit.specs.Numbers.{number_of}
use Rattle.unit.proofs.NumberLaws.{numbered, number_one}
use Rattle.collision.specs.Pipeline.{total}
use Rattle.collision.proofs.StartLaws.{total_suc}
use Rattle.plan_record.specs.Record.{Recordable, recordable, starts, ring_of, ring_bit, record_of}
use Rattle.plan_record.specs.Read.{list_in, is_record, report_answer, report_list, load_answer, load_ring, intervals_below, list_from_ring}
use Rattle.plan_record.specs.Write.{Holds, cycle_in, holds_cycle, writable, write_refusal, write_answer, write_out}
use Rattle.plan_record.specs.Claims.{RingMeans, NoLonger, GivenBytes, Accepted, Shows, Refused15, AcceptedExactly, EitherView, ReadWritten, SameShown, FrontTells, GivenPlan, HoldsExactly, WriterAt, PlanExactly, TagUntested, ReadBack, WrittenRead}
use Rattle.plan_record.proofs.CycleLaws.{recordable_of, total_most, sum_all, sum_rises}
use Rattle.plan_record.proofs.RingLaws.{StartOf, start_has, start_of, ring_bit_lem, ring_means}
use Rattle.plan_record.proofs.RecordLaws.{record_length, record_count, record_sum, record_list, record_ring, record_is, is_record_lem}
use Rattle.plan_record.proofs.ReadLaws.{number_shown, number_not, report_refused, load_refused, list_refused, ring_refused, report_shown, load_shown, list_is, ring_is}
use Rattle.plan_record.proofs.PlanLaws.{held, writable_held, writable_tag, writable_holds}
use Rattle.unit.specs.declared.Refusal.{Refusal}

-- The bytes

pub means : RingMeans
means = ring_means

pub no_longer : NoLonger
no_longer l r = omega (arith, record_length l, r.few, total_most l r)

-- Which bytes are accepted, and what is shown

-- the test as a claim
module _ (bytes : List ℕ) where
  pub given : is_record bytes ≡ true → GivenBytes bytes
  given e = let i = is_record_lem bytes e in record { cycle = list_in bytes; recordable = i.0; gives = i.1 }

  pub tested : GivenBytes bytes → is_record bytes ≡ true
  tested g = ap is_record g.gives ∙ record_is g.cycle g.recordable

  pub other : (GivenBytes bytes → ⊥) → is_record bytes ≡ false
  other f = not_passed (is_record bytes) (λ e. f (given e))

  refused : is_record bytes ≡ false → Refused15 bytes
  refused e = record {
    report = sym (report_refused bytes e);
    list = sym (list_refused bytes e);
    load = sym (load_refused bytes e);
    ring = sym (ring_refused bytes e);
  }

  -- what is shown is refused where the bytes are no record
  accepted_by : (shown : Result ℕ Refusal) → (is_record bytes ≡ false → shown ≡ Err BadRecord) → Accepted shown → is_record bytes ≡ true
  accepted_by shown f a = go (is_record bytes) refl
    where
      go : (b : Bool) → is_record bytes ≡ b → is_record bytes ≡ true
      go true e = e
      go false e = number_not (sym a.shows ∙ f e)

  by_report : Accepted (report_answer bytes) → is_record bytes ≡ true
  by_report = accepted_by (report_answer bytes) (λ e. sym (report_refused bytes e))

  by_load : Accepted (load_answer bytes) → is_record bytes ≡ true
  by_load = accepted_by (load_answer bytes) (λ e. sym (load_refused bytes e))

shows_record : (l : List ℕ) → Recordable l → Shows (record_of l) l
shows_record l r =
    let i = record_is l r in
    record {
      count = sym (report_shown (record_of l) (length l) i (sym (record_count l r)));
      list = list_is (record_of l) i ∙ record_list l r;
      sum = sym (load_shown (record_of l) (total l) i (sym (record_sum l r)));
      ring = ring_is (record_of l) i ∙ record_ring l r;
    }

shown_given : (bytes : List ℕ) (g : GivenBytes bytes) → Shows bytes g.cycle
shown_given bytes g = subst (λ (x : List ℕ). Shows x g.cycle) (sym g.gives) (shows_record g.cycle g.recordable)

pub accepted_exactly : AcceptedExactly
accepted_exactly bytes = record {
  report = (λ a. given bytes (by_report bytes a), λ g. record { number = length g.cycle; shows = (shown_given bytes g).count });
  load = (λ a. given bytes (by_load bytes a), λ g. record { number = total g.cycle; shows = (shown_given bytes g).sum });
  shown = shown_given bytes;
  refused = λ f. refused bytes (other bytes f);
}

pub read_written : ReadWritten
read_written bytes a = let r = by_report bytes a in ap record_of (list_is bytes r) ∙ sym (is_record_lem bytes r).1

-- more bytes than a record has are none, however many of them are looked at
pub front_tells : FrontTells
front_tells bytes n h = go (dec_le (length bytes) n)
  where
    long : (x : List ℕ) → 1289 ≤ length x → is_record x ≡ false
    long x m = other x (λ g. omega (arith, ap length g.gives, no_longer g.cycle g.recordable))

    same_refused : (x y : List ℕ) → Refused15 x → Refused15 y → SameShown x y
    same_refused x y a b = record {
      report = a.report ∙ sym b.report;
      list = a.list ∙ sym b.list;
      load = a.load ∙ sym b.load;
      ring = a.ring ∙ sym b.ring;
    }

    go : Dec (length bytes ≤ n) → SameShown (take n bytes) bytes
    go (yes m) = subst (λ (x : List ℕ). SameShown x bytes) (sym (take_all n bytes m)) (record { report = refl; list = refl; load = refl; ring = refl })
    go (no m) =
        let l : length (take n bytes) ≡ n = length-take-le n bytes (omega arith) in
        same_refused (take n bytes) bytes (refused (take n bytes) (long (take n bytes) (omega arith))) (refused bytes (long bytes (omega arith)))

-- The list from the ring

module _ (l : List ℕ) (r : Recordable l) where
  sum_below : (k : ℕ) → k ≤ length l → total (take k l) ≤ total l
  sum_below k h =
      ⊎_elim (λ e. omega (arith, sum_all l, ap (λ n. total (take n l)) e)) (λ o. omega (arith, sum_all l, sum_rises l r k (length l) o (omega arith)))
      (eq-or-lt_of_le h)

  -- all starts of the latencies before k are below i
  abbrev Passed : ℕ → ℕ → Type 0
  Passed i k = (j : ℕ) → j < k → total (take j l) < i

  module _ (start : ℕ → Bool) (same : (i : ℕ) → i < total l → start i ≡ starts l i) where
    -- from i on the latencies from k on are found
    abbrev FoundFrom : ℕ → Type 0
    FoundFrom i = (k : ℕ) → i ≤ total (take k l) → k ≤ length l → Passed i k → intervals_below i start (total (take k l)) (drop k l) ≡ l

    -- one place further down: a start there is the last of those below, and its latency goes in front
    down : (i : ℕ) → FoundFrom i → (k : ℕ) → suc i ≤ total (take k l) → k ≤ length l → Passed (suc i) k → (b : Bool) → start i ≡ b
        → intervals_below i start (cond b i (total (take k l))) (cond b ((total (take k l) - i) ∷ drop k l) (drop k l)) ≡ l
    down i found k low inside passed false e =
        found k (omega arith) inside
        (λ j h.
        ⊎_elim
        (λ z. nowhere (sym e ∙ same i (omega (arith, sum_below k inside)) ∙ ap (starts l) (sym z) ∙ start_of l j r (omega arith)))
        (λ o. o)
        (eq-or-lt_of_le (le_of_suc-le-suc (passed j h))))
    down i found k low inside passed true e =
        let s : StartOf l i = start_has l i r (sym (same i (omega (arith, sum_below k inside))) ∙ e) in
        let m = s.index in
        let before : m < k = ordered m k (λ h. rises_le k m h (omega (arith, s.inside)) (omega (arith, s.sum))) in
        let after : k ≤ suc m = ordered_le k (suc m) (λ h. omega (arith, passed (suc m) h, sum_rises l r m (suc m) (omega arith) s.inside, s.sum)) in
        let next : k ≡ suc m = omega arith in
        let value : total (take k l) - i ≡ get_or l m 0 = omega (arith, ap (λ n. total (take n l)) next, total_suc l m s.inside, s.sum) in
        ap₂ (λ (n : ℕ) (x : List ℕ). intervals_below i start n x) (sym s.sum)
        (ap₂ (λ (n : ℕ) (x : List ℕ). n ∷ x) value (ap (λ n. drop n l) next) ∙ sym (drop-cons l m 0 s.inside))
        ∙ found m (omega (arith, s.sum)) (omega (arith, s.inside)) (λ j h. omega (arith, sum_rises l r j m h (omega (arith, s.inside)), s.sum))
      where
        ordered : (x y : ℕ) → (y ≤ x → ⊥) → x < y
        ordered x y f = omega arith

        ordered_le : (x y : ℕ) → (y < x → ⊥) → x ≤ y
        ordered_le x y f = omega arith

        rises_le : (x y : ℕ) → x ≤ y → y ≤ length l → total (take y l) < total (take x l) → ⊥
        rises_le x y h m o =
            ⊎_elim (λ z. omega (arith, ap (λ n. total (take n l)) z)) (λ q. omega (arith, sum_rises l r x y q m)) (eq-or-lt_of_le h)

    found_from : (i : ℕ) → FoundFrom i
    unfolding intervals_below
    found_from zero zero low inside passed = refl
    found_from zero (suc k) low inside passed = absurd (omega (arith, passed 0 (omega arith)))
    found_from (suc i) k low inside passed = down i (found_from i) k low inside passed (start i) refl

  pub list_from_ring_lem : list_from_ring (total l) (ring_of l) ≡ l
  unfolding list_from_ring
  list_from_ring_lem =
      let n = sum_all l in
      ap₂ (λ (s : ℕ) (x : List ℕ). intervals_below (total l) start s x) (sym n) (sym (drop-length l))
      ∙ found_from start bits (total l) (length l) (omega arith) (omega arith)
      (λ j h. omega (arith, sum_rises l r j (length l) h (omega arith)))
    where
      start : ℕ → Bool
      start i = not (ring_bit (ring_of l) i)

      twice : (b : Bool) → not (not b) ≡ b
      twice true = refl
      twice false = refl

      bits : (i : ℕ) → i < total l → start i ≡ starts l i
      bits i h = ap not (ring_bit_lem l i (omega arith)) ∙ twice (starts l i)

pub either_view : EitherView
either_view bytes K S ek es =
    let b = by_report bytes (record { number = K; shows = ek }) in
    let g = given bytes b in
    let l = g.cycle in
    let s = shown_given bytes g in
    let count : K ≡ length l = number_shown (sym ek ∙ s.count) in
    let sum : S ≡ total l = number_shown (sym es ∙ s.sum) in
    let from : list_from_ring S (load_ring bytes) ≡ l = ap₂ list_from_ring sum s.ring ∙ list_from_ring_lem l g.recordable in
    let front : take K (report_list bytes) ≡ l = ap₂ take count s.list ∙ take-length l in
    record {
      list_worked = s.list ∙ sym from;
      count_worked = count ∙ ap length (sym from);
      ring_worked = s.ring ∙ ap ring_of (sym front);
      sum_worked = sum ∙ ap total (sym front);
    }

-- Which plans

holds_given : (p : Plan) → holds_cycle p ≡ true → GivenPlan p
holds_given p e = let h = held p e in record { cycle = cycle_in p; recordable = h.cycle; holds = h.holds }

pub given_holds : (p : Plan) → GivenPlan p → holds_cycle p ≡ true
unfolding holds_cycle
given_holds p g =
    let l = g.cycle in
    let h = g.holds in
    let front : cycle_in p ≡ l = ap₂ take h.count h.latencies ∙ take-append_seam l (replicate (256 - length l) 0) in
    and_true (ap recordable front ∙ recordable_of l g.recordable)
    (and_true (eq-eqb p.count (length (cycle_in p)) (h.count ∙ ap length (sym front)))
    (and_true (eq-eqb p.sum (total (cycle_in p)) (h.sum ∙ ap total (sym front)))
    (same_of _ _ (h.latencies ∙ ap₂ (λ (x : List ℕ) (n : ℕ). x ++ replicate (256 - n) 0) (sym front) (sym h.count)))))

pub holds_exactly : HoldsExactly
holds_exactly p = (holds_given p, given_holds p)

-- the answer, where the plan is not writable, has no room, or has
module _ (p : Plan) (room : ℕ) where
  answer_bad : writable p ≡ false → write_answer p room ≡ Err BadRecord
  unfolding write_answer write_refusal
  answer_bad e = simp e

  answer_room : writable p ≡ true → (b : Bool) → leb (length (record_of (cycle_in p))) room ≡ b
      → write_answer p room ≡ cond b (Ok (length (record_of (cycle_in p)))) (Err ShortOutput)
  unfolding write_answer write_refusal
  answer_room e true l = rw (e, l)
  answer_room e false l = rw (e, l)

-- the number that an answer tells: 0 where the record was written
abbrev told : Result ℕ Refusal → ℕ
told (Ok n) = 0
told (Err why) = number_of why

pub plan_exactly : PlanExactly
plan_exactly p room = go (writable p) refl (leb (length (record_of (cycle_in p))) room) refl
  where
    takes : writable p ≡ true → ((p.tag ≡ 0) ⊎ (GivenPlan p → ⊥)) → ⊥
    takes e (inl z) = writable_tag p e z
    takes e (inr f) = f (holds_given p (writable_holds p e))

    turns_away : writable p ≡ false → (p.tag ≡ 0) ⊎ (GivenPlan p → ⊥)
    turns_away e = by_tag (eqb p.tag 0) refl
      where
        by_tag : (b : Bool) → eqb p.tag 0 ≡ b → (p.tag ≡ 0) ⊎ (GivenPlan p → ⊥)
        by_tag true z = inl (eqb-true p.tag 0 z)
        by_tag false n = inr (λ g. nowhere (sym e ∙ writable_held p (eqb-false p.tag 0 n) ∙ given_holds p g))

    go : (b : Bool) → writable p ≡ b → (l : Bool) → leb (length (record_of (cycle_in p))) room ≡ l → WriterAt p room
    go false e l h =
        let is = answer_bad p room e in
        record {
          numbers = λ why a. inl (number_one why BadRecord (ap told (sym a ∙ is)));
          fifteen = (λ a. turns_away e, λ n. is);
          suffices = λ r a. let z : ◌≡◌ {A = ℕ} 6 15 = ap told (sym a ∙ is) in omega arith;
        }
    go true e true h =
        let is = answer_room p room e true h in
        record {
          numbers = λ why a. let z : ◌≡◌ {A = ℕ} (number_of why) 0 = ap told (sym a ∙ is) in absurd (omega (arith, (numbered why).from));
          fifteen = (λ a. let z : ◌≡◌ {A = ℕ} 15 0 = ap told (sym a ∙ is) in absurd (omega arith), λ n. absurd (takes e n));
          suffices = λ r a. let z : ◌≡◌ {A = ℕ} 6 0 = ap told (sym a ∙ is) in omega arith;
        }
    go true e false h =
        let is = answer_room p room e false h in
        let small = no_longer (cycle_in p) (held p (writable_holds p e)).cycle in
        record {
          numbers = λ why a. inr (number_one why ShortOutput (ap told (sym a ∙ is)));
          fifteen = (λ a. let z : ◌≡◌ {A = ℕ} 15 6 = ap told (sym a ∙ is) in absurd (omega arith), λ n. absurd (takes e n));
          suffices = λ r a. nowhere (sym h ∙ le-leb (length (record_of (cycle_in p))) room (omega arith));
        }

-- a plan with another tag
abbrev retagged : Plan → ℕ → Plan
retagged p t = record { tag = t; count = p.count; sum = p.sum; latencies = p.latencies }

module _ (p : Plan) (t : ℕ) (one : p.tag ≡ 0 → ⊥) (other : t ≡ 0 → ⊥) where
  both_writable : writable p ≡ writable (retagged p t)
  unfolding holds_cycle
  both_writable = writable_held p one ∙ sym (writable_held (retagged p t) other)

  both_answer : (room : ℕ) → write_answer p room ≡ write_answer (retagged p t) room
  unfolding write_answer write_refusal
  both_answer room = rw both_writable

  both_leave : (bytes : List ℕ) → write_out p bytes ≡ write_out (retagged p t) bytes
  unfolding write_out write_refusal
  both_leave bytes = rw both_writable

pub tag_untested : TagUntested
tag_untested p q t bytes =
    let same : retagged p q.tag ≡ q = λ i. record { tag = q.tag; count = t.count i; sum = t.sum i; latencies = t.latencies i } in (
      both_answer p q.tag t.one t.other (length bytes) ∙ ap (λ (x : Plan). write_answer x (length bytes)) same,
      both_leave p q.tag t.one t.other bytes ∙ ap (λ (x : Plan). write_out x bytes) same,
    )

-- Written and read

record_out : (p : Plan) (bytes : List ℕ) → writable p ≡ true → leb (length (record_of (cycle_in p))) (length bytes) ≡ true
    → write_out p bytes ≡ record_of (cycle_in p) ++ drop (length (record_of (cycle_in p))) bytes
unfolding write_out write_refusal
record_out p bytes w l = rw (w, l)

-- a length that was told
abbrev length_told : Result ℕ Refusal → ℕ
length_told (Ok n) = n
length_told (Err why) = 0

pub written_read : WrittenRead
written_read p bytes n e = go (writable p) refl (leb (length (record_of (cycle_in p))) (length bytes)) refl
  where
    go : (b : Bool) → writable p ≡ b → (l : Bool) → leb (length (record_of (cycle_in p))) (length bytes) ≡ l → ReadBack p (take n (write_out p bytes))
    go false w l h = let z : ◌≡◌ {A = ℕ} 0 15 = ap told (sym e ∙ answer_bad p (length bytes) w) in absurd (omega arith)
    go true w false h = let z : ◌≡◌ {A = ℕ} 0 6 = ap told (sym e ∙ answer_room p (length bytes) w false h) in absurd (omega arith)
    go true w true h =
        let c = held p (writable_holds p w) in
        let long : n ≡ length (record_of (cycle_in p)) = ap length_told (sym e ∙ answer_room p (length bytes) w true h) in
        let front : take n (write_out p bytes) ≡ record_of (cycle_in p) =
        ap₂ take long (record_out p bytes w h) ∙ take-append_seam (record_of (cycle_in p)) (drop (length (record_of (cycle_in p))) bytes) in
        let shows = shows_record (cycle_in p) c.cycle in
        subst (λ (x : List ℕ). ReadBack p x) (sym front)
        (record { shows = shows; holds = subst (λ (x : List ℕ). Holds p x) (sym shows.list) c.holds })
