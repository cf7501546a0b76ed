-- The unit with delays: sound, its marks the old ones moved in order, and free of collisions at the wanted latency. Assumes nothing.
use Rattle.std.proofs.Common.{Ok, Err}
use Prim.Native.Nat.{ℕ, suc, ◌+◌, ◌-◌, ◌*◌, ◌%◌, ◌≤◌, ◌<◌}
use mathlib.Core.Path.{◌≡◌, refl, sym, ap, ◌∙◌, subst}
use mathlib.Core.Bool.{true, false, not, ◌&&◌}
use mathlib.Core.Logic.{◌⊎◌, inl, inr}
use mathlib.Core.List.{List, [], ◌∷◌}
use native.Mathlib.Decide.{dec_lt}
use native.Mathlib.Nat.{eq-or-lt_of_le, mul-one, add-mul-mod_self_right, le_dest, suc-mul, add-mul}
use native.Mathlib.Omega.{arith}
use borrow.Author.Tests.{leb-true, not-true}
use lib.Dec.{leb}
use lib.ListN.{length}
use Rattle.words.specs.Below.{some_below}
use Rattle.words.proofs.Tests.{and_left, and_right, and_true, same_test}
use Rattle.words.proofs.BelowLaws.{some_intro, some_elim}
use Rattle.unit.specs.declared.FunctionUnit.{FunctionUnit}
use Rattle.unit.specs.declared.Refusal.TheVariants.{TwoMarks, BadInterval, PlaceBeyond}
use Rattle.unit.specs.Answers.{Answer}
use Rattle.unit.specs.Table.{Table}
use Rattle.unit.specs.Unit.{inside, somewhere, good_counts, marked, sound_of, SoundUnit}
use Rattle.unit.specs.Calls.{and_then, tag_answer, unit_of, outcome}
use Rattle.unit.proofs.Laws.{within, inside_of, never_done, check_ok, check_next, tag_accepted}
use Rattle.unit.proofs.SoundLaws.{sound_means, marked_place}
use Rattle.unit.proofs.TableLaws.{unit_of_table, unit_of_sound}
use Rattle.collision.specs.Pipeline.{start_at, NeverCollides}
use Rattle.collision.specs.Vector.{marks_of}
use Rattle.collision.proofs.VectorLaws.{marked_bounded}
use Rattle.collision.proofs.StartLaws.{start_at_turns}
use Rattle.delays.specs.Delays.{Marks, place_of, last_of, places, width_of, moved_table, crowded, delays_answer, delayed_unit, delays_of}
use Rattle.delays.specs.Claims.{ByRule, From, Delayed, DelaysPermit, OneUnit, TwoIn, CrowdedExactly, Beyond, BeyondExactly}
use Rattle.delays.proofs.PlaceLaws.{places_length, place_at_lem, place_at, last_is, place_before, last_most, place_first, place_order, place_one, place_apart}
use Rattle.delays.proofs.MovedLaws.{Old, moved_has, moved_of, moved_inside}
use Rattle.delays.proofs.RuleLaws.{by_rule, one_way}

-- What an accepted call has passed

pub record Accepted (u : FunctionUnit) (q m : ℕ) : Type 0 where
  pub sound : sound_of u ≡ true
  pub tag : inside q u.functions ≡ true
  pub single : crowded (marked u q) ≡ false
  pub latency : inside m 32 ≡ true
  pub room : marks_of (marked u) q ≤ m
  pub near : width_of (marked u q) m u.columns ≤ 32

then_first : (a next : Answer) → and_then a next ≡ Ok tt → (a ≡ Ok tt) × (next ≡ Ok tt)
then_first (Ok _) next e = (refl, e)
then_first (Err why) next e = never_done e

pub accepted : (u : FunctionUnit) (q m : ℕ) → delays_answer u q m ≡ Ok tt → Accepted u q m
unfolding delays_answer
accepted u q m e =
    let t = then_first (tag_answer u q) _ e in
    let a = tag_accepted u q t.0 in
    let e1 = t.1 in
    let e2 = check_next (not (crowded (marked u q))) TwoMarks _ e1 in
    let e3 = check_next (inside m 32 && leb (marks_of (marked u) q) m) BadInterval _ e2 in
    let i = check_ok (inside m 32 && leb (marks_of (marked u) q) m) BadInterval _ e2 in
    record {
      sound = a.sound;
      tag = a.tag;
      single = not-true (crowded (marked u q)) (check_ok (not (crowded (marked u q))) TwoMarks _ e1);
      latency = and_left (inside m 32) _ i;
      room = leb-true (marks_of (marked u) q) m (and_right (inside m 32) _ i);
      near = leb-true (width_of (marked u q) m u.columns) 32 (check_ok (leb (width_of (marked u q) m u.columns) 32) PlaceBeyond _ e3);
    }

-- The marks

module _ (u : FunctionUnit) (q m : ℕ) (a : Accepted u q m) where
  abbrev T : Table
  T = marked u

  abbrev n : ℕ
  n = u.columns

  abbrev R : Marks
  R = T q

  abbrev l : List ℕ
  l = places R m n

  abbrev moved : Table
  moved = moved_table R l

  abbrev width : ℕ
  width = width_of R m n

  means : SoundUnit u
  means = (sound_means u).0 a.sound

  size : length l ≡ n
  size = places_length R m n

  width_is : width ≡ place_at_lem R m (n - 1)
  width_is =
      let e : suc (n - 1) ≡ n = omega (arith, means.columns.0) in
      ap (λ k. last_of (places R m k)) (sym e) ∙ last_is R m (n - 1)

  within_width : (i : ℕ) → i < n → place_at_lem R m i ≤ width
  within_width i h = go (eq-or-lt_of_le (last h))
    where
      last : i < n → i ≤ n - 1
      last h = omega arith

      go : (i ≡ n - 1) ⊎ (i < n - 1) → place_at_lem R m i ≤ width
      go (inl e) = omega (arith, width_is, ap (place_at_lem R m) e)
      go (inr o) = omega (arith, width_is, place_order R m i (n - 1) o)

  inside_counts : (x s z : ℕ) → moved x s z ≡ true → (somewhere x s z ≡ true) × (x ≤ 1) × (s ≤ u.segments) × (z ≤ width)
  inside_counts =
      moved_inside R m n u.segments width means.segments.1 a.near
      (λ s i h e. ((marked_place u q s (i + 1) e).segment1, (means.marks q s (i + 1) e).1)) within_width

  table_is : marked (delayed_unit u q m) ≡ moved
  table_is = unit_of_table 1 u.segments width moved (λ x s z e. (inside_counts x s z e).0)

  counts : good_counts 1 u.segments width ≡ true
  counts =
      and_true (inside_of u.segments 16 means.segments.0 means.segments.1)
      (inside_of width 32 (omega (arith, width_is, place_first R m (n - 1))) a.near)

  -- marks of one segment

  old_order : (s x y : ℕ) (j : Old R m n s x) (i : Old R m n s y) → x < y → j.index < i.index
  old_order s x y j i h = go (dec_lt j.index i.index)
    where
      go : Dec (j.index < i.index) → j.index < i.index
      go (yes o) = o
      go (no k) = absurd (other (eq-or-lt_of_le (not_below k)))
        where
          not_below : (j.index < i.index → ⊥) → i.index ≤ j.index
          not_below f = omega arith

          other : (i.index ≡ j.index) ⊎ (i.index < j.index) → ⊥
          other (inl e) = omega (arith, j.place, i.place, ap (place_at_lem R m) e)
          other (inr o) = omega (arith, j.place, i.place, place_order R m i.index j.index o)

  apart : (s x y : ℕ) → moved 1 s x ≡ true → moved 1 s y ≡ true → x < y → x % m ≡ y % m → ⊥
  apart s x y e f h r =
      let j = (moved_has R m n 1 s x e).1 in
      let i = (moved_has R m n 1 s y f).1 in
      place_apart T q m (marked_bounded u) a.single a.room s j.index i.index (old_order s x y j i h) j.mark i.mark
      (ap (λ k. k % m) j.place ∙ r ∙ ap (λ k. k % m) (sym i.place))

  starts : (i : ℕ) → start_at (m ∷ []) i ≡ i * m
  starts i =
      let e : i * 1 ≡ i = mul-one i in
      let t : m + 0 ≡ m = omega arith in
      ap (start_at (m ∷ [])) (sym e) ∙ start_at_turns (m ∷ []) i ∙ ap (λ k. i * k) t

  pub free : NeverCollides moved 1 (m ∷ [])
  free i j h x =
      let d : (k : ℕ) × (suc i + k ≡ j) = le_dest h in
      let one = x.one in
      let other = x.other in
      let k = suc d.0 in
      let j-is : i + k ≡ j = omega (arith, d.1) in
      let more : j * m ≡ i * m + k * m = ap (λ t. t * m) (sym j-is) ∙ add-mul i k m in
      let at_least : suc d.0 * m ≡ d.0 * m + m = suc-mul d.0 m in
      let m1 = within m 32 a.latency in
      let e : one.column ≡ other.column + k * m = omega (arith, one.moment, other.moment, starts i, starts j) in
      apart x.segment other.column one.column other.marked one.marked (omega (arith, m1.least))
      (sym (ap (λ t. t % m) e ∙ add-mul-mod_self_right other.column k m))

  from : (s z : ℕ) → moved 1 s z ≡ true → From u q l s z
  from s z e =
      let o = (moved_has R m n 1 s z e).1 in
      record {
        column = o.index + 1;
        least = omega arith;
        most = omega (arith, o.inside);
        place = place_at R m n o.index o.inside ∙ o.place;
        mark = o.mark;
      }

  marks_moved : (s c : ℕ) → 1 ≤ c → c ≤ u.columns → moved 1 s (place_of l c) ≡ marked u q s c
  marks_moved s c h k =
      let e : c - 1 + 1 ≡ c = omega arith in
      let here : place_of l c ≡ place_at_lem R m (c - 1) = ap (place_of l) (sym e) ∙ place_at R m n (c - 1) (omega arith) in
      same_test (moved 1 s (place_of l c)) (marked u q s c)
      (λ t.
      let o = (moved_has R m n 1 s (place_of l c) t).1 in
      let same : o.index ≡ c - 1 = place_one R m o.index (c - 1) (o.place ∙ here) in
      ap (marked u q s) (sym e ∙ ap (λ k. k + 1) (sym same)) ∙ o.mark)
      (λ t. subst (λ (z : ℕ). moved 1 s (place_of l z) ≡ true) e (moved_of R m n s (place_of l (c - 1 + 1)) (record { index = c - 1; inside = omega arith; place = sym (place_at R m n (c - 1) (omega arith)); mark = ap (marked u q s) e ∙ t })))

  delayed : Delayed u q m (delayed_unit u q m)
  unfolding unit_of
  delayed = record {
    sound = unit_of_sound 1 u.segments width moved counts inside_counts;
    functions = refl;
    segments = refl;
    plan = refl;
    places = l;
    rule = by_rule T q m n (marked_bounded u) a.single a.room;
    width = ap (place_of l) size;
    marks = λ s c h k. ap (λ (t : Table). t 1 s (place_of l c)) table_is ∙ marks_moved s c h k;
    only = λ s z e. from s z (sym (ap (λ (t : Table). t 1 s z) table_is) ∙ e);
    never = subst (λ (t : Table). NeverCollides t 1 (m ∷ [])) (sym table_is) free;
  }

pub delays_permit : DelaysPermit
unfolding delays_of
delays_permit u q m e = subst (λ (x : Answer). Delayed u q m (outcome x u (delayed_unit u q m)).unit) (sym e) (delayed u q m (accepted u q m e))

-- No other unit is one with delays

module _ (u v w : FunctionUnit) (q m : ℕ) (a : Delayed u q m v) (b : Delayed u q m w) where
  same_places : a.places ≡ b.places
  same_places = one_way (marked u q) m u.columns a.places b.places a.rule b.rule

  -- a mark of one is a mark of the other
  mark_too : (x s z : ℕ) → marked v x s z ≡ true → marked w x s z ≡ true
  mark_too x s z e =
      let n = (((sound_means v).0 a.sound).marks x s z e).0 in
      let p = marked_place v x s z e in
      let one : x ≡ 1 = omega (arith, n, p.tag1, a.functions) in
      let k = a.only s z (ap (λ t. marked v t s z) (sym one) ∙ e) in
      ap (λ t. marked w t s z) one
      ∙ ap (marked w 1 s) (sym k.place ∙ ap (λ l. place_of l k.column) same_places)
      ∙ b.marks s k.column k.least k.most ∙ k.mark

pub one_unit : OneUnit
one_unit u v w q m a b = record {
  functions = a.functions ∙ sym b.functions;
  segments = a.segments ∙ sym b.segments;
  columns = a.width ∙ ap (λ l. place_of l u.columns) (same_places u v w q m a b) ∙ sym b.width;
  marks = λ i x s z. same_test (marked v x s z) (marked w x s z) (mark_too u v w q m a b x s z) (mark_too u w v q m b a x s z) i;
}

-- The refusals

pub crowded_exactly : CrowdedExactly
unfolding crowded
crowded_exactly u q = (there, back)
  where
    R : Marks
    R = marked u q

    there : crowded R ≡ true → TwoIn R
    there e =
        let c = some_elim 33 (λ c. some_below 17 (λ s. some_below s (λ r. R r c && R s c))) e in
        let s = some_elim 17 (λ s. some_below s (λ r. R r c.at && R s c.at)) c.passed in
        let r = some_elim s.at (λ r. R r c.at && R s.at c.at) s.passed in
        record {
          column = c.at;
          segment = s.at;
          other = r.at;
          order = r.inside;
          mark = and_right (R r.at c.at) _ r.passed;
          second = and_left (R r.at c.at) _ r.passed;
        }

    back : TwoIn R → crowded R ≡ true
    back t =
        let b = marked_bounded u in
        some_intro 33 (λ c. some_below 17 (λ s. some_below s (λ r. R r c && R s c))) t.column (b.column_lt q t.segment t.column t.mark)
        (some_intro 17 (λ s. some_below s (λ r. R r t.column && R s t.column)) t.segment (b.segment_lt q t.segment t.column t.mark)
        (some_intro t.segment (λ r. R r t.column && R t.segment t.column) t.other t.order (and_true t.second t.mark)))

pub beyond_exactly : BeyondExactly
beyond_exactly u q m single room = (there, back)
  where
    R : Marks
    R = marked u q

    n : ℕ
    n = u.columns

    l : List ℕ
    l = places R m n

    rule : ByRule R m n l
    rule = by_rule (marked u) q m n (marked_bounded u) single room

    there : 32 < width_of R m n → Beyond R m n
    there h = record {
      places = l;
      rule = rule;
      column = n;
      most = omega arith;
      place = subst (λ (k : ℕ). 32 < place_of l k) (places_length R m n) h;
    }

    back : Beyond R m n → 32 < width_of R m n
    back b = go b.column b.most (subst (λ (k : List ℕ). 32 < place_of k b.column) (one_way R m n b.places l b.rule rule) b.place)
      where
        go : (c : ℕ) → c ≤ n → 32 < place_of l c → 32 < width_of R m n
        go c h w = omega (arith, place_before R m n c h, last_most R m c n h)
