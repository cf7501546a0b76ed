-- How a call ends: what is refused, the width that is reached, and the unit that is made. Assumes nothing.
use Rattle.std.proofs.Common.{Result, Ok, Err}
use Prim.Native.Nat.{ℕ, ◌+◌, ◌-◌, ◌^◌, ◌≤◌, ◌<◌}
use mathlib.Core.Path.{◌≡◌, sym, ap, ◌∙◌, subst}
use mathlib.Core.Bool.{true, false, ◌&&◌}
use mathlib.Core.Logic.{◌⊎◌, inl, inr}
use mathlib.Core.List.{List}
use native.Mathlib.Nat.{eq-or-lt_of_le, lt_of_lt_of_le}
use native.Mathlib.Omega.{arith}
use borrow.Author.Tests.{le-leb, lt-leb}
use lib.Dec.{leb}
use lib.ListN.{get_or}
use lib.Pow.{pow_mono}
use Rattle.words.specs.Below.{some_below}
use Rattle.words.proofs.Tests.{and_left}
use Rattle.unit.specs.declared.FunctionUnit.{FunctionUnit}
use Rattle.unit.specs.declared.Outcome.{Outcome}
use Rattle.unit.specs.declared.Refusal.{Refusal}
use Rattle.unit.specs.declared.Refusal.TheVariants.{TwoMarks, BadInterval, PlaceBeyond}
use Rattle.unit.specs.Answers.{Answer}
use Rattle.unit.specs.Unit.{inside, place, word_at, marked, columns_of, SoundUnit}
use Rattle.unit.specs.Calls.{check, tag_answer, unit_of, outcome}
use Rattle.unit.proofs.Laws.{within, tag_accepted, tag_range}
use Rattle.unit.proofs.SoundLaws.{Words, sound_means, sound_word}
use Rattle.unit.proofs.ColumnLaws.{columns_word_lem}
use Rattle.collision.specs.Vector.{marks_of}
use Rattle.collision.specs.Answers.{answering, marks_answer}
use Rattle.delays.specs.Delays.{Marks, place_of, places, width_of, moved_table, crowded, delays_answer, delays_of}
use Rattle.delays.specs.Inner.{column_marks, two_in, Placed, Movable, left, Suited, placed_of}
use Rattle.delays.proofs.PlaceLaws.{places_length, place_at_lem, place_at, place_first, place_order}
use Rattle.delays.proofs.WordLaws.{columns_say, crowded_words}

-- The number of marks

module _ (u : FunctionUnit) (q : ℕ) (t : tag_answer u q ≡ Ok tt) (n : Result ℕ Refusal) (e : n ≡ marks_answer u q) where
  value : n ≡ Ok (marks_of (marked u) q)
  unfolding marks_answer
  value = e ∙ ap (λ (a : Answer). answering a (marks_of (marked u) q)) t

  pub marks_given : (w : ℕ) → n ≡ Ok w → w ≡ marks_of (marked u) q
  marks_given w g = let same : Ok w ≡ Ok (marks_of (marked u) q) = sym g ∙ value in cc

  pub marks_never : (why : Refusal) → n ≡ Err why → ⊥
  marks_never why g = let never : Err why ≡ Ok (marks_of (marked u) q) = sym g ∙ value in let z : ◌≡◌ {A = ℕ} 0 1 = cc in omega arith

-- The words of a sound unit

pub words_small : (u : FunctionUnit) (q : ℕ) → Words u → tag_answer u q ≡ Ok tt → (i : ℕ) → i < 32 → get_or (columns_of u q) i 0 < 2 ^ u.segments
words_small u q n t i h =
    let w = tag_range u q t in
    let e : i + 1 - 1 ≡ i = omega arith in
    let word : get_or (columns_of u q) i 0 ≡ word_at u q (i + 1) =
    ap (λ k. get_or (columns_of u q) k 0) (sym e) ∙ columns_word_lem u q (i + 1) w.least w.most (omega arith) (omega arith) in
    let below : place q (i + 1) < 128 = omega (arith, w.least, w.most) in
    subst (λ (k : ℕ). k < 2 ^ u.segments) (sym word) (sound_word u (place q (i + 1)) n (tag_accepted u q t).sound below)

pub words_16 : (u : FunctionUnit) (q : ℕ) → Words u → tag_answer u q ≡ Ok tt → (i : ℕ) → i < 32 → get_or (columns_of u q) i 0 < 2 ^ 16
words_16 u q n t i h =
    lt_of_lt_of_le (words_small u q n t i h) (pow_mono ((sound_means u).0 (tag_accepted u q t).sound).segments.1)

pub crowded_is : (u : FunctionUnit) (q : ℕ) (columns : List ℕ) → Words u → tag_answer u q ≡ Ok tt → columns ≡ columns_of u q
    → some_below 32 (λ i. two_in (get_or columns i 0)) ≡ crowded (marked u q)
crowded_is u q columns n t e =
    ap (λ (l : List ℕ). some_below 32 (λ i. two_in (get_or l i 0))) e ∙ crowded_words (columns_of u q) (words_16 u q n t)
    ∙ ap crowded (columns_say u q (tag_range u q t))

pub suited : (u : FunctionUnit) (q m : ℕ) (columns : List ℕ) → Words u → tag_answer u q ≡ Ok tt → columns ≡ columns_of u q
    → inside m 32 && leb (marks_of (marked u) q) m ≡ true → Suited u columns m
suited u q m columns n t e l =
    let w = within m 32 (and_left (inside m 32) _ l) in
    record {
      sound = (tag_accepted u q t).sound;
      least = w.least;
      most = w.most;
      small = λ i h. subst (λ (c : List ℕ). get_or c i 0 < 2 ^ u.segments) (sym e) (words_small u q n t i h);
    }

-- The places

module _ (u : FunctionUnit) (columns : List ℕ) (m : ℕ) (s : Suited u columns m) where
  abbrev R : Marks
  R = column_marks columns

  pub counts : SoundUnit u
  counts = (sound_means u).0 s.sound

  module _ (spots : List ℕ) (p : Placed R m u.columns spots) where
    pub width_is : get_or spots (u.columns - 1) 0 ≡ width_of R m u.columns
    width_is =
        let h : u.columns - 1 < u.columns = omega (arith, counts.columns.0) in
        let e : u.columns - 1 + 1 ≡ u.columns = omega (arith, counts.columns.0) in
        p.each (u.columns - 1) h ∙ ap (place_of (places R m u.columns)) (e ∙ sym (places_length R m u.columns))

    spot_is : (i : ℕ) → i < u.columns → get_or spots i 0 ≡ place_at_lem R m i
    spot_is i h = p.each i h ∙ place_at R m u.columns i h

    pub can_move : get_or spots (u.columns - 1) 0 ≤ 32 → Movable columns spots m u.columns u.segments (get_or spots (u.columns - 1) 0)
    can_move near =
        let last : u.columns - 1 < u.columns = omega (arith, counts.columns.0) in
        record {
          segment1 = counts.segments.0;
          segment16 = counts.segments.1;
          width1 = omega (arith, spot_is (u.columns - 1) last, place_first R m (u.columns - 1));
          width32 = near;
          few = counts.columns.1;
          placed = p;
          within = λ i h. go i h (eq-or-lt_of_le (before i h));
          small = s.small;
        }
      where
        before : (i : ℕ) → i < u.columns → i ≤ u.columns - 1
        before i h = omega arith

        go : (i : ℕ) → i < u.columns → (i ≡ u.columns - 1) ⊎ (i < u.columns - 1) → get_or spots i 0 ≤ get_or spots (u.columns - 1) 0
        go i h (inl e) = omega (arith, ap (λ k. get_or spots k 0) e)
        go i h (inr o) = omega (arith, spot_is i h, spot_is (u.columns - 1) (omega arith), place_order R m i (u.columns - 1) o)

    pub ends_beyond : 32 < get_or spots (u.columns - 1) 0 → left u PlaceBeyond ≡ placed_of u columns m
    unfolding placed_of
    ends_beyond h = rw (lt-leb (width_of R m u.columns) 32 (omega (arith, width_is)))

    pub ends_placed : (r : FunctionUnit) → get_or spots (u.columns - 1) 0 ≤ 32
        → r ≡ unit_of 1 u.segments (get_or spots (u.columns - 1) 0) (moved_table R (places R m u.columns))
        → ◌≡◌ {A = Outcome} (record { answer = (Ok tt); unit = r }) (placed_of u columns m)
    unfolding placed_of
    ends_placed r h e =
        rw (le-leb (width_of R m u.columns) 32 (omega (arith, width_is)))
        (ap (λ (x : FunctionUnit). record { answer = (Ok tt); unit = x }) (e ∙ ap (λ w. unit_of 1 u.segments w (moved_table R (places R m u.columns))) width_is))

-- The call

module _ (u : FunctionUnit) (q m : ℕ) where
  pub tag_left : (why : Refusal) → tag_answer u q ≡ Err why → left u why ≡ delays_of u q m
  unfolding delays_of delays_answer
  tag_left why e = rw e

  module _ (t : tag_answer u q ≡ Ok tt) where
    pub crowded_left : crowded (marked u q) ≡ true → left u TwoMarks ≡ delays_of u q m
    unfolding delays_of delays_answer
    crowded_left e = rw (t, e)

    module _ (single : crowded (marked u q) ≡ false) where
      pub latency_left : inside m 32 && leb (marks_of (marked u) q) m ≡ false → left u BadInterval ≡ delays_of u q m
      unfolding delays_of delays_answer
      latency_left e = rw (t, single, e)

      pub all_placed : (columns : List ℕ) → columns ≡ columns_of u q → inside m 32 && leb (marks_of (marked u) q) m ≡ true → placed_of u columns m ≡ delays_of u q m
      unfolding delays_of delays_answer placed_of
      all_placed columns c e =
          ap (λ (R : Marks). outcome (check (leb (width_of R m u.columns) 32) PlaceBeyond (Ok tt)) u (unit_of 1 u.segments (width_of R m u.columns) (moved_table R (places R m u.columns))))
          (ap column_marks c ∙ columns_say u q (tag_range u q t))
          ∙ rw (t, single, e)
