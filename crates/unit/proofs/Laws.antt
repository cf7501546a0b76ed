-- What the tests of `specs/` say as facts: ranges, soundness, an accepted edit. Assumes nothing.
use Rattle.std.proofs.Common.{Ok, Err}
use Prim.Native.Nat.{ℕ, ◌^◌, ◌<◌, ◌≤◌}
use mathlib.Core.Path.{◌≡◌, refl, sym}
use mathlib.Core.Bool.{Bool, true, false}
use native.Mathlib.Omega.{arith}
use borrow.Author.Tests.{leb-true, le-leb, ltb-true}
use lib.Dec.{leb, ltb}
use Rattle.words.proofs.Tests.{and_left, and_right}
use Rattle.unit.specs.declared.FunctionUnit.{FunctionUnit}
use Rattle.unit.specs.declared.Refusal.{Refusal}
use Rattle.unit.specs.declared.Refusal.TheVariants.{NotSound, NoSuchTag, NoSuchSegment, NoSuchColumn}
use Rattle.unit.specs.Answers.{Answer}
use Rattle.unit.specs.Unit.{inside, somewhere, good_counts, sound_plan, marks_inside, sound_of}
use Rattle.unit.specs.Calls.{check, and_then, tag_answer, spot_answer, column_answer}
use Rattle.unit.specs.Inner.{Somewhere}

-- Answers

pub never_done : {A : Type 0} {why : Refusal} → ◌≡◌ {A = Answer} (Err why) (Ok tt) → A
never_done e = let z : ◌≡◌ {A = ℕ} 0 1 = cc in absurd (omega arith)

pub check_ok : (ok : Bool) (why : Refusal) (next : Answer) → check ok why next ≡ Ok tt → ok ≡ true
check_ok true why next e = refl
check_ok false why next e = never_done e

pub check_next : (ok : Bool) (why : Refusal) (next : Answer) → check ok why next ≡ Ok tt → next ≡ Ok tt
check_next true why next e = e
check_next false why next e = never_done e

-- Ranges

pub record Within (x n : ℕ) : Type 0 where
  pub least : 1 ≤ x
  pub most : x ≤ n

pub within : (x n : ℕ) → inside x n ≡ true → Within x n
within x n e = record {
  least = leb-true 1 x (and_left (leb 1 x) (leb x n) e);
  most = leb-true x n (and_right (leb 1 x) (leb x n) e);
}

pub inside_of : (x n : ℕ) → 1 ≤ x → x ≤ n → inside x n ≡ true
inside_of x n a b = simp (le-leb _ _ a, le-leb _ _ b)

pub somewhere_of : (q s c : ℕ) → 1 ≤ q → q ≤ 4 → 1 ≤ s → s ≤ 16 → 1 ≤ c → c ≤ 32 → somewhere q s c ≡ true
somewhere_of q s c a b d e f g = simp (inside_of q 4 a b, inside_of s 16 d e, inside_of c 32 f g)

-- a place that some unit has
pub record Place (q s c : ℕ) : Type 0 where
  pub tag1 : 1 ≤ q
  pub tag4 : q ≤ 4
  pub segment1 : 1 ≤ s
  pub segment16 : s ≤ 16
  pub column1 : 1 ≤ c
  pub column32 : c ≤ 32

pub placed : (q s c : ℕ) → somewhere q s c ≡ true → Place q s c
placed q s c h =
    let r = and_right (inside q 4) _ h in
    let a = within q 4 (and_left (inside q 4) _ h) in
    let b = within s 16 (and_left (inside s 16) _ r) in
    let d = within c 32 (and_right (inside s 16) _ r) in
    omega arith

-- Soundness

-- what a sound unit has
pub record Sound (u : FunctionUnit) : Type 0 where
  pub functions : inside u.functions 4 ≡ true
  pub segments : inside u.segments 16 ≡ true
  pub columns : inside u.columns 32 ≡ true
  pub plan : sound_plan u.plan.tag u.plan.count ≡ true
  pub marks : marks_inside u ≡ true

pub sound_has : (u : FunctionUnit) → sound_of u ≡ true → Sound u
unfolding sound_of
sound_has u e =
    let g = and_left (good_counts u.functions u.segments u.columns) _ e in
    let r = and_right (good_counts u.functions u.segments u.columns) _ e in
    let g2 = and_right (inside u.functions 4) _ g in
    record {
      functions = and_left (inside u.functions 4) _ g;
      segments = and_left (inside u.segments 16) _ g2;
      columns = and_right (inside u.segments 16) _ g2;
      plan = and_left (sound_plan u.plan.tag u.plan.count) _ r;
      marks = and_right (sound_plan u.plan.tag u.plan.count) _ r;
    }

pub sound_of_lem : (u : FunctionUnit) → Sound u → sound_of u ≡ true
unfolding sound_of
sound_of_lem u s = simp (s.functions, s.segments, s.columns, s.plan, s.marks)

-- Accepted calls

pub record TagAccepted (u : FunctionUnit) (q : ℕ) : Type 0 where
  pub sound : sound_of u ≡ true
  pub tag : inside q u.functions ≡ true

pub tag_accepted : (u : FunctionUnit) (q : ℕ) → tag_answer u q ≡ Ok tt → TagAccepted u q
unfolding tag_answer
tag_accepted u q e = record {
  sound = check_ok (sound_of u) NotSound _ e;
  tag = check_ok (inside q u.functions) NoSuchTag _ (check_next (sound_of u) NotSound _ e);
}

-- a tag of a unit is one of 1 to 4
pub tag_range : (u : FunctionUnit) (q : ℕ) → tag_answer u q ≡ Ok tt → Within q 4
tag_range u q e =
    let a = tag_accepted u q e in
    let f = within u.functions 4 (sound_has u a.sound).functions in
    let i = within q u.functions a.tag in
    omega arith

pub record Accepted (u : FunctionUnit) (q s c : ℕ) : Type 0 where
  pub sound : sound_of u ≡ true
  pub tag : inside q u.functions ≡ true
  pub segment : inside s u.segments ≡ true
  pub column : inside c u.columns ≡ true

pub accepted : (u : FunctionUnit) (q s c : ℕ) → spot_answer u q s c ≡ Ok tt → Accepted u q s c
unfolding spot_answer
accepted u q s c e =
    let e1 = check_next (sound_of u) NotSound _ e in
    let e2 = check_next (inside q u.functions) NoSuchTag _ e1 in
    let e3 = check_next (inside s u.segments) NoSuchSegment _ e2 in
    record {
      sound = check_ok (sound_of u) NotSound _ e;
      tag = check_ok (inside q u.functions) NoSuchTag _ e1;
      segment = check_ok (inside s u.segments) NoSuchSegment _ e2;
      column = check_ok (inside c u.columns) NoSuchColumn _ e3;
    }

-- the numbers of an accepted edit
pub record Ranges (u : FunctionUnit) (q s c : ℕ) : Type 0 where
  pub tag1 : 1 ≤ q
  pub tag4 : q ≤ 4
  pub segment1 : 1 ≤ s
  pub segment16 : s ≤ 16
  pub column1 : 1 ≤ c
  pub column32 : c ≤ 32
  pub functions : q ≤ u.functions
  pub segments : s ≤ u.segments
  pub columns : c ≤ u.columns

pub ranges : (u : FunctionUnit) (q s c : ℕ) → Accepted u q s c → Ranges u q s c
ranges u q s c a =
    let d = sound_has u a.sound in
    let f = within u.functions 4 d.functions in
    let g = within u.segments 16 d.segments in
    let h = within u.columns 32 d.columns in
    let i = within q u.functions a.tag in
    let j = within s u.segments a.segment in
    let k = within c u.columns a.column in
    omega arith

pub edit_ranges : (u : FunctionUnit) (q s c : ℕ) → spot_answer u q s c ≡ Ok tt → Ranges u q s c
edit_ranges u q s c e = ranges u q s c (accepted u q s c e)

-- an edit tries the unit and the tag first, as every question does
pub spot_tag : (u : FunctionUnit) (q s c : ℕ) (why : Refusal) → tag_answer u q ≡ Err why → spot_answer u q s c ≡ Err why
unfolding tag_answer spot_answer
spot_tag u q s c why e = go (sound_of u) (inside q u.functions) e
  where
    go : (a b : Bool) → check a NotSound (check b NoSuchTag (Ok tt)) ≡ Err why
        → check a NotSound (check b NoSuchTag (check (inside s u.segments) NoSuchSegment (check (inside c u.columns) NoSuchColumn (Ok tt)))) ≡ Err why
    go true true e = never_done (sym e)
    go true false e = e
    go false b e = e

pub spot_rest : (u : FunctionUnit) (q s c : ℕ) → tag_answer u q ≡ Ok tt
    → spot_answer u q s c ≡ check (inside s u.segments) NoSuchSegment (check (inside c u.columns) NoSuchColumn (Ok tt))
unfolding spot_answer
spot_rest u q s c e = let a = tag_accepted u q e in simp (a.sound, a.tag)

-- Columns

-- a column's word that a function is given
pub record ColumnAccepted (u : FunctionUnit) (q c w : ℕ) : Type 0 where
  pub sound : sound_of u ≡ true
  pub tag : inside q u.functions ≡ true
  pub word : w < 2 ^ u.segments
  pub column : inside c u.columns ≡ true

pub column_accepted : (u : FunctionUnit) (q c w : ℕ) → column_answer u q c w ≡ Ok tt → ColumnAccepted u q c w
unfolding column_answer
column_accepted u q c w e = go (tag_answer u q) refl e
  where
    go : (a : Answer) → tag_answer u q ≡ a
        → and_then a (check (ltb w (2 ^ u.segments)) NoSuchSegment (check (inside c u.columns) NoSuchColumn (Ok tt))) ≡ Ok tt → ColumnAccepted u q c w
    go (Ok _) t h =
        let a = tag_accepted u q t in
        record {
          sound = a.sound;
          tag = a.tag;
          word = ltb-true w (2 ^ u.segments) (check_ok (ltb w (2 ^ u.segments)) NoSuchSegment _ h);
          column = check_ok (inside c u.columns) NoSuchColumn _ (check_next (ltb w (2 ^ u.segments)) NoSuchSegment _ h);
        }
    go (Err why) t h = never_done h

-- the tag and the column are such as some unit has
pub column_range : (u : FunctionUnit) (q c w : ℕ) → column_answer u q c w ≡ Ok tt → Somewhere q c
column_range u q c w e =
    let a = column_accepted u q c w e in
    let d = sound_has u a.sound in
    let f = within u.functions 4 d.functions in
    let h = within u.columns 32 d.columns in
    let i = within q u.functions a.tag in
    let k = within c u.columns a.column in
    omega arith

-- a unit that passed has at most 16 segments
pub tag_segments : (u : FunctionUnit) (q : ℕ) → tag_answer u q ≡ Ok tt → Within u.segments 16
tag_segments u q e = within u.segments 16 (sound_has u (tag_accepted u q e).sound).segments
