-- The soundness test says what `SoundUnit` says, and the test of the words is the same test. Assumes nothing.
use Prim.Native.Nat.{ℕ, ◌+◌, ◌-◌, ◌/◌, ◌%◌, ◌^◌, ◌<◌, ◌≤◌}
use mathlib.Core.Path.{◌≡◌, refl, ap, ◌∙◌, sym, subst}
use mathlib.Core.Bool.{Bool, true, false, cond, not, ◌&&◌}
use mathlib.Core.Logic.{◌↔◌}
use native.Mathlib.Omega.{arith}
use native.Mathlib.Decide.{dec_lt, ℕ_discrete}
use lib.Dec.{eqb, leb}
use lib.ListN.{length, get_or}
use lib.Pow.{pow_pos}
use borrow.Author.Tests.{ne_eqb, eqb-false, leb-true, le-leb, not-true}
use Rattle.words.specs.Bits.{is_set}
use Rattle.words.specs.Below.{some_below}
use Rattle.words.proofs.Tests.{nowhere, and_left, and_right, and_true, same_test, not_passed, by_test}
use Rattle.words.proofs.BitLaws.{bit_of_zero, zero_unset, set_below, high_bit, some_bit}
use Rattle.words.proofs.BelowLaws.{some_intro, some_elim}
use Rattle.unit.specs.declared.FunctionUnit.{FunctionUnit}
use Rattle.unit.specs.Inner.{Clean, Tested}
use Rattle.unit.specs.Unit.{inside, somewhere, place, word_at, marked, strays, marks_inside, sound_plan, sound_of, SoundUnit}
use Rattle.unit.proofs.Laws.{Within, within, inside_of, somewhere_of, Place, placed, sound_has, sound_of_lem}

-- what the machine has of a unit: 128 words of 16 bits
pub record Words (u : FunctionUnit) : Type 0 where
  pub count : length u.marks ≡ 128
  pub small : (k : ℕ) → get_or u.marks k 0 < 2 ^ 16

-- Every mark lies within the counts

abbrev pub Inside : FunctionUnit → Type 0
Inside u = (q s c : ℕ) → marked u q s c ≡ true → (q ≤ u.functions) × (s ≤ u.segments) × (c ≤ u.columns)

pub marked_place : (u : FunctionUnit) (q s c : ℕ) → marked u q s c ≡ true → Place q s c
unfolding marked
marked_place u q s c e = placed q s c (and_left (somewhere q s c) _ e)

pub inside_means : (u : FunctionUnit) → marks_inside u ≡ true → Inside u
unfolding marks_inside
inside_means u h q s c e =
    let r = marked_place u q s c e in
    by_test (leb q u.functions && (leb s u.segments && leb c u.columns))
    (λ t.
    let t2 = and_right (leb q u.functions) _ t in (
      leb-true q u.functions (and_left (leb q u.functions) _ t),
      leb-true s u.segments (and_left (leb s u.segments) _ t2),
      leb-true c u.columns (and_right (leb s u.segments) _ t2),
    ))
    (λ t.
    nowhere (sym (not-true (some_below 5 (λ q. some_below 17 (λ s. some_below 33 (λ c. strays u q s c)))) h)
    ∙ some_intro 5 (λ q. some_below 17 (λ s. some_below 33 (λ c. strays u q s c))) q (omega arith)
    (some_intro 17 (λ s. some_below 33 (λ c. strays u q s c)) s (omega arith)
    (some_intro 33 (λ c. strays u q s c) c (omega arith) (and_true e (ap not t))))))

pub inside_test : (u : FunctionUnit) → Inside u → marks_inside u ≡ true
unfolding marks_inside
inside_test u h = ap not (not_passed (some_below 5 (λ q. some_below 17 (λ s. some_below 33 (λ c. strays u q s c)))) refuted)
  where
    refuted : some_below 5 (λ q. some_below 17 (λ s. some_below 33 (λ c. strays u q s c))) ≡ true → ⊥
    refuted e =
        let a = some_elim 5 (λ q. some_below 17 (λ s. some_below 33 (λ c. strays u q s c))) e in
        let b = some_elim 17 (λ s. some_below 33 (λ c. strays u a.at s c)) a.passed in
        let d = some_elim 33 (λ c. strays u a.at b.at c) b.passed in
        let m = and_left (marked u a.at b.at d.at) _ d.passed in
        let n = and_right (marked u a.at b.at d.at) _ d.passed in
        let r = h a.at b.at d.at m in
        nowhere (sym (not-true (leb a.at u.functions && (leb b.at u.segments && leb d.at u.columns)) n)
        ∙ simp (le-leb a.at u.functions r.0, le-leb b.at u.segments r.1, le-leb d.at u.columns r.2))

-- The same test of the words

clean_inside : (u : FunctionUnit) → Clean u.functions u.segments u.columns u.marks → Inside u
unfolding marked
clean_inside u h q s c e =
    let x = placed q s c (and_left (somewhere q s c) _ e) in
    let b = and_right (somewhere q s c) _ e in
    let d = h (place q c) (omega arith) (λ z. nowhere (sym (zero_unset 0 (s - 1) (bit_of_zero (s - 1))) ∙ subst (λ (n : ℕ). is_set n (s - 1) ≡ true) z b)) in
    let l = set_below (word_at u q c) u.segments (s - 1) d.small b in
    omega arith

-- the mark behind bit j of word k
pub word_mark : (u : FunctionUnit) (k j : ℕ) → k < 128 → j < 16 → marked u (k / 32 + 1) (j + 1) (k % 32 + 1) ≡ is_set (get_or u.marks k 0) j
unfolding marked
word_mark u k j l lj =
    let p : place (k / 32 + 1) (k % 32 + 1) ≡ k = omega arith in
    let q : j + 1 - 1 ≡ j = omega arith in
    let sw = somewhere_of (k / 32 + 1) (j + 1) (k % 32 + 1) (omega arith) (omega arith) (omega arith) (omega arith) (omega arith) (omega arith) in
    ap (λ t. t && is_set (get_or u.marks (place (k / 32 + 1) (k % 32 + 1)) 0) (j + 1 - 1)) sw
    ∙ ap (λ i. is_set (get_or u.marks i 0) (j + 1 - 1)) p ∙ ap (λ i. is_set (get_or u.marks k 0) i) q

inside_clean : (u : FunctionUnit) → Within u.segments 16 → ((k : ℕ) → k < 128 → get_or u.marks k 0 < 2 ^ 16) → Inside u
    → Clean u.functions u.segments u.columns u.marks
inside_clean u s16 small d k l ne =
    let r = some_bit 16 (get_or u.marks k 0) (small k l) ne in
    let x = here r.at r.most r.set in
    record { tag = omega arith; column = omega arith; small = below (dec_lt (get_or u.marks k 0) (2 ^ u.segments)) }
  where
    here : (j : ℕ) → j < 16 → is_set (get_or u.marks k 0) j ≡ true
        → (k / 32 + 1 ≤ u.functions) × (j + 1 ≤ u.segments) × (k % 32 + 1 ≤ u.columns)
    here j lj b = d (k / 32 + 1) (j + 1) (k % 32 + 1) (word_mark u k j l lj ∙ b)

    below : Dec (get_or u.marks k 0 < 2 ^ u.segments) → get_or u.marks k 0 < 2 ^ u.segments
    below (yes h) = h
    below (no h) =
        let e : u.segments + (16 - u.segments) ≡ 16 = omega (arith, s16.most) in
        let r = high_bit (16 - u.segments) u.segments (get_or u.marks k 0) (omega arith)
        (subst (λ (m : ℕ). get_or u.marks k 0 < 2 ^ m) (sym e) (small k l)) in
        let x = here r.at (omega arith) r.set in
        absurd (omega arith)

-- the test of the words is that of the marks
pub tested_means : (u : FunctionUnit) (r : Bool) → inside u.segments 16 ≡ true
    → Tested u.functions u.segments u.columns u.marks r → r ≡ marks_inside u
tested_means u r s16 t =
    same_test r (marks_inside u) (λ e. inside_test u (clean_inside u (t.passed e)))
    (λ h. by_test r (λ e. e) (λ e. absurd (t.failed e (inside_clean u (within u.segments 16 s16) t.small (inside_means u h)))))

-- Soundness as facts

plan_means : (t n : ℕ) → sound_plan t n ≡ true → (t ≡ 0 → ⊥) → (1 ≤ n) × (n ≤ 256)
plan_means t n e ne =
    let w = within n 256 (ap (λ k. cond k true (inside n 256)) (sym (ne_eqb t 0 ne)) ∙ e) in
    (w.least, w.most)

plan_of_lem : (t n : ℕ) → ((t ≡ 0 → ⊥) → (1 ≤ n) × (n ≤ 256)) → sound_plan t n ≡ true
plan_of_lem t n h = go (eqb t 0) refl
  where
    go : (b : Bool) → eqb t 0 ≡ b → cond b true (inside n 256) ≡ true
    go true e = refl
    go false e = let w = h (eqb-false t 0 e) in inside_of n 256 w.0 w.1

pub sound_means : (u : FunctionUnit) → (sound_of u ≡ true) ↔ SoundUnit u
sound_means u = (
  (λ h.
      let d = sound_has u h in
      let f = within u.functions 4 d.functions in
      let g = within u.segments 16 d.segments in
      let k = within u.columns 32 d.columns in
      record {
        functions = (f.least, f.most);
        segments = (g.least, g.most);
        columns = (k.least, k.most);
        plan = plan_means u.plan.tag u.plan.count d.plan;
        marks = inside_means u d.marks;
      }),
  (λ d.
      sound_of_lem u (record {
        functions = inside_of u.functions 4 d.functions.0 d.functions.1;
        segments = inside_of u.segments 16 d.segments.0 d.segments.1;
        columns = inside_of u.columns 32 d.columns.0 d.columns.1;
        plan = plan_of_lem u.plan.tag u.plan.count d.plan;
        marks = inside_test u d.marks;
      })),
)

-- the words of a sound unit have marks in its segments only
pub sound_word : (u : FunctionUnit) (k : ℕ) → Words u → sound_of u ≡ true → k < 128 → get_or u.marks k 0 < 2 ^ u.segments
sound_word u k n h l = go (ℕ_discrete (get_or u.marks k 0) 0)
  where
    go : Dec (get_or u.marks k 0 ≡ 0) → get_or u.marks k 0 < 2 ^ u.segments
    go (yes e) = omega (arith, pow_pos u.segments)
    go (no ne) =
        let d = sound_has u h in
        (inside_clean u (within u.segments 16 d.segments) (λ j i. n.small j) (inside_means u d.marks) k l ne).small
