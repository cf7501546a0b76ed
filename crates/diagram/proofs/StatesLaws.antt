-- The list of states as a call hands it out: each way that the call ends. Assumes nothing.
use Rattle.std.proofs.Common.{Result, Ok, Err}
use Prim.Native.Nat.{ℕ, ◌≤◌, ◌<◌}
use mathlib.Core.Path.{◌≡◌, refl, sym, ap, ap₂, ◌∙◌, subst}
use mathlib.Core.Bool.{Bool, true, false, cond, ◌&&◌}
use mathlib.Core.List.{List, ◌++◌}
use native.Mathlib.Decide.{ℕ_discrete}
use native.Mathlib.Omega.{arith}
use lib.Dec.{leb}
use lib.ListN.{length, take, drop}
use borrow.Author.Tests.{le-leb, lt-leb, leb-true, leb-false}
use Rattle.unit.specs.declared.FunctionUnit.{FunctionUnit}
use Rattle.unit.specs.declared.Refusal.{Refusal}
use Rattle.unit.specs.declared.Refusal.TheVariants.{ShortOutput, TooManyStates}
use Rattle.unit.specs.Answers.{Answer}
use Rattle.unit.specs.Unit.{marked}
use Rattle.unit.specs.Calls.{check, and_then, tag_answer}
use Rattle.words.proofs.Tests.{by_test}
use Rattle.collision.specs.Vector.{vector_word}
use Rattle.collision.specs.Answers.{answering, vector_answer}
use Rattle.diagram.specs.Diagram.{width}
use Rattle.diagram.specs.States.{states}
use Rattle.diagram.specs.Work.{enlist_answer}
use Rattle.diagram.specs.Answers.{states_of, few_states, states_refusal, states_answer, written, states_out}
use Rattle.diagram.proofs.Listing.{states_first}

-- What the vector's answer says

pub record Vector (u : FunctionUnit) (q w : ℕ) : Type 0 where
  pub accepted : tag_answer u q ≡ Ok tt
  pub word : vector_word (marked u) q ≡ w

pub vector_value : (u : FunctionUnit) (q w : ℕ) → vector_answer u q ≡ Ok w → Vector u q w
unfolding vector_answer
vector_value u q w e = go (tag_answer u q) refl e
  where
    go : (a : Answer) → tag_answer u q ≡ a → answering a (vector_word (marked u) q) ≡ Ok w → Vector u q w
    go (Ok _) p f = record { accepted = p; word = cc }
    go (Err why) p f = let z : ◌≡◌ {A = ℕ} 0 1 = cc in absurd (omega arith)

pub vector_refused : (u : FunctionUnit) (q : ℕ) (why : Refusal) → vector_answer u q ≡ Err why → tag_answer u q ≡ Err why
unfolding vector_answer
vector_refused u q why e = go (tag_answer u q) e
  where
    go : (a : Answer) → answering a (vector_word (marked u) q) ≡ Err why → a ≡ Err why
    go (Ok _) f = let z : ◌≡◌ {A = ℕ} 0 1 = cc in absurd (omega arith)
    go (Err other) f = let s : other ≡ why = cc in ap Err s

-- The listing's answer

pub record Few (g cv r : ℕ) : Type 0 where
  pub count : r ≡ length (states 256 g (width cv) cv)
  pub few : length (states 256 g (width cv) cv) ≤ 256

-- an answer other than 0 is the number of states, at most 256
pub enlist_few : (room g cv r : ℕ) → r ≡ enlist_answer room g cv → (r ≡ 0 → ⊥) → Few g cv r
unfolding enlist_answer
enlist_few room g cv r e ne = go (leb 768 room) (leb (length (states 256 g (width cv) cv)) 256) refl e
  where
    go : (a b : Bool) → leb (length (states 256 g (width cv) cv)) 256 ≡ b → r ≡ cond (a && b) (length (states 256 g (width cv) cv)) 0 → Few g cv r
    go true true p f = record { count = f; few = leb-true _ _ p }
    go true false p f = absurd (ne f)
    go false b p f = absurd (ne f)

pub enlist_most : (room g cv r : ℕ) → r ≡ enlist_answer room g cv → r ≤ 256
enlist_most room g cv r e = go (ℕ_discrete r 0)
  where
    go : Dec (r ≡ 0) → r ≤ 256
    go (yes z) = omega arith
    go (no ne) = let f = enlist_few room g cv r e ne in omega (arith, f.count, f.few)

-- an answer of 0 in enough room says that there are more than 256
pub enlist_many : (room g cv r : ℕ) → 768 ≤ room → r ≡ enlist_answer room g cv → r ≡ 0 → 256 < length (states 256 g (width cv) cv)
unfolding enlist_answer
enlist_many room g cv r h e z = by_test (leb (length (states 256 g (width cv) cv)) 256)
    (λ p.
    let f : r ≡ length (states 256 g (width cv) cv) = e ∙ simp (le-leb 768 room h, p) in
    let l = (states_first g (width cv) cv 256).inside in
    absurd (omega arith))
    (λ p. leb-false _ _ p)

-- The ways the call ends: what it answers, and the words

abbrev pub Ends : FunctionUnit → ℕ → List ℕ → Result ℕ Refusal → List ℕ → Type 0
Ends u q words r after = (r ≡ states_answer u q (length words)) × (after ≡ states_out u q words)

ends : (u : FunctionUnit) (q : ℕ) (words : List ℕ) (a : Answer) → states_refusal u q (length words) ≡ a
    → Ends u q words (answering a (length (states_of 1 (marked u) q))) (written a (states_of 1 (marked u) q) words)
unfolding states_answer states_out
ends u q words a e = (ap (λ x. answering x (length (states_of 1 (marked u) q))) (sym e), ap (λ x. written x (states_of 1 (marked u) q) words) (sym e))

pub ends_refused : (u : FunctionUnit) (q : ℕ) (words : List ℕ) (why : Refusal) → tag_answer u q ≡ Err why → Ends u q words (Err why) words
unfolding states_refusal
ends_refused u q words why e =
    ends u q words (Err why) (ap (λ a. and_then a (check (leb 256 (length words)) ShortOutput (few_states 1 (marked u) q))) e)

pub ends_short : (u : FunctionUnit) (q w : ℕ) (words : List ℕ) → Vector u q w → length words < 256 → Ends u q words (Err ShortOutput) words
unfolding states_refusal
ends_short u q w words v h = ends u q words (Err ShortOutput) (simp (v.accepted, lt-leb 256 (length words) h))

pub ends_many : (u : FunctionUnit) (q w : ℕ) (words : List ℕ) → Vector u q w → 256 ≤ length words → 256 < length (states 256 1 (width w) w)
    → Ends u q words (Err TooManyStates) words
unfolding states_refusal
ends_many u q w words v h m =
    let n : 256 < length (states_of 1 (marked u) q) = subst (λ (x : ℕ). 256 < length (states 256 1 (width x) x)) (sym v.word) m in
    ends u q words (Err TooManyStates) (simp (v.accepted, le-leb 256 (length words) h, lt-leb _ 256 n))

pub ends_listed : (u : FunctionUnit) (q w r : ℕ) (words found : List ℕ) → Vector u q w → 256 ≤ length words → Few 1 w r
    → take r found ≡ states 256 1 (width w) w → Ends u q words (Ok r) (take r found ++ drop r words)
unfolding states_refusal
ends_listed u q w r words found v h f t =
    let same : states_of 1 (marked u) q ≡ states 256 1 (width w) w = ap (λ x. states 256 1 (width x) x) v.word in
    let few : length (states_of 1 (marked u) q) ≤ 256 = subst (λ (l : List ℕ). length l ≤ 256) (sym same) f.few in
    let e = ends u q words (Ok tt) (simp (v.accepted, le-leb 256 (length words) h, le-leb _ 256 few)) in
    let n : length (states_of 1 (marked u) q) ≡ r = ap length same ∙ sym f.count in
    (ap Ok (sym n) ∙ e.0, ap₂ (λ (l : List ℕ) (k : ℕ). l ++ drop k words) (t ∙ sym same) (sym n) ∙ e.1)
