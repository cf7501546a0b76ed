-- The state diagram as text: its parts put together, and which of its arcs the plan's cycle takes. Assumes nothing.
use mathlib.Core.Path.{◌≡◌, refl, sym, ap, ap₂, ◌∙◌}
use mathlib.Core.Bool.{Bool, true, false, ◌&&◌}
use mathlib.Core.List.{List, ◌++◌, append_assoc}
use Prim.Native.Nat.{ℕ, ◌+◌, ◌*◌, ◌^◌, ◌≤◌, ◌<◌}
use native.Mathlib.Nat.{div-eq_of_lt, lt_of_lt_of_le, mod-eq_of_lt, mul-add-mod_self_right}
use native.Mathlib.Numerals.{add-one}
use native.Mathlib.Decide.{ℕ_discrete}
use native.Mathlib.Omega.{arith}
use lib.Bits.{bit_or, or_zero_l}
use lib.Pow.{pow_mono}
use lib.Dec.{eqb}
use lib.ListN.{length, get_or, set, length-set}
use lib.Seq.{get_or-set_same, get_or-set_other}
use Rattle.words.specs.Bits.{is_set}
use Rattle.words.specs.Below.{join_below, some_below}
use Rattle.words.proofs.BelowLaws.{some_same, some_intro, some_none, span_most}
use Rattle.text.specs.Text.{ascii, decimal, vector_text}
use Rattle.text.proofs.RowLaws.{vector_length}
use Rattle.collision.specs.Pipeline.{latency}
use Rattle.diagram.specs.Diagram.{width, next}
use Rattle.diagram.specs.States.{Each}
use Rattle.graph.specs.Dot.{state_before, on_cycle, state_text, style_text, arc_text, arcs_text, dot_text}
use Rattle.graph.specs.Inner.{Turn, label_text, permitted_text, states_text, Listing}

-- Where a latency leads

pub next_long : (cv s t : ℕ) → s < 2 ^ 32 → 32 ≤ t → cv ≡ next cv s t
next_long cv s t h l = sym (ap (λ (x : ℕ). bit_or x cv) (div-eq_of_lt (lt_of_lt_of_le h (pow_mono l))) ∙ or_zero_l cv)

-- The states on the cycle

pub before_start : (cv : ℕ) (cycle : List ℕ) → cv ≡ state_before cv cycle 0
unfolding state_before
before_start cv cycle = refl

pub before_more : (cv : ℕ) (cycle : List ℕ) (m : ℕ) {s r : ℕ} → s ≡ state_before cv cycle m → r ≡ next cv s (latency cycle m) → r ≡ state_before cv cycle (m + 1)
unfolding state_before
before_more cv cycle m e n = n ∙ ap (λ x. next cv x (latency cycle m)) e ∙ ap (state_before cv cycle) (sym (add-one m))

-- a latency of a turn
turn_latency : (cycle : List ℕ) (n j : ℕ) → j < length cycle → latency cycle (n * length cycle + j) ≡ get_or cycle j 0
turn_latency cycle n j h = ap (λ k. get_or cycle k 0) (mul-add-mod_self_right n (length cycle) j ∙ mod-eq_of_lt h)

pub turn_more : (cv : ℕ) (cycle : List ℕ) (n j : ℕ) {s r : ℕ} → j < length cycle → s ≡ state_before cv cycle (n * length cycle + j) → r ≡ next cv s (get_or cycle j 0)
    → r ≡ state_before cv cycle (n * length cycle + (j + 1))
turn_more cv cycle n j {s} h at e =
    before_more cv cycle (n * length cycle + j) at (e ∙ ap (next cv s) (sym (turn_latency cycle n j h)))
    ∙ ap (state_before cv cycle) (omega arith)

-- the states before the first j starts of that turn are noted, and the next one is at hand
pub record Turning (cv : ℕ) (cycle on : List ℕ) (state j : ℕ) : Type 0 where
  pub room : length on ≡ 256
  pub at : state ≡ state_before cv cycle (32 * length cycle + j)
  pub noted : (i : ℕ) → i < j → get_or on i 0 ≡ state_before cv cycle (32 * length cycle + i)

module _ {cv : ℕ} {cycle on : List ℕ} {state j : ℕ} (t : Turning cv cycle on state j) where
  pub turning_more : j < length cycle → length cycle ≤ 256 → {r : ℕ} → r ≡ next cv state (get_or cycle j 0) → Turning cv cycle (set on j state) r (j + 1)
  turning_more h few {r} e = record {
    room = length-set on j state ∙ t.room;
    at = turn_more cv cycle 32 j h t.at e;
    noted = λ i l. go i l (ℕ_discrete i j);
  }
    where
      go : (i : ℕ) → i < j + 1 → Dec (i ≡ j) → get_or (set on j state) i 0 ≡ state_before cv cycle (32 * length cycle + i)
      go i l (yes e) = rw (e, get_or-set_same on j state 0 (omega (arith, t.room))) t.at
      go i l (no ne) = get_or-set_other on j i state 0 ne ∙ t.noted i (omega arith)

-- Whether the cycle takes an arc

-- the test of the start j
abbrev pub takes : List ℕ → List ℕ → ℕ → ℕ → ℕ → Bool
takes on cycle s t j = eqb (get_or on j 0) s && eqb (get_or cycle j 0) t

module _ {cv : ℕ} {cycle on : List ℕ} (r : Turn cv cycle on) (s t : ℕ) where
  -- the cycle takes the arcs of its noted states
  turn_takes : some_below (length cycle) (takes on cycle s t) ≡ on_cycle cv cycle s t
  unfolding on_cycle
  turn_takes =
      some_same (length cycle) (takes on cycle s t) (λ j. eqb (state_before cv cycle (32 * length cycle + j)) s && eqb (get_or cycle j 0) t)
      (λ j h. ap (λ x. eqb x s && eqb (get_or cycle j 0) t) (r.states j h))

  pub takes_here : (j : ℕ) → j < length cycle → takes on cycle s t j ≡ true → true ≡ on_cycle cv cycle s t
  takes_here j h e = sym (some_intro (length cycle) (takes on cycle s t) j h e) ∙ turn_takes

  pub takes_none : ((j : ℕ) → j < length cycle → takes on cycle s t j ≡ false) → false ≡ on_cycle cv cycle s t
  takes_none f = sym (some_none (length cycle) (takes on cycle s t) f) ∙ turn_takes

-- The text

-- the columns of a state are at most 32 bytes
pub vector_few : (n s : ℕ) → n ≤ 32 → length (vector_text n s) ≤ 32
vector_few n s h = go (ℕ_discrete n 0)
  where
    go : Dec (n ≡ 0) → length (vector_text n s) ≤ 32
    go (yes e) = rw e (omega arith)
    go (no ne) = omega (arith, vector_length n s ne)

-- an arc from its parts
pub arc_parts : (cv : ℕ) (cycle : List ℕ) (n s t : ℕ) {x : ℕ} {b : Bool} → x ≡ next cv s t → b ≡ on_cycle cv cycle s t
    → ascii "  " ++ state_text n s ++ ascii " -> " ++ state_text n x ++ label_text t b ≡ arc_text n cv cycle s t
unfolding arc_text
arc_parts cv cycle n s t e f =
    ap₂ (λ (x : ℕ) b. ascii "  " ++ state_text n s ++ ascii " -> " ++ state_text n x ++ label_text t b) e f
    ∙ assoc (ascii "  " ++ state_text n s ++ ascii " -> " ++ state_text n (next cv s t)) (ascii " [label=") (decimal t) (style_text (on_cycle cv cycle s t)) (ascii "];\n")
  where
    assoc : (p a b d e : List ℕ) → p ++ (a ++ b ++ d ++ e) ≡ p ++ a ++ b ++ d ++ e
    assoc p a b d e = simp append_assoc

pub arcs_all : (n cv : ℕ) (cycle : List ℕ) (s : ℕ) → join_below (n + 1) (permitted_text n cv cycle s) ≡ arcs_text n cv cycle s
unfolding arcs_text
arcs_all n cv cycle s = refl

-- the diagram from its parts
pub dot_parts : (q : ℕ) (states : List ℕ) {cv n v : ℕ} {cycle l : List ℕ} → n ≡ width cv → v ≡ cv → l ≡ cycle
    → ascii "digraph function_" ++ decimal q ++ ascii " {\n" ++ states_text n v l states ++ ascii "}\n" ≡ dot_text q (width cv) cv cycle states
unfolding dot_text
dot_parts q states e f g = rw (e, f, g) refl

-- the arcs of the state i
abbrev pub arcs_at : ℕ → ℕ → List ℕ → List ℕ → ℕ → List ℕ
arcs_at n cv cycle states i = arcs_text n cv cycle (get_or states i 0)

-- What is listed

pub width_narrow : (n cv : ℕ) → n ≡ width cv → n ≤ 32
width_narrow n cv e = omega (arith, e, span_most 32 (is_set cv))

pub listing_small : {states : List ℕ} {n : ℕ} → Listing states → n ≡ width (get_or states 0 0) → Each (λ s. s < 2 ^ n) states
listing_small l e = rw e l.small
