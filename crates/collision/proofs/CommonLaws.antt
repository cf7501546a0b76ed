-- What two functions share at each latency: how the loops collect it, column by column. Assumes nothing.
use Prim.Native.Nat.{ℕ, ◌+◌, ◌<◌, ◌≤◌}
use mathlib.Core.Path.{◌≡◌, refl, ap, ap₂, ◌∙◌, sym}
use mathlib.Core.Bool.{Bool, true, false, not, ◌||◌}
use mathlib.Core.List.{List}
use native.Mathlib.Omega.{arith}
use native.Mathlib.Decide.{ℕ_discrete, dec_lt}
use native.Mathlib.Numerals.{add-one}
use lib.Bits.{bit_and, bit_or, and_le_l, and_le_r, or_add_and}
use lib.Dec.{eqb}
use lib.ListN.{length, get_or, set, replicate, length-set, length-replicate, get_or-replicate, get_or-eq_default}
use lib.Seq.{get_or-set_same, get_or-set_other}
use borrow.Author.Tests.{eq-eqb, ne_eqb, eqb-true, eqb-false}
use Rattle.words.specs.Below.{some_below}
use Rattle.words.proofs.Tests.{by_test}
use Rattle.words.proofs.BelowLaws.{some_same}
use Rattle.collision.specs.Vector.{meet, shared}
use Rattle.collision.specs.Inner.{SameWords, Joins, nonzero, Common}
use Rattle.collision.proofs.RowLaws.{meet_and}

-- A list that is written word by word: the first i words have their values, and the others are as before

pub record Filled (value : ℕ → ℕ) (before after : List ℕ) (i : ℕ) : Type 0 where
  pub long : length after ≡ length before
  pub done : (j : ℕ) → j < i → get_or after j 0 ≡ value j
  pub rest : (j : ℕ) → i ≤ j → get_or after j 0 ≡ get_or before j 0

pub filled_start : (value : ℕ → ℕ) (before : List ℕ) → Filled value before before 0
filled_start value before = record { long = refl; done = λ j h. absurd (omega arith); rest = λ j h. refl }

pub filled_more : (value : ℕ → ℕ) (before after : List ℕ) (i v : ℕ) → i < length before → v ≡ value i → Filled value before after i
    → Filled value before (set after i v) (i + 1)
filled_more value before after i v h e f = record { long = length-set after i v ∙ f.long; done = λ j l. done j l (ℕ_discrete j i); rest = rest }
  where
    done : (j : ℕ) → j < i + 1 → Dec (j ≡ i) → get_or (set after i v) j 0 ≡ value j
    done j l (yes d) = rw d (get_or-set_same after i v 0 (omega (arith, f.long)) ∙ e)
    done j l (no d) = get_or-set_other after i j v 0 d ∙ f.done j (omega arith)

    rest : (j : ℕ) → i + 1 ≤ j → get_or (set after i v) j 0 ≡ get_or before j 0
    rest j l = get_or-set_other after i j v 0 (λ d. omega arith) ∙ f.rest j (omega arith)

-- Padded columns

pub padded_all : (columns wide : List ℕ) → length columns ≡ 32 → Filled (λ j. get_or columns j 0) (replicate 64 0) wide 32 → SameWords columns wide
padded_all columns wide n f k = go (dec_lt k 32) (dec_lt k 64)
  where
    beyond : 32 ≤ k → get_or columns k 0 ≡ 0
    beyond h = get_or-eq_default columns 0 (omega (arith, n))

    go : Dec (k < 32) → Dec (k < 64) → get_or wide k 0 ≡ get_or columns k 0
    go (yes h) d = f.done k h
    go (no h) (yes l) = f.rest k (omega arith) ∙ get_or-replicate 64 k 0 0 l ∙ sym (beyond (omega arith))
    go (no h) (no l) =
        f.rest k (omega arith) ∙ get_or-eq_default (replicate 64 0) 0 {n = k} (omega (arith, length-replicate {A = ℕ} 64 0))
        ∙ sym (beyond (omega arith))

-- The columns passed

-- an OR is other than 0 where either part is
or_zero : (a b : ℕ) → not (eqb (bit_or a b) 0) ≡ not (eqb b 0) || not (eqb a 0)
or_zero a b = by_test (eqb b 0) (λ e. by_test (eqb a 0) (both e) (left e)) right
  where
    both : eqb b 0 ≡ true → eqb a 0 ≡ true → not (eqb (bit_or a b) 0) ≡ not (eqb b 0) || not (eqb a 0)
    both e d =
        let x = eqb-true b 0 e in
        let y = eqb-true a 0 d in
        simp (e, d, eq-eqb (bit_or a b) 0 (omega (arith, or_add_and a b)))

    left : eqb b 0 ≡ true → eqb a 0 ≡ false → not (eqb (bit_or a b) 0) ≡ not (eqb b 0) || not (eqb a 0)
    left e d =
        let y = eqb-false a 0 d in
        simp (e, d, ne_eqb (bit_or a b) 0 (λ z. y (omega (arith, or_add_and a b, and_le_r a b))))

    right : eqb b 0 ≡ false → not (eqb (bit_or a b) 0) ≡ not (eqb b 0) || not (eqb a 0)
    right e =
        let x = eqb-false b 0 e in
        simp (e, ne_eqb (bit_or a b) 0 (λ z. x (omega (arith, or_add_and a b, and_le_l a b))))

-- word t is other than 0 exactly where one of the first c columns meets the column t further on
abbrev pub Collected : List ℕ → List ℕ → ℕ → List ℕ → Type 0
Collected later earlier c common =
    (t : ℕ) → t < 32 → nonzero common t ≡ some_below c (λ c. meet (get_or later c 0) (get_or earlier (c + t) 0))

pub collected_start : (later earlier : List ℕ) → Collected later earlier 0 (replicate 32 0)
unfolding some_below
collected_start later earlier t h = ap (λ w. not (eqb w 0)) (get_or-replicate 32 t 0 0 h)

pub collected_more : (later earlier before after : List ℕ) (c : ℕ) → Joins earlier c (get_or later c 0) before after → Collected later earlier c before
    → Collected later earlier (c + 1) after
unfolding some_below
collected_more later earlier before after c j f t h =
    ap (λ w. not (eqb w 0)) (j.each t h)
    ∙ or_zero (get_or before t 0) (bit_and (get_or later c 0) (get_or earlier (c + t) 0))
    ∙ ap₂ (λ (x y : Bool). x || y) (meet_and (get_or later c 0) (get_or earlier (c + t) 0) j.small) (f t h)
    ∙ sym (ap (λ n. some_below n (λ c. meet (get_or later c 0) (get_or earlier (c + t) 0))) (add-one c))

-- the earlier function's columns are found with empty ones after them
pub collected_all : (later earlier wide common : List ℕ) → SameWords earlier wide → Collected later wide 32 common → Common later earlier common
unfolding shared
collected_all later earlier wide common same f t h =
    f t h ∙ some_same 32 (λ c. meet (get_or later c 0) (get_or wide (c + t) 0)) (λ c. meet (get_or later c 0) (get_or earlier (c + t) 0))
    (λ c l. ap (meet (get_or later c 0)) (same (c + t)))
