-- What holds of each caller. Assumes nothing.
use Prim.Native.Nat.{ℕ, ◌+◌, ◌-◌, ◌≤◌, ◌<◌}
use mathlib.Core.Path.{◌≡◌, ap, ◌∙◌, sym, subst}
use mathlib.Core.List.{List}
use mathlib.Core.Bool.{Bool, true, false, not}
use native.Mathlib.Omega.{arith}
use lib.ListN.{length, get_or, take}
use lib.Seq.{get_or-take, length-take-le}
use Rattle.std.specs.List.{list_all}
use Rattle.std.proofs.lemmas.List.{get_or_default}
use Rattle.std.proofs.lemmas.List.Sums.{AllPass-from_list_all, list_all-from_AllPass}
use Rattle.words.proofs.Tests.{nowhere, by_test, same_test}
use Rattle.words.proofs.BelowLaws.{some_intro, some_none, some_same}
use Rattle.unit.specs.Unit.{inside}
use Rattle.unit.proofs.Laws.{within, inside_of}
use Rattle.callers.specs.Turn.{each_caller}

-- a test holds for the callers at the first n places
abbrev pub Upto : (ℕ → Bool) → ℕ → Type 0
Upto f n = (k : ℕ) → k < n → f (k + 1) ≡ true

pub each_upto : (C : ℕ) (f : ℕ → Bool) → Upto f C → each_caller C f ≡ true
unfolding each_caller
each_upto C f h = ap not (some_none C (λ k. not (f (k + 1))) (λ k l. ap not (h k l)))

pub each_true : (C : ℕ) (f : ℕ → Bool) → ((i : ℕ) → inside i C ≡ true → f i ≡ true) → each_caller C f ≡ true
each_true C f h = each_upto C f (λ k l. h (k + 1) (inside_of (k + 1) C (omega arith) (omega arith)))

pub each_false : (C : ℕ) (f : ℕ → Bool) (k : ℕ) → k < C → f (k + 1) ≡ false → each_caller C f ≡ false
unfolding each_caller
each_false C f k h e = ap not (some_intro C (λ k. not (f (k + 1))) k h (ap not e))

pub each_at : (C : ℕ) (f : ℕ → Bool) (i : ℕ) → each_caller C f ≡ true → inside i C ≡ true → f i ≡ true
each_at C f i e h =
    let w = within i C h in
    let s : i - 1 + 1 ≡ i = omega (arith, w.least) in
    by_test (f i) (λ t. t)
    (λ b. nowhere (sym (each_false C f (i - 1) (omega (arith, w.least, w.most)) (subst (λ (j : ℕ). f j ≡ false) (sym s) b)) ∙ e))

-- the callers' values stand at the front of a list
pub each_all : (p : ℕ → Bool) (C : ℕ) (l : List ℕ) → C ≤ length l → list_all p (take C l) ≡ each_caller C (λ i. p (get_or l (i - 1) 0))
each_all p C l m =
    same_test (list_all p (take C l)) (each_caller C (λ i. p (get_or l (i - 1) 0)))
    (λ t. each_upto C (λ i. p (get_or l (i - 1) 0)) (λ k h.
    let s : k + 1 - 1 ≡ k = omega arith in
    ap (λ j. p (get_or l j 0)) s ∙ ap p (sym (get_or-take C l k 0 h)) ∙ AllPass-from_list_all p (take C l) t k 0 (omega (arith, length-take-le C l m))))
    (λ t. list_all-from_AllPass p (take C l) (λ k d h. at k d (omega (arith, length-take-le C l m)) t))
  where
    at : (k d : ℕ) → k < C → each_caller C (λ i. p (get_or l (i - 1) 0)) ≡ true → p (get_or (take C l) k d) ≡ true
    at k d h t =
        let s : k + 1 - 1 ≡ k = omega arith in
        ap p (get_or-take C l k d h ∙ get_or_default l k d 0 (omega arith) ∙ ap (λ j. get_or l j 0) (sym s))
        ∙ each_at C (λ i. p (get_or l (i - 1) 0)) (k + 1) t (inside_of (k + 1) C (omega arith) (omega arith))

pub each_same : (C : ℕ) (f g : ℕ → Bool) → ((i : ℕ) → inside i C ≡ true → f i ≡ g i) → each_caller C f ≡ each_caller C g
unfolding each_caller
each_same C f g h =
    ap not (some_same C (λ k. not (f (k + 1))) (λ k. not (g (k + 1))) (λ k l. ap not (h (k + 1) (inside_of (k + 1) C (omega arith) (omega arith)))))
