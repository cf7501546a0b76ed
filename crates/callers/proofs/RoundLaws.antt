-- Going round: the turn always names a caller, and the search for the next one with work as a loop makes it. Assumes nothing.
use Prim.Native.Nat.{ℕ, zero, suc, ◌+◌, ◌≤◌, ◌<◌}
use mathlib.Core.Path.{◌≡◌, refl, ap, ◌∙◌, sym, subst}
use mathlib.Core.Bool.{Bool, true, false, cond}
use mathlib.Core.List.{List}
use native.Mathlib.Omega.{arith}
use lib.Dec.{eqb}
use borrow.Author.Tests.{eqb-true, eqb-false}
use Rattle.unit.specs.Unit.{inside}
use Rattle.unit.proofs.Laws.{within, inside_of}
use Rattle.callers.specs.Turn.{round, first_after, next_turn, turn_now}
use Rattle.callers.specs.Queues.{has_work}
use Rattle.callers.specs.Inner.{Among}

pub data Round (C t r : ℕ) : Type 0 where
  over : t ≡ C → r ≡ 1 → Round C t r
  on : t < C → r ≡ t + 1 → Round C t r

pub is_round : (C t : ℕ) → t ≤ C → Round C t (round C t)
is_round C t h = go (eqb t C) refl
  where
    go : (b : Bool) → eqb t C ≡ b → Round C t (cond b 1 (t + 1))
    go true e = over (eqb-true t C e) refl
    go false e = on (strict (eqb-false t C e)) refl
      where
        strict : (t ≡ C → ⊥) → t < C
        strict n = omega arith

module _ (C : ℕ) where
  pub round_inside : (t : ℕ) → inside t C ≡ true → inside (round C t) C ≡ true
  round_inside t i = let w = within t C i in go (is_round C t w.most) w.least w.most
    where
      go : {r : ℕ} → Round C t r → 1 ≤ t → t ≤ C → inside r C ≡ true
      go {r} (over e f) a b = inside_of r C (omega arith) (omega arith)
      go {r} (on e f) a b = inside_of r C (omega arith) (omega arith)

-- the turn always names a caller
pub next_inside : (C : ℕ) (work : ℕ → Bool) (k t stay : ℕ) → inside t C ≡ true → inside stay C ≡ true → inside (first_after k C work t stay) C ≡ true
unfolding first_after
next_inside C work zero t stay i j = j
next_inside C work (suc k) t stay i j = go (work (round C t)) (next_inside C work k (round C t) stay (round_inside C t i) j)
  where
    go : (b : Bool) → inside (first_after k C work (round C t) stay) C ≡ true → inside (cond b (round C t) (first_after k C work (round C t) stay)) C ≡ true
    go true h = round_inside C t i
    go false h = h

-- whose turn it is: the caller whose turn it was, or, where that one has no work, the next
pub turn_now_lem : (C : ℕ) (work : ℕ → Bool) (t : ℕ) (P : ℕ → Type 0) → (work t ≡ true → P t) → (work t ≡ false → P (next_turn C work t)) → P (turn_now C work t)
turn_now_lem C work t P x y = go (work t) refl
  where
    go : (b : Bool) → work t ≡ b → P (cond b t (next_turn C work t))
    go true e = x e
    go false e = y e

pub now_inside : (C : ℕ) (work : ℕ → Bool) (t : ℕ) → inside t C ≡ true → inside (turn_now C work t) C ≡ true
now_inside C work t i = turn_now_lem C work t (λ j. inside j C ≡ true) (λ e. i) (λ e. next_inside C work C t t i i)

-- The search as a loop makes it

module _ (C : ℕ) (work : ℕ → Bool) (i stay m : ℕ) where
  first_found : work (round C i) ≡ true → first_after (suc m) C work i stay ≡ round C i
  unfolding first_after
  first_found e = ap (λ b. cond b (round C i) (first_after m C work (round C i) stay)) e

  first_on : work (round C i) ≡ false → first_after (suc m) C work i stay ≡ first_after m C work (round C i) stay
  unfolding first_after
  first_on e = ap (λ b. cond b (round C i) (first_after m C work (round C i) stay)) e

one_round : (C i : ℕ) → Among C i → Among C (round C i)
one_round C i o =
    let w = within (round C i) C (round_inside C i (inside_of i C o.least o.most)) in
    record { few = o.few; least = w.least; most = w.most }

-- so many callers are still to be asked
pub record Going (C : ℕ) (counts : List ℕ) (from caller left : ℕ) : Type 0 where
  pub here : Among C caller
  pub rest : next_turn C (has_work counts) from ≡ first_after left C (has_work counts) caller from

module _ {C : ℕ} {counts : List ℕ} {from caller left : ℕ} (g : Going C counts from caller left) where
  pub going_end : left ≡ 0 → from ≡ next_turn C (has_work counts) from
  unfolding first_after
  going_end z = sym (g.rest ∙ ap (λ n. first_after n C (has_work counts) caller from) z)

  module _ (r : ℕ) (e : r ≡ round C caller) where
    module _ (m : ℕ) (some : left ≡ suc m) where
      next : next_turn C (has_work counts) from ≡ first_after (suc m) C (has_work counts) caller from
      next = g.rest ∙ ap (λ n. first_after n C (has_work counts) caller from) some

      pub going_found : has_work counts r ≡ true → r ≡ next_turn C (has_work counts) from
      going_found w = e ∙ sym (next ∙ first_found C (has_work counts) caller from m (ap (has_work counts) (sym e) ∙ w))

      pub going_on : has_work counts r ≡ false → Going C counts from r m
      going_on w =
          subst (λ (x : ℕ). Going C counts from x m) (sym e)
          (record {
            here = one_round C caller g.here;
            rest = next ∙ first_on C (has_work counts) caller from m (ap (has_work counts) (sym e) ∙ w);
          })
