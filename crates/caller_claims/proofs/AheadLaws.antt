-- How far a caller is ahead of the turn, and that the turn never passes a caller that has work. Assumes nothing.
use Prim.Native.Nat.{ℕ, zero, suc, ◌+◌, ◌-◌, ◌≤◌, ◌<◌}
use mathlib.Core.Path.{◌≡◌, refl, ap, ◌∙◌, sym, subst}
use mathlib.Core.Bool.{Bool, true, false, cond}
use native.Mathlib.Omega.{arith}
use lib.Dec.{leb}
use borrow.Author.Tests.{leb-true, leb-false}
use Rattle.words.proofs.Tests.{nowhere}
use Rattle.unit.specs.Unit.{inside}
use Rattle.unit.proofs.Laws.{within}
use Rattle.callers.specs.Turn.{round, first_after, next_turn}
use Rattle.callers.proofs.RoundLaws.{Round, is_round, round_inside}
use Rattle.callers.proofs.RoundLaws.Round.{over, on}

-- how many places caller j is after t, going round: 0 to C - 1
unfoldable pub ahead : ℕ → ℕ → ℕ → ℕ
ahead C t j = cond (leb t j) (j - t) (j + C - t)

data Ahead (C t j a : ℕ) : Type 0 where
  here : t ≤ j → t + a ≡ j → Ahead C t j a
  past : j < t → t + a ≡ j + C → Ahead C t j a

is_ahead : (C t j : ℕ) → t ≤ C → Ahead C t j (ahead C t j)
unfolding ahead
is_ahead C t j h = go (leb t j) refl
  where
    go : (b : Bool) → leb t j ≡ b → Ahead C t j (cond b (j - t) (j + C - t))
    go true e = here (leb-true t j e) (omega (arith, leb-true t j e))
    go false e = past (leb-false t j e) (omega (arith, leb-false t j e))

module _ (C : ℕ) where
  pub ahead_lt : (t j : ℕ) → inside t C ≡ true → inside j C ≡ true → ahead C t j < C
  ahead_lt t j i k = let w = within t C i in let v = within j C k in go (is_ahead C t j w.most) w.least w.most v.least v.most
    where
      go : {a : ℕ} → Ahead C t j a → 1 ≤ t → t ≤ C → 1 ≤ j → j ≤ C → a < C
      go (here e f) a b c d = omega arith
      go (past e f) a b c d = omega arith

  pub ahead_self : (t : ℕ) → inside t C ≡ true → ahead C t t ≡ 0
  ahead_self t i = let w = within t C i in go (is_ahead C t t w.most)
    where
      go : {a : ℕ} → Ahead C t t a → a ≡ 0
      go (here e f) = omega arith
      go (past e f) = omega arith

  -- two callers are not equally far
  pub ahead_same : (t j k : ℕ) → inside t C ≡ true → inside j C ≡ true → inside k C ≡ true → ahead C t j ≡ ahead C t k → j ≡ k
  ahead_same t j k i x y e =
      let w = within t C i in let v = within j C x in let z = within k C y in
      go (is_ahead C t j w.most) (is_ahead C t k w.most) e v.least v.most z.least z.most
    where
      go : {a b : ℕ} → Ahead C t j a → Ahead C t k b → a ≡ b → 1 ≤ j → j ≤ C → 1 ≤ k → k ≤ C → j ≡ k
      go (here e f) (here g h) s p q r o = omega arith
      go (here e f) (past g h) s p q r o = omega arith
      go (past e f) (here g h) s p q r o = omega arith
      go (past e f) (past g h) s p q r o = omega arith

  -- one place on, every other caller is one place nearer
  pub ahead_step : (t j : ℕ) → inside t C ≡ true → inside j C ≡ true → (t ≡ j → ⊥) → ahead C (round C t) j + 1 ≡ ahead C t j
  ahead_step t j i k n =
      let w = within t C i in let v = within j C k in let r = within (round C t) C (round_inside C t i) in
      go (is_round C t w.most) (is_ahead C t j w.most) (is_ahead C (round C t) j r.most) w.least w.most v.least v.most n
    where
      go : {r a b : ℕ} → Round C t r → Ahead C t j a → Ahead C r j b → 1 ≤ t → t ≤ C → 1 ≤ j → j ≤ C → (t ≡ j → ⊥) → b + 1 ≡ a
      go (over x y) (here e f) (here g h) p q r o n = absurd (n (omega arith))
      go (over x y) (here e f) (past g h) p q r o n = absurd (n (omega arith))
      go (over x y) (past e f) (here g h) p q r o n = omega arith
      go (over x y) (past e f) (past g h) p q r o n = omega arith
      go (on x y) (here e f) (here g h) p q r o n = omega arith
      go (on x y) (here e f) (past g h) p q r o n = absurd (n (omega arith))
      go (on x y) (past e f) (here g h) p q r o n = omega arith
      go (on x y) (past e f) (past g h) p q r o n = omega arith

  -- and the caller itself is the last
  pub ahead_around : (t : ℕ) → inside t C ≡ true → ahead C (round C t) t + 1 ≡ C
  ahead_around t i =
      let w = within t C i in let r = within (round C t) C (round_inside C t i) in
      go (is_round C t w.most) (is_ahead C (round C t) t r.most) w.least w.most
    where
      go : {r b : ℕ} → Round C t r → Ahead C r t b → 1 ≤ t → t ≤ C → b + 1 ≡ C
      go (over x y) (here g h) p q = omega arith
      go (over x y) (past g h) p q = omega arith
      go (on x y) (here g h) p q = omega arith
      go (on x y) (past g h) p q = omega arith

  -- The turn goes from the caller after t to r, and does not pass j, which has work
  pub record Goes (work : ℕ → Bool) (from j r : ℕ) : Type 0 where
    pub there : inside r C ≡ true
    pub works : work r ≡ true
    pub steps : ℕ
    pub near : steps ≤ ahead C from j
    pub others : (k : ℕ) → inside k C ≡ true → ahead C from j ≤ ahead C from k → ahead C r k + steps ≡ ahead C from k

  module _ (work : ℕ → Bool) (j : ℕ) (there : inside j C ≡ true) (works : work j ≡ true) where
    goes_first : (k t stay : ℕ) → inside t C ≡ true → ahead C (round C t) j < k → Goes work (round C t) j (first_after k C work t stay)
    unfolding first_after
    goes_first zero t stay i h = absurd (omega arith)
    goes_first (suc k) t stay i h =
        go (work (round C t)) refl
        (λ n.
        let s = ahead_step (round C t) j (round_inside C t i) there n in
        goes_first k (round C t) stay (round_inside C t i) (omega arith))
      where
        nearer : Goes work (round C (round C t)) j (first_after k C work (round C t) stay) → (round C t ≡ j → ⊥) → Goes work (round C t) j (first_after k C work (round C t) stay)
        nearer g n =
            let s = ahead_step (round C t) j (round_inside C t i) there n in
            record {
              there = g.there;
              works = g.works;
              steps = g.steps + 1;
              near = omega (arith, g.near);
              others = λ m x l. let o = ahead_step (round C t) m (round_inside C t i) x (λ e. apart m x l s e) in omega (arith, g.others m x (omega arith));
            }
          where
            apart : (m : ℕ) → inside m C ≡ true → ahead C (round C t) j ≤ ahead C (round C t) m → ahead C (round C (round C t)) j + 1 ≡ ahead C (round C t) j → round C t ≡ m → ⊥
            apart m x l s e =
                let z : ahead C (round C t) m ≡ 0 = subst (λ (y : ℕ). ahead C (round C t) y ≡ 0) e (ahead_self (round C t) (round_inside C t i)) in
                omega arith

        go : (b : Bool) → work (round C t) ≡ b → ((round C t ≡ j → ⊥) → Goes work (round C (round C t)) j (first_after k C work (round C t) stay))
            → Goes work (round C t) j (cond b (round C t) (first_after k C work (round C t) stay))
        go true e r = record { there = round_inside C t i; works = e; steps = 0; near = omega arith; others = λ m x l. omega arith }
        go false e r =
            let n : round C t ≡ j → ⊥ = λ (q : round C t ≡ j). nowhere (sym e ∙ ap work q ∙ works) in
            nearer (r n) n

    pub goes_next : (t : ℕ) → inside t C ≡ true → Goes work (round C t) j (next_turn C work t)
    goes_next t i = goes_first C t t i (ahead_lt (round C t) j (round_inside C t i) there)
