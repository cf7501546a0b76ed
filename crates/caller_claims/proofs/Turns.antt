-- While two callers both wait, they start by turns.
-- The argument: when one of them starts, the turn goes on from it, and the other, which has work, then comes first going round. The turn does not pass a caller
-- that has work, so this stays until the other starts. Assumes nothing.
use Rattle.std.proofs.Common.{Ok, Err, Some, None}
use Prim.Native.Nat.{ℕ, ◌+◌, ◌<◌}
use mathlib.Core.Path.{◌≡◌, refl, ap, ◌∙◌, sym, subst}
use mathlib.Core.Bool.{Bool, true, false, cond, ◌&&◌, ◌||◌}
use mathlib.Core.Logic.{◌⊎◌, inl, inr}
use mathlib.Core.List.{List, [], ◌∷◌, ◌++◌}
use native.Mathlib.Omega.{arith}
use native.Mathlib.Decide.{dec_lt}
use lib.Dec.{eqb}
use borrow.Author.Tests.{eqb-true, eqb-false, eq-eqb, ne_eqb}
use Rattle.words.proofs.Tests.{nowhere, by_test, or_true_left, or_true_right}
use Rattle.unit.specs.declared.FunctionUnit.{FunctionUnit}
use Rattle.unit.specs.declared.Refusal.{Refusal}
use Rattle.unit.specs.declared.Refusal.TheVariants.{NotSound, NoSuchCaller}
use Rattle.unit.specs.Unit.{inside, sound_of}
use Rattle.queue.specs.declared.Waiting.{Waiting}
use Rattle.queue.specs.Passed.{Passed}
use Rattle.callers.specs.Turn.{next_turn, turn_now}
use Rattle.callers.specs.Queues.{has_work}
use Rattle.callers.specs.Calls.{one_of, unit_at, passed_at, served_by, counts_then, unit_of}
use Rattle.callers.proofs.RoundLaws.{turn_now_lem}
use Rattle.caller_claims.specs.Runs.{Port, Call, Start, after, start_in, starts, starts_of}
use Rattle.caller_claims.specs.Runs.Call.{arrival, unit}
use Rattle.caller_claims.specs.Claims.{BothWait, Alternate, TakeTurns}
use Rattle.caller_claims.proofs.AheadLaws.{ahead, ahead_self, ahead_same, ahead_lt, ahead_step, ahead_around, goes_next}
use Rattle.caller_claims.specs.Tasks.{caller_in, passed_in}
use Rattle.caller_claims.proofs.PortLaws.{unit_port, unit_refused, work_other}

-- t is a caller, and going round from it a comes before b
record First (C t a b : ℕ) : Type 0 where
  there : inside t C ≡ true
  before : ahead C t a < ahead C t b

module _ (C a b : ℕ) (ia : inside a C ≡ true) (ib : inside b C ≡ true) (n : a ≡ b → ⊥) where
  -- after b, the other comes first
  first_after_lem : (work : ℕ → Bool) → work a ≡ true → First C (next_turn C work b) a b
  first_after_lem work w =
      let g = goes_next C work a ia w b ib in
      let s = ahead_step C b a ib ia (λ e. n (sym e)) in
      let o = ahead_around C b ib in
      let l = ahead_lt C b a ib ia in
      record { there = g.there; before = omega (arith, g.others a ia (omega arith), g.others b ib (omega arith)) }

  -- b itself does not
  not_last : (t : ℕ) → First C t a b → t ≡ b → ⊥
  not_last t h e =
      let z : ahead C t b ≡ 0 = subst (λ (y : ℕ). ahead C t y ≡ 0) e (ahead_self C t h.there) in
      omega (arith, h.before)

  -- and stays first until it starts
  first_kept : (work : ℕ → Bool) (t : ℕ) → First C t a b → (t ≡ a → ⊥) → work a ≡ true → First C (next_turn C work t) a b
  first_kept work t h m w =
      let g = goes_next C work a ia w t h.there in
      let s = ahead_step C t a h.there ia m in
      let o = ahead_step C t b h.there ib (not_last t h) in
      record { there = g.there; before = omega (arith, h.before, g.others a ia (omega arith), g.others b ib (omega (arith, h.before))) }

  first_now : (work : ℕ → Bool) (t : ℕ) → First C t a b → work a ≡ true → First C (turn_now C work t) a b
  first_now work t h w =
      turn_now_lem C work t (λ r. First C r a b) (λ e. h) (λ e. first_kept work t h (λ x. nowhere (sym e ∙ ap work x ∙ w)) w)

both_swap : (u : FunctionUnit) (C : ℕ) (p : Port) (i j : ℕ) (calls : List Call) → BothWait u C p i j calls → BothWait u C p j i calls
unfolding BothWait
both_swap u C p i j [] w = tt
both_swap u C p i j (arrival k x ∷ calls) w = both_swap u C (after u C p (arrival k x)) i j calls w
both_swap u C p i j (unit ∷ calls) w = (w.1, w.0, both_swap u C (after u C p unit) i j calls w.2)

-- a test that only a and b pass
record Only (f : ℕ → Bool) (a b : ℕ) : Type 0 where
  one : f a ≡ true
  two : f b ≡ true
  none : (k : ℕ) → (k ≡ a → ⊥) → (k ≡ b → ⊥) → f k ≡ false

only_swap : {f : ℕ → Bool} {a b : ℕ} → Only f a b → Only f b a
only_swap o = record { one = o.two; two = o.one; none = λ k x y. o.none k y x }

-- where a comes first, the starts are a's, then b's, and so on
abbrev Next : FunctionUnit → ℕ → (ℕ → Bool) → List Call → Type 0
Next u C f calls =
    (a b : ℕ) → inside a C ≡ true → inside b C ≡ true → (a ≡ b → ⊥) → Only f a b → (p : Port) (m : ℕ) → First C p.turn a b → BothWait u C p a b calls
    → Alternate a b (starts_of f (starts u C p m calls))

module _ (u : FunctionUnit) (C : ℕ) (f : ℕ → Bool) where
  -- a time unit, by what was done in it
  module _ (calls : List Call) (all : Next u C f calls) (a b : ℕ) (ia : inside a C ≡ true) (ib : inside b C ≡ true) (n : a ≡ b → ⊥) (o : Only f a b)
      (p : Port) (m : ℕ) where
    abbrev later : List Start
    later = starts_of f (starts u C (after u C p unit) (m + 1) calls)

    abbrev begun : Waiting → Start
    begun v = record { caller = caller_in C p; task = v; unit = m + 1 }

    moved : (v : Waiting) → passed_in u C p ≡ Ok (Some v)
        → (after u C p unit).turn ≡ next_turn C (has_work (counts_then (Ok (Some v)) p.counts (caller_in C p))) (caller_in C p)
    moved v e = ap (λ (y : Port). y.turn) (unit_port u C p (Ok (Some v)) e)

    module _ (h : First C (caller_in C p) a b) (w : BothWait u C (after u C p unit) a b calls) (v : Waiting) (e : passed_in u C p ≡ Ok (Some v)) where
      own_start : caller_in C p ≡ a → has_work p.counts b ≡ true → Alternate a b (cond (f (caller_in C p)) (begun v ∷ later) later)
      own_start s wb =
          let t : f (caller_in C p) ≡ true = ap f s ∙ o.one in
          let nb : b ≡ a → ⊥ = λ z. n (sym z) in
          let work : ℕ → Bool = has_work (counts_then (Ok (Some v)) p.counts (caller_in C p)) in
          let k = first_after_lem C b a ib ia nb work (work_other C p.counts (caller_in C p) (Ok (Some v)) b h.there ib (λ z. n (sym s ∙ sym z)) wb) in
          let r : (after u C p unit).turn ≡ next_turn C work a = moved v e ∙ ap (next_turn C work) s in
          rw t (
            s,
            all b a ib ia nb (only_swap o) (after u C p unit) (m + 1) (subst (λ (z : ℕ). First C z b a) (sym r) k)
                (both_swap u C (after u C p unit) a b calls w),
          )

      other_start : (caller_in C p ≡ a → ⊥) → has_work p.counts a ≡ true → Alternate a b (cond (f (caller_in C p)) (begun v ∷ later) later)
      other_start na wa =
          let t : f (caller_in C p) ≡ false = o.none (caller_in C p) na (not_last C a b ia ib n (caller_in C p) h) in
          let work : ℕ → Bool = has_work (counts_then (Ok (Some v)) p.counts (caller_in C p)) in
          let k = first_kept C a b ia ib n work (caller_in C p) h na
          (work_other C p.counts (caller_in C p) (Ok (Some v)) a h.there ia (λ z. na (sym z)) wa) in
          rw t (all a b ia ib n o (after u C p unit) (m + 1) (subst (λ (z : ℕ). First C z a b) (sym (moved v e)) k) w)

    -- a unit without a start leaves the turn with a caller from which a comes first
    no_start_lem : (t : ℕ) → (after u C p unit).turn ≡ t → First C t a b → BothWait u C (after u C p unit) a b calls → Alternate a b later
    no_start_lem t e h w = all a b ia ib n o (after u C p unit) (m + 1) (subst (λ (z : ℕ). First C z a b) (sym e) h) w

  next_unit : (calls : List Call) → Next u C f calls → Next u C f (unit ∷ calls)
  unfolding starts starts_of unit_of BothWait
  next_unit calls all a b ia ib n o p m h w = go (passed_in u C p) refl (first_now C a b ia ib n (has_work p.counts) p.turn h w.0)
    where
      go : (x : Passed) → passed_in u C p ≡ x → First C (caller_in C p) a b
          → Alternate a b (starts_of f (start_in (served_by (caller_in C p) (passed_in u C p)) (m + 1) ++ starts u C (after u C p unit) (m + 1) calls))
      go (Err why) e c =
          rw e (no_start_lem calls all a b ia ib n o p m p.turn (ap (λ (y : Port). y.turn) (unit_port u C p (Err why) e)) h w.2)
      go (Ok None) e c =
          rw e (no_start_lem calls all a b ia ib n o p m (caller_in C p) (ap (λ (y : Port). y.turn) (unit_port u C p (Ok None) e)) c w.2)
      go (Ok (Some v)) e c =
          rw e
          (by_test (eqb (caller_in C p) a)
          (λ y. own_start calls all a b ia ib n o p m c w.2 v e (eqb-true (caller_in C p) a y) w.1)
          (λ y. other_start calls all a b ia ib n o p m c w.2 v e (eqb-false (caller_in C p) a y) w.0))

  next_arrival : (k : ℕ) (x : Waiting) (calls : List Call) → Next u C f calls → Next u C f (arrival k x ∷ calls)
  unfolding starts BothWait after
  next_arrival k x calls all a b ia ib n o p m h w = all a b ia ib n o (after u C p (arrival k x)) m h w

  next_none : Next u C f []
  unfolding starts starts_of
  next_none a b ia ib n o p m h w = tt

  next_all : (calls : List Call) → Next u C f calls
  next_all [] = next_none
  next_all (arrival k x ∷ calls) = next_arrival k x calls (next_all calls)
  next_all (unit ∷ calls) = next_unit calls (next_all calls)

-- From any port

-- a turn that names no caller: every time unit is refused, and nothing starts
no_turn : (u : FunctionUnit) (C : ℕ) (p : Port) → inside p.turn C ≡ false → (why : Refusal) × (passed_in u C p ≡ Err why)
unfolding passed_at unit_at
no_turn u C p f =
    let o : one_of C p.turn ≡ false = ap (λ t. inside C 4 && t) f ∙ none (inside C 4) in
    by_test (sound_of u) (λ s. (NoSuchCaller, simp (s, o))) (λ s. (NotSound, simp s))
  where
    none : (b : Bool) → b && false ≡ false
    none true = refl
    none false = refl

nothing_starts : (u : FunctionUnit) (C : ℕ) (calls : List Call) (p : Port) (m : ℕ) → inside p.turn C ≡ false → starts u C p m calls ≡ []
unfolding starts after unit_of
nothing_starts u C [] p m f = refl
nothing_starts u C (arrival k x ∷ calls) p m f = nothing_starts u C calls (after u C p (arrival k x)) m f
nothing_starts u C (unit ∷ calls) p m f =
    let r = no_turn u C p f in
    ap (λ (x : Passed). start_in (served_by (caller_in C p) x) (m + 1) ++ starts u C (after u C p unit) (m + 1) calls) r.1
    ∙ ap (λ (q : Port). starts u C q (m + 1) calls) (unit_refused u C p r.0 r.1)
    ∙ nothing_starts u C calls p (m + 1) f

module _ (u : FunctionUnit) (C : ℕ) (p : Port) (i j : ℕ) (ii : inside i C ≡ true) (ij : inside j C ≡ true) (n : i ≡ j → ⊥) (calls : List Call)
    (w : BothWait u C p i j calls) where
  abbrev both : ℕ → Bool
  both k = eqb i k || eqb j k

  abbrev ByTurns : Type 0
  ByTurns = Alternate i j (starts_of both (starts u C p 0 calls)) ⊎ Alternate j i (starts_of both (starts u C p 0 calls))

  only : Only both i j
  only = record {
    one = or_true_left (eqb i i) _ (eq-eqb i i refl);
    two = or_true_right (eqb i j) _ (eq-eqb j j refl);
    none = λ k x y. simp (ne_eqb i k (λ e. x (sym e)), ne_eqb j k (λ e. y (sym e)));
  }

  with_turn : inside p.turn C ≡ true → ByTurns
  with_turn t = go (dec_lt (ahead C p.turn i) (ahead C p.turn j))
    where
      go : Dec (ahead C p.turn i < ahead C p.turn j) → ByTurns
      go (yes h) = inl (next_all u C both calls i j ii ij n only p 0 (record { there = t; before = h }) w)
      go (no h) =
          inr (next_all u C both calls j i ij ii (λ e. n (sym e)) (only_swap only) p 0
          (record { there = t; before = strict h (λ e. n (ahead_same C p.turn i j t ii ij e)) }) (both_swap u C p i j calls w))
        where
          strict : {x y : ℕ} → (x < y → ⊥) → (x ≡ y → ⊥) → y < x
          strict a b = omega arith

  without_turn : inside p.turn C ≡ false → ByTurns
  unfolding starts_of
  without_turn f = inl (subst (λ (l : List Start). Alternate i j (starts_of both l)) (sym (nothing_starts u C calls p 0 f)) tt)

pub take_turns : TakeTurns
take_turns u C p i j ii ij n calls w = by_test (inside p.turn C) (with_turn u C p i j ii ij n calls w) (without_turn u C p i j ii ij n calls w)
