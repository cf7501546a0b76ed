-- Each caller's oldest task starts within C × (n + 1) time units.
-- The argument: at most n ticks after a caller got its turn it starts, and then the turn is at least one place nearer to every caller that waits, which it
-- never passes. So a caller that is d places ahead of the turn starts within (d + 1) × (n + 1) time units, and d is below C. Assumes nothing.
use Rattle.std.proofs.Common.{Ok, Some}
use Prim.Native.Nat.{ℕ, suc, ◌+◌, ◌*◌, ◌≤◌, ◌<◌}
use mathlib.Core.Path.{◌≡◌, refl, ap, ◌∙◌, sym, subst}
use mathlib.Core.Bool.{true, false, cond}
use mathlib.Core.Logic.{◌⊎◌, inl, inr}
use mathlib.Core.List.{List, [], ◌∷◌, ◌++◌}
use native.Mathlib.Omega.{arith}
use native.Mathlib.Nat.{suc-mul, mul-le-mul_right}
use lib.Dec.{eqb}
use lib.ListN.{length, get_or}
use borrow.Author.Tests.{eqb-true, eqb-false}
use Rattle.words.proofs.Tests.{nowhere, by_test}
use Rattle.unit.specs.declared.FunctionUnit.{FunctionUnit}
use Rattle.unit.specs.Unit.{inside, marked, sound_of}
use Rattle.collision.specs.Vector.{largest_column}
use Rattle.collision.proofs.MatrixLaws.{largest_31}
use Rattle.controller.specs.declared.Bank.{Bank}
use Rattle.controller.specs.Bank.{shifted, granted}
use Rattle.queue.specs.declared.Waiting.{Waiting}
use Rattle.queue.specs.Passed.{Passed}
use Rattle.queue_claims.specs.Claims.{delay}
use Rattle.queue_claims.proofs.DelayLaws.{delay_most, delay_tick}
use Rattle.callers.specs.Turn.{next_turn}
use Rattle.callers.specs.Queues.{has_work}
use Rattle.callers.specs.Calls.{served_by, counts_then, unit_of}
use Rattle.callers.proofs.RoundLaws.{turn_now_lem}
use Rattle.caller_claims.specs.Runs.{Port, Call, Start, line_of, after, brought, units_in, no_start, start_in, starts, starts_of}
use Rattle.caller_claims.specs.Runs.Call.{arrival, unit}
use Rattle.caller_claims.specs.Claims.{StartsSoon, EachStartsSoon}
use Rattle.caller_claims.proofs.AheadLaws.{ahead, ahead_lt, ahead_step, goes_next}
use Rattle.caller_claims.specs.Tasks.{caller_in, passed_in}
use Rattle.caller_claims.proofs.PortLaws.{work_other}
use Rattle.caller_claims.proofs.HeldLaws.{held}
use Rattle.caller_claims.proofs.ReadyLaws.{Ready, ready, waits_sound, work_some, some_work, line_grown, arrival_bank, arrival_turn, ready_arrival, caller_here, Idles, held_idles, StartsFirst, granted_starts}

-- Starts

-- of the starts l of one caller, where n time units have passed before: if so many units pass there is one, and the first is the task's, within these units
record Within (w : Waiting) (n bound units : ℕ) (l : List Start) : Type 0 where
  there : bound ≤ units → 0 < length l
  soon : 0 < length l → (get_or l 0 no_start).unit ≤ n + bound
  first : 0 < length l → (get_or l 0 no_start).task ≡ w

-- a time unit later
within_unit : {w : Waiting} {n bound more units : ℕ} {l : List Start} → bound + 1 ≤ more → Within w (n + 1) bound units l → Within w n more (units + 1) l
within_unit {w} {n} {bound} {more} {units} {l} h t = record {
  there = λ b. t.there (omega arith);
  soon = λ b. omega (arith, t.soon b);
  first = t.first;
}

within_more : {w : Waiting} {n bound more units : ℕ} {l : List Start} → bound ≤ more → Within w n bound units l → Within w n more units l
within_more {w} {n} {bound} {more} {units} {l} h t = record {
  there = λ b. t.there (omega arith);
  soon = λ b. omega (arith, t.soon b);
  first = t.first;
}

-- a line that begins with a record does so when another has come

record Begins (l : List Waiting) (w : Waiting) : Type 0 where
  rest : List Waiting
  is : l ≡ w ∷ rest

grown_head : (l m : List Waiting) (v w : Waiting) (line : List Waiting) → (m ≡ l) ⊎ (m ≡ l ++ v ∷ []) → l ≡ w ∷ line → Begins m w
grown_head l m v w line (inl e) h = record { rest = line; is = e ∙ h }
grown_head l m v w line (inr e) h = record { rest = line ++ v ∷ []; is = e ∙ ap (λ (x : List Waiting). x ++ v ∷ []) h }

-- the first record of a line
head_same : (x y : Waiting) (l m : List Waiting) → x ∷ l ≡ y ∷ m → x ≡ y
head_same x y l m e = cc

no_head : {A : Type 0} (x : Waiting) (l : List Waiting) → [] ≡ x ∷ l → A
no_head x l e = let z : ◌≡◌ {A = ℕ} 0 1 = cc in absurd (omega arith)

module _ (u : FunctionUnit) (sound : sound_of u ≡ true) (C i : ℕ) (ii : inside i C ≡ true) where
  abbrev N : ℕ
  N = largest_column (marked u)

  -- caller i is at most d places ahead of the turn, and the caller whose turn it is starts after at most e ticks
  record Budget (p : Port) (d e : ℕ) : Type 0 where
    far : ahead C p.turn i ≤ d
    most : e ≤ N
    own : (x : Waiting) (line : List Waiting) → line_of p p.turn ≡ x ∷ line → delay p.bank x.tag ≤ e
    none : line_of p p.turn ≡ [] → e ≡ N

  abbrev bound : ℕ → ℕ → ℕ
  bound d e = d * (N + 1) + e + 1

  abbrev AllSoon : List Call → Type 0
  AllSoon calls =
      (p : Port) (w : Waiting) (line : List Waiting) (n d e : ℕ) → Ready u C p → line_of p i ≡ w ∷ line → Budget p d e
      → Within w n (bound d e) (units_in calls) (starts_of (eqb i) (starts u C p n calls))

  -- no start of the unit waits longer than n ticks
  delay_fits : (p : Port) → Ready u C p → (x : Waiting) → delay p.bank x.tag ≤ N
  delay_fits p r x = delay_most N p.bank r.low x.tag

  soon_none : AllSoon []
  unfolding starts starts_of units_in
  soon_none p w line n d e r h g = record { there = λ b. absurd (omega arith); soon = λ b. absurd (omega arith); first = λ b. absurd (omega arith) }

  -- Arrivals

  module _ (k : ℕ) (v : Waiting) (p : Port) (d e : ℕ) (r : Ready u C p) (g : Budget p d e) where
    abbrev p' : Port
    p' = after u C p (arrival k v)

    -- the line of the caller whose turn it was and is
    turned : line_of p' p'.turn ≡ line_of p' p.turn
    turned = ap (line_of p') (arrival_turn u C p k v)

    abbrev Grown : List Waiting → Type 0
    Grown m = (line_of p' p.turn ≡ m) ⊎ (line_of p' p.turn ≡ m ++ v ∷ [])

    late : (x : Waiting) (l : List Waiting) → line_of p p.turn ≡ x ∷ l → delay p'.bank x.tag ≤ e
    late x l s = subst (λ (y : Bank). delay y x.tag ≤ e) (sym (arrival_bank u C p k v)) (g.own x l s)

    arrival_own : (x : Waiting) (l : List Waiting) → line_of p' p.turn ≡ x ∷ l → delay p'.bank x.tag ≤ e
    arrival_own x l s = go (line_of p p.turn) refl (line_grown u C p k v r.held p.turn r.turn)
      where
        go : (m : List Waiting) → line_of p p.turn ≡ m → Grown m → delay p'.bank x.tag ≤ e
        go m z (inl y) = late x l (z ∙ sym y ∙ s)
        go [] z (inr y) = omega (arith, delay_fits p' (ready_arrival u C p k v r) x, g.none z)
        go (a ∷ m) z (inr y) =
            subst (λ (o : Waiting). delay p'.bank o.tag ≤ e) (head_same a x (m ++ v ∷ []) l (sym y ∙ s)) (late a m z)

    arrival_none : line_of p' p.turn ≡ [] → e ≡ N
    arrival_none s = go (line_of p p.turn) refl (line_grown u C p k v r.held p.turn r.turn)
      where
        go : (m : List Waiting) → line_of p p.turn ≡ m → Grown m → e ≡ N
        go m z (inl y) = g.none (z ∙ sym y ∙ s)
        go [] z (inr y) = g.none z
        go (a ∷ m) z (inr y) = no_head a (m ++ v ∷ []) (sym s ∙ y)

    arrival_budget : Budget p' d e
    arrival_budget = record {
      far = subst (λ (t : ℕ). ahead C t i ≤ d) (sym (arrival_turn u C p k v)) g.far;
      most = g.most;
      own = λ x l s. arrival_own x l (sym turned ∙ s);
      none = λ s. arrival_none (sym turned ∙ s);
    }

  soon_arrival : (k : ℕ) (v : Waiting) (calls : List Call) → AllSoon calls → AllSoon (arrival k v ∷ calls)
  unfolding starts units_in
  soon_arrival k v calls all p w line n d e r h g =
      let b = grown_head (line_of p i) (line_of (after u C p (arrival k v)) i) v w line (line_grown u C p k v r.held i ii) h in
      all (after u C p (arrival k v)) w b.rest n d e (ready_arrival u C p k v r) b.is (arrival_budget k v p d e r g)

  -- Time units

  -- a caller has a record, and the budget does for it
  record Due (p : Port) (d e c : ℕ) : Type 0 where
    head : Waiting
    rest : List Waiting
    is : line_of p c ≡ head ∷ rest
    enough : bound (ahead C c i) (delay p.bank head.tag) ≤ bound d e

  -- so it is for the caller whose turn it is in this unit
  due : (p : Port) (w : Waiting) (line : List Waiting) (d e : ℕ) → Ready u C p → line_of p i ≡ w ∷ line → Budget p d e → Due p d e (caller_in C p)
  due p w line d e r h g = turn_now_lem C (has_work p.counts) p.turn (Due p d e) mine next_one
    where
      mine : has_work p.counts p.turn ≡ true → Due p d e p.turn
      mine y =
          let s = work_some u C p p.turn r r.turn y in
          let far = mul-le-mul_right (N + 1) g.far in
          record { head = s.head; rest = s.rest; is = s.is; enough = omega (arith, g.own s.head s.rest s.is) }

      next_one : has_work p.counts p.turn ≡ false → Due p d e (next_turn C (has_work p.counts) p.turn)
      next_one y =
          let wi : has_work p.counts i ≡ true = some_work p i w line h in
          let o = goes_next C (has_work p.counts) i ii wi p.turn r.turn in
          let t = next_turn C (has_work p.counts) p.turn in
          let s = work_some u C p t r o.there o.works in
          let k = ahead_step C p.turn i r.turn ii (λ q. nowhere (sym y ∙ ap (has_work p.counts) q ∙ wi)) in
          let near : suc (ahead C t i) ≤ d = omega (arith, o.others i ii (omega arith), g.far) in
          let far = mul-le-mul_right (N + 1) near in
          record {
            head = s.head;
            rest = s.rest;
            is = s.is;
            enough = omega (arith, suc-mul (ahead C t i) (N + 1), delay_fits p r s.head);
          }

  -- a port at which i waits, and the time unit there
  module _ (p : Port) (w : Waiting) (line : List Waiting) (r : Ready u C p) (h : line_of p i ≡ w ∷ line) where
    abbrev c : ℕ
    c = caller_in C p

    abbrev q : Port
    q = after u C p unit

    -- whoever has the turn next, n ticks do
    fresh_budget : Ready u C q → Budget q (ahead C q.turn i) N
    fresh_budget s = record { far = omega arith; most = omega arith; own = λ x l y. delay_fits q s x; none = λ y. refl }

    -- after a start of another caller the turn is nearer
    nearer : (x : Waiting) → (i ≡ c → ⊥) → q.turn ≡ next_turn C (has_work (counts_then (Ok (Some x)) p.counts c)) c
        → suc (ahead C q.turn i) ≤ ahead C c i
    nearer x n t =
        let ic = caller_here u sound C p r in
        let wi = work_other C p.counts c (Ok (Some x)) i ic ii n (some_work p i w line h) in
        let o = goes_next C (has_work (counts_then (Ok (Some x)) p.counts c)) i ii wi c ic in
        let k = ahead_step C c i ic ii (λ y. n (sym y)) in
        subst (λ (y : ℕ). suc (ahead C y i) ≤ ahead C c i) (sym t) (omega (arith, o.others i ii (omega arith)))

    -- the starts of caller i from this unit on, where x is the oldest of the caller whose turn it is
    module _ (calls : List Call) (all : AllSoon calls) (n : ℕ) (x : Waiting) (l : List Waiting) (e : line_of p c ≡ x ∷ l) where
      abbrev later : List Start
      later = starts_of (eqb i) (starts u C q (n + 1) calls)

      abbrev Now : List Start → Type 0
      Now s = Within w n (bound (ahead C c i) (delay p.bank x.tag)) (units_in calls + 1) s

      abbrev here : Start
      here = record { caller = c; task = x; unit = n + 1 }

      own_start : eqb i c ≡ true → Now (cond (eqb i c) (here ∷ later) later)
      own_start y =
          let s : i ≡ c = eqb-true i c y in
          let t : x ≡ w = head_same x w l line (sym e ∙ ap (line_of p) (sym s) ∙ h) in
          rw y (record { there = λ b. omega arith; soon = λ b. omega arith; first = λ b. t })

      other_start : eqb i c ≡ false → StartsFirst u sound C p r x l e → Now (cond (eqb i c) (here ∷ later) later)
      other_start y s =
          let m = eqb-false i c y in
          let t = all q w line (n + 1) (ahead C q.turn i) N s.ready (s.lines i ii m ∙ h) (fresh_budget s.ready) in
          let near = mul-le-mul_right (N + 1) (nearer x m s.turn) in
          rw y (within_unit (omega (arith, suc-mul (ahead C q.turn i) (N + 1))) t)

      -- a unit that is not granted leaves the turn and one tick less

      at : Idles u sound C p r → line_of q q.turn ≡ x ∷ l
      at s = ap (line_of q) s.turn ∙ s.lines c ∙ e

      held_budget : Idles u sound C p r → Budget q (ahead C c i) (delay (shifted p.bank) x.tag)
      held_budget s = record {
        far = subst (λ (z : ℕ). ahead C z i ≤ ahead C c i) (sym s.turn) (omega arith);
        most = subst (λ (z : Bank). delay z x.tag ≤ N) s.bank (delay_fits q s.ready x);
        own = λ a b z. subst (λ (o : Waiting). delay q.bank o.tag ≤ delay (shifted p.bank) x.tag) (head_same x a l b (sym (at s) ∙ z))
            (subst (λ (o : Bank). delay o x.tag ≤ delay (shifted p.bank) x.tag) (sym s.bank) (omega arith));
        none = λ z. no_head x l (sym z ∙ at s);
      }

      held_on : granted p.bank x.tag ≡ false → Idles u sound C p r → Now later
      held_on y s =
          let k = delay_tick N p.bank r.low x.tag (largest_31 u) y in
          let t = all q w line (n + 1) (ahead C c i) (delay (shifted p.bank) x.tag) s.ready (s.lines i ∙ h) (held_budget s) in
          within_unit (omega (arith, k)) t

      abbrev NowBy : Passed → Type 0
      NowBy a = Now (starts_of (eqb i) (start_in (served_by c a) (n + 1) ++ starts u C q (n + 1) calls))

      soon_now : NowBy (passed_in u C p)
      unfolding starts_of
      soon_now = by_test (granted p.bank x.tag) go_granted go_held
        where
          go_granted : granted p.bank x.tag ≡ true → NowBy (passed_in u C p)
          go_granted g =
              let s = granted_starts u sound C p r x l e g in
              subst NowBy (sym s.passed) (by_test (eqb i c) own_start (λ y. other_start y s))

          go_held : granted p.bank x.tag ≡ false → NowBy (passed_in u C p)
          go_held g =
              let s = held_idles u sound C p r x l e g in
              subst NowBy (sym s.passed) (held_on g s)

  soon_unit : (calls : List Call) → AllSoon calls → AllSoon (unit ∷ calls)
  unfolding starts units_in unit_of
  soon_unit calls all p w line n d e r h g =
      let o = due p w line d e r h g in
      within_more o.enough (soon_now p w line r h calls all n o.head o.rest o.is)

  soon_all : (calls : List Call) → AllSoon calls
  soon_all [] = soon_none
  soon_all (arrival k v ∷ calls) = soon_arrival k v calls (soon_all calls)
  soon_all (unit ∷ calls) = soon_unit calls (soon_all calls)

  -- at any ready port
  soon_ready : (p : Port) (w : Waiting) (line : List Waiting) → Ready u C p → line_of p i ≡ w ∷ line → (calls : List Call) → StartsSoon u C p i w calls
  soon_ready p w line r h calls =
      let d = ahead C p.turn i in
      let near : suc d ≤ C = ahead_lt C p.turn i r.turn ii in
      let far = mul-le-mul_right (N + 1) near in
      let g : Budget p d N = record { far = omega arith; most = omega arith; own = λ x l y. delay_fits p r x; none = λ y. refl } in
      let s = within_more {more = C * (N + 1)} (omega (arith, suc-mul d (N + 1))) (soon_all calls p w line 0 d N r h g) in
      record { there = s.there; soon = λ b. omega (arith, s.soon b); first = s.first }

pub starts_soon : EachStartsSoon
starts_soon u C turn o list long actions i ii w line h calls =
    let sound = waits_sound u C turn list actions i w line h in
    soon_ready u sound C i ii (brought u C turn list actions) w line (ready u sound C turn o list long actions) h calls
