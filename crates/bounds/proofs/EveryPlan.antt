-- Every plan that is handed out after calls on a fresh unit is in bounds for the marks that stand. Assumes nothing.
use Prim.Native.Nat.{ℕ, ◌≤◌}
use mathlib.Core.Path.{◌≡◌, refl, ◌∙◌, sym, subst, subst₃}
use mathlib.Core.Bool.{Bool, true, false, cond, ◌&&◌}
use mathlib.Core.List.{List, [], ◌∷◌, ◌++◌}
use native.Mathlib.Decide.{ℕ_discrete}
use native.Mathlib.Omega.{arith}
use lib.Dec.{eqb}
use lib.ListN.{length, get_or, take}
use lib.Seq.{length-take-le}
use borrow.Author.Tests.{eqb-true}
use Rattle.words.proofs.Tests.{nowhere, and_left, and_right, by_test}
use Rattle.unit.specs.declared.Plan.{Plan}
use Rattle.unit.specs.Table.{Table, changed}
use Rattle.unit.specs.Unit.{inside, good_counts}
use Rattle.unit.proofs.Laws.{within}
use Rattle.collision.specs.Meaning.{Bounded}
use Rattle.planner.specs.Sheet.{Call, Reply, Sheet, start, edited, owing, spot_number, search_number, next, fed, told, Owed, Agrees, Right}
use Rattle.planner.specs.Sheet.Call.{Mark, Unmark, Search, Read}
use Rattle.planner.specs.Sheet.Reply.{accepted, refused, handed}
use Rattle.planner.proofs.EveryList.{every_list}
use Rattle.bounds.specs.Bounds.{InBounds, HandedInBounds, EveryPlan, EveryPlanAt}
use Rattle.bounds.proofs.BoundsLaws.{best_bounds}

-- The sheet's table has its marks within the largest counts

record Good (t : Sheet) : Type 0 where
  pub segments : t.segments ≤ 16
  pub columns : t.columns ≤ 32
  pub table : Bounded t.table

changed_bounded : (T : Table) (q s c : ℕ) (b : Bool) → Bounded T → s ≤ 16 → 1 ≤ c → c ≤ 32 → Bounded (changed T q s c b)
changed_bounded T q s c b h s16 c1 c32 = record {
  segment_lt = λ x y z e. by_test (eqb x q && (eqb y s && eqb z c)) (λ a. omega (arith, (at x y z a).0)) (λ a. h.segment_lt x y z (other x y z a e));
  column_lt = λ x y z e. by_test (eqb x q && (eqb y s && eqb z c)) (λ a. omega (arith, (at x y z a).1)) (λ a. h.column_lt x y z (other x y z a e));
  column_least = λ x y z e. by_test (eqb x q && (eqb y s && eqb z c)) (λ a. omega (arith, (at x y z a).1)) (λ a. h.column_least x y z (other x y z a e));
}
  where
    at : (x y z : ℕ) → eqb x q && (eqb y s && eqb z c) ≡ true → (y ≡ s) × (z ≡ c)
    at x y z a =
        let r = and_right (eqb x q) (eqb y s && eqb z c) a in
        (eqb-true y s (and_left (eqb y s) (eqb z c) r), eqb-true z c (and_right (eqb y s) (eqb z c) r))

    other : (x y z : ℕ) → eqb x q && (eqb y s && eqb z c) ≡ false → changed T q s c b x y z ≡ true → T x y z ≡ true
    other x y z a e = rw a at e

edit_good : (t : Sheet) (q s c : ℕ) (b : Bool) → Good t → Good (cond (eqb (spot_number t q s c) 0) (edited t (changed t.table q s c b)) t)
unfolding spot_number
edit_good t q s c b h = go (inside q t.functions) (inside s t.segments) (inside c t.columns) refl refl
  where
    go : (x y z : Bool) → inside s t.segments ≡ y → inside c t.columns ≡ z
        → Good (cond (eqb (cond x (cond y (cond z 0 4) 3) 2) 0) (edited t (changed t.table q s c b)) t)
    go false y z d e = h
    go true false z d e = h
    go true true false d e = h
    go true true true d e =
        let w = within s t.segments d in
        let x = within c t.columns e in
        record {
          segments = h.segments;
          columns = h.columns;
          table = changed_bounded t.table q s c b h.table (omega (arith, w.most, h.segments)) x.least (omega (arith, x.most, h.columns));
        }

search_good : (t : Sheet) (q : ℕ) (b : Bool) → Good t → Good (cond b (owing t q) t)
search_good t q true h = record { segments = h.segments; columns = h.columns; table = h.table }
search_good t q false h = h

next_good : (t : Sheet) (k : Call) → Good t → Good (next t k)
next_good t (Mark q s c) h = edit_good t q s c true h
next_good t (Unmark q s c) h = edit_good t q s c false h
next_good t (Search q room) h = search_good t q (eqb (search_number t q room) 0) h
next_good t Read h = h

-- A plan that is handed out

told_plan : {A : Type 0} (n : ℕ) (p : Plan) → told n ≡ handed p → A
told_plan {A} n p = go (eqb n 0)
  where
    go : (b : Bool) → cond b accepted (refused n) ≡ handed p → A
    go true e = let z : ◌≡◌ {A = ℕ} 0 1 = cc in absurd (omega arith)
    go false e = let z : ◌≡◌ {A = ℕ} 0 1 = cc in absurd (omega arith)

-- a plan that the sheet owes
pub owed_bounds : (t : Sheet) (p : Plan) → Bounded t.table → Owed t p → InBounds 1 t.table p.tag p.count p.sum
owed_bounds t p b o =
    let cycle : List ℕ = take p.count p.latencies in
    let size : length cycle ≡ p.count = length-take-le p.count p.latencies (omega (arith, o.few, o.long)) in
    subst₃ (InBounds 1 t.table) (sym o.tag) size (sym o.sum) (best_bounds t.table b t.owed 1 (omega arith) cycle o.best)

agrees_bounds : (k : Call) (t : Sheet) (a : Reply) → Good t → Agrees t k a → (p : Plan) → a ≡ handed p → InBounds 1 t.table p.tag p.count p.sum
agrees_bounds (Mark q s c) t a h r p e = told_plan (spot_number t q s c) p (sym r ∙ e)
agrees_bounds (Unmark q s c) t a h r p e = told_plan (spot_number t q s c) p (sym r ∙ e)
agrees_bounds (Search q room) t a h r p e = told_plan (search_number t q room) p (sym r ∙ e)
agrees_bounds Read t a h r p e = go (ℕ_discrete t.owed 0)
  where
    go : Dec (t.owed ≡ 0) → InBounds 1 t.table p.tag p.count p.sum
    go (yes z) =
        let f = r.none z in
        let n : ◌≡◌ {A = ℕ} 0 1 = cc in absurd (omega arith)
    go (no z) =
        let s = r.some z in
        let f = s.1 in
        let again : s.0 ≡ p = cc in
        owed_bounds t p h.table (subst (Owed t) again s.2)

every_right : (calls : List Call) (replies : List Reply) (t : Sheet) → Good t → Right t calls replies → HandedInBounds t calls replies
every_right [] [] t h r = tt
every_right [] (a ∷ replies) t h r = tt
every_right (k ∷ calls) [] t h r = tt
every_right (k ∷ calls) (a ∷ replies) t h r = (agrees_bounds k t a h r.0, every_right calls replies (next t k) (next_good t k h) r.1)

start_good : (f s c : ℕ) → good_counts f s c ≡ true → Good (start f s c)
start_good f s c g =
    let r = and_right (inside f 4) (inside s 16 && inside c 32) g in
    record {
      segments = (within s 16 (and_left (inside s 16) (inside c 32) r)).most;
      columns = (within c 32 (and_right (inside s 16) (inside c 32) r)).most;
      table = record { segment_lt = λ x y z e. nowhere e; column_lt = λ x y z e. nowhere e; column_least = λ x y z e. nowhere e };
    }

pub every_plan : EveryPlan
every_plan f s c g calls replies x = every_right calls replies (start f s c) (start_good f s c g) (every_list f s c g calls replies x)

-- by position
handed_at : (before : List Call) (k : Call) (rest : List Call) (replies : List Reply) (t : Sheet)
    → HandedInBounds t (before ++ k ∷ rest) replies
    → (p : Plan) → get_or replies (length before) accepted ≡ handed p → InBounds 1 (fed t before).table p.tag p.count p.sum
unfolding fed
handed_at [] k rest [] t r p e = let z : ◌≡◌ {A = ℕ} 0 1 = cc in absurd (omega arith)
handed_at [] k rest (a ∷ replies) t r p e = r.0 p e
handed_at (c ∷ before) k rest [] t r p e = let z : ◌≡◌ {A = ℕ} 0 1 = cc in absurd (omega arith)
handed_at (c ∷ before) k rest (a ∷ replies) t r p e = handed_at before k rest replies (next t c) r.1 p e

pub every_plan_at : EveryPlanAt
every_plan_at f s c g before k rest replies x p e = handed_at before k rest replies (start f s c) (every_plan f s c g (before ++ k ∷ rest) replies x) p e
