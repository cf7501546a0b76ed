-- Rotations of a cycle: what they keep, and that the first rotation comes before all others. Assumes nothing.
use mathlib.Core.Path.{◌≡◌, sym, ap, ap₂, ◌∙◌, subst}
use mathlib.Core.List.{List, ◌++◌}
use Prim.Native.Nat.{ℕ, zero, suc, ◌+◌, ◌-◌, ◌%◌, ◌≤◌, ◌<◌}
use native.Mathlib.Nat.{add-zero, add-suc, add-mod_left, add-mod-mod, mod-add-mod, mod-eq_of_lt, mod-lt}
use native.Mathlib.Decide.{dec_lt}
use native.Mathlib.Omega.{arith}
use lib.ListN.{length, get_or, take, drop}
use lib.Seq.{ext_get_or}
use Rattle.unit.specs.Table.{Table}
use Rattle.collision.specs.Pipeline.{Serves, NeverCollides, latency, start_at, task_at}
use Rattle.diagram.specs.Diagram.{Walk, Reachable}
use Rattle.diagram.specs.States.{Distinct}
use Rattle.diagram.proofs.Walks.{run, walk_run}
use Rattle.diagram.specs.Cycles.{states_along, CycleFrom}
use Rattle.graphs.specs.Rotation.{rotate}
use Rattle.graphs.proofs.Rotations.{rotate_length, rotate_at}
use Rattle.cycles.proofs.AlongLaws.{along_length, along_append, along_take, along_drop, walk_join, walk_take, walk_drop, reach_on}

-- the i-th latency of a rotation, repeated without end
pub rotate_latency : (l : List ℕ) (r i : ℕ) → r ≤ length l → 0 < length l → latency (rotate l r) i ≡ latency l (r + i)
rotate_latency l r i h b =
    ap (λ n. get_or (rotate l r) (i % n) 0) (rotate_length l r) ∙ rotate_at l r (i % length l) h (mod-lt i b)
    ∙ ap (λ x. get_or l x 0) (add-mod-mod r i (length l))

-- a rotation of a rotation
pub rotate_rotate : (l : List ℕ) (a b : ℕ) → a ≤ length l → b ≤ length l → 0 < length l → rotate (rotate l a) b ≡ rotate l ((a + b) % length l)
rotate_rotate l a b h k p =
    ext_get_or 0 (rotate (rotate l a) b) (rotate l ((a + b) % length l)) (long ∙ sym (rotate_length l ((a + b) % length l))) same
  where
    long : length (rotate (rotate l a) b) ≡ length l
    long = rotate_length (rotate l a) b ∙ rotate_length l a

    sums : (i : ℕ) → (a + (b + i) % length l) % length l ≡ ((a + b) % length l + i) % length l
    sums i =
        let e : a + (b + i) ≡ a + b + i = omega arith in
        add-mod-mod a (b + i) (length l) ∙ ap (λ x. x % length l) e ∙ sym (mod-add-mod (a + b) (length l) i)

    same : (i : ℕ) → i < length (rotate (rotate l a) b) → get_or (rotate (rotate l a) b) i 0 ≡ get_or (rotate l ((a + b) % length l)) i 0
    same i q =
        let n = rotate_length l a in
        let i-low : i < length l = omega (arith, long) in
        let m-low : (a + b) % length l < length l = mod-lt (a + b) p in
        rotate_at (rotate l a) b i (omega arith) (omega arith)
        ∙ ap (λ x. get_or (rotate l a) ((b + i) % x) 0) n
        ∙ rotate_at l a ((b + i) % length l) h (mod-lt (b + i) p)
        ∙ ap (λ x. get_or l x 0) (sums i)
        ∙ sym (rotate_at l ((a + b) % length l) i (omega arith) i-low)

-- Never colliding

-- the starts of a rotation are those of the cycle from its start r on
rotate_start : (l : List ℕ) (r : ℕ) → r ≤ length l → 0 < length l → (i : ℕ) → start_at l r + start_at (rotate l r) i ≡ start_at l (r + i)
rotate_start l r h p zero = rw (add-zero r) (omega arith)
rotate_start l r h p (suc i) = rw (add-suc r i) (omega (arith, rotate_start l r h p i, rotate_latency l r i h p))

pub rotate_never : (T : Table) (q : ℕ) (l : List ℕ) (r : ℕ) → r ≤ length l → 0 < length l → NeverCollides T q l → NeverCollides T q (rotate l r)
rotate_never T q l r h p never i j o c = never (r + i) (r + j) (omega arith) (record {
  segment = c.segment;
  time = start_at l r + c.time;
  one = later i c.one;
  other = later j c.other;
})
  where
    later : (k : ℕ) → Serves T c.segment c.time (task_at q (rotate l r) k) → Serves T c.segment (start_at l r + c.time) (task_at q l (r + k))
    later k s = record { column = s.column; marked = s.marked; moment = omega (arith, rotate_start l r h p k, s.moment) }

-- Walks

-- a closed walk, from another state of it on
pub record RotatedWalk (g n cv s : ℕ) (l : List ℕ) (r : ℕ) : Type 0 where
  pub state : ℕ
  pub closed : Walk g n cv state (rotate l r) state
  pub reached : Reachable g n cv s → Reachable g n cv state
  pub apart : Distinct (states_along cv s l) → Distinct (states_along cv state (rotate l r))

pub rotate_distinct : (l : List ℕ) (r : ℕ) → r ≤ length l → Distinct l → Distinct (rotate l r)
rotate_distinct l r h d i j o k e = go (dec_lt (r + i) (length l)) (dec_lt (r + j) (length l))
  where
    n : length (rotate l r) ≡ length l
    n = rotate_length l r

    same : get_or l ((r + i) % length l) 0 ≡ get_or l ((r + j) % length l) 0
    same = sym (rotate_at l r i h (omega (arith, n))) ∙ e ∙ rotate_at l r j h (omega (arith, n))

    below : (m : ℕ) → r + m < length l → (r + m) % length l ≡ r + m
    below m b = mod-eq_of_lt b

    above : (m : ℕ) → m < length l → length l ≤ r + m → (r + m) % length l ≡ r + m - length l
    above m b c =
        let f : r + m ≡ length l + (r + m - length l) = omega arith in
        ap (λ x. x % length l) f ∙ add-mod_left (length l) (r + m - length l) ∙ mod-eq_of_lt (omega arith)

    go : Dec (r + i < length l) → Dec (r + j < length l) → ⊥
    go (yes a) (yes b) = d (r + i) (r + j) (omega arith) b (sym (ap (λ x. get_or l x 0) (below i a)) ∙ same ∙ ap (λ x. get_or l x 0) (below j b))
    go (yes a) (no b) =
        let f = above j (omega (arith, n)) (omega arith) in
        d (r + j - length l) (r + i) (omega (arith, n)) a (sym (ap (λ x. get_or l x 0) f) ∙ sym same ∙ ap (λ x. get_or l x 0) (below i a))
    go (no a) (yes b) = omega arith
    go (no a) (no b) =
        let f = above i (omega (arith, n)) (omega arith) in
        let f' = above j (omega (arith, n)) (omega arith) in
        d (r + i - length l) (r + j - length l) (omega arith) (omega (arith, n)) (sym (ap (λ x. get_or l x 0) f) ∙ same ∙ ap (λ x. get_or l x 0) f')

-- the states along a rotation are those of the walk, rotated
rotate_along : {g n cv s : ℕ} {l : List ℕ} (r : ℕ) → Walk g n cv s l s
    → states_along cv (run cv s (take r l)) (rotate l r) ≡ rotate (states_along cv s l) r
rotate_along {cv = cv} {s} {l} r w =
    let m : ℕ = run cv s (take r l) in
    let back : run cv m (drop r l) ≡ s = walk_run (walk_drop r w) in
    along_append cv m (drop r l) (take r l)
    ∙ ap₂ (λ a b. a ++ b) (along_drop cv s r l) (ap (λ x. states_along cv x (take r l)) back ∙ along_take cv s r l)

pub rotate_walk : {g n cv s : ℕ} {l : List ℕ} (r : ℕ) → Walk g n cv s l s → r ≤ length l → RotatedWalk g n cv s l r
rotate_walk {cv = cv} {s} {l} r w h = record {
  state = run cv s (take r l);
  closed = walk_join (walk_drop r w) (walk_take r w);
  reached = λ p. reach_on p (walk_take r w);
  apart = λ d.
      subst Distinct (sym (rotate_along r w))
      (rotate_distinct (states_along cv s l) r (omega (arith, along_length cv s l)) d);
}

pub rotate_cycle : (g n cv : ℕ) (l : List ℕ) (r : ℕ) → CycleFrom g n cv l → r ≤ length l → CycleFrom g n cv (rotate l r)
rotate_cycle g n cv l r c h =
    let w = rotate_walk r c.closed h in
    record { state = w.state; reached = w.reached c.reached; closed = w.closed; apart = w.apart c.apart }
