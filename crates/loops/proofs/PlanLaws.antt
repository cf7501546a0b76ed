-- The latencies of a loop as bytes. Assumes nothing.
use mathlib.Core.Path.{◌≡◌, sym, ap, ap₂, ◌∙◌}
use mathlib.Core.List.{List, ◌++◌}
use Prim.Native.Nat.{ℕ, ◌+◌, ◌-◌, ◌<◌}
use native.Mathlib.Omega.{arith}
use lib.ListN.{length, get_or, take, drop, replicate, length-drop}
use lib.Seq.{get_or-take, get_or-drop, length-take-le, take_at, drop_at}
use Rattle.unit.specs.declared.Plan.{Plan}
use Rattle.graphs.specs.Rotation.{rotate}
use Rattle.graphs.proofs.Rotations.{rotate_length, rotate_total}
use Rattle.collision.specs.Pipeline.{total}
use Rattle.mean_cycle.specs.declared.Cycle.{Cycle}
use Rattle.planner.specs.Plans.{plan_of}
use Rattle.loops.specs.Inner.{cycle_in, Standing, Turnable, turn_of}

pub standing_length : (w : List ℕ) (count : ℕ) → Standing w count → length (cycle_in w count) ≡ count
standing_length w count s = length-take-le count (drop 1536 w) (rw (length-drop 1536 w) (omega (arith, s.room, s.few)))

pub standing_at : (w : List ℕ) (count i : ℕ) → i < count → get_or (cycle_in w count) i 0 ≡ get_or w (1536 + i) 0
standing_at w count i h = get_or-take count (drop 1536 w) i 0 h ∙ get_or-drop 1536 w i 0

-- a list that stands in front of zeros is turned there
pub turned_is : (l bytes y : List ℕ) (n r : ℕ) → length l ≡ n → bytes ≡ l ++ replicate (256 - n) 0 → y ≡ rotate (take n bytes) r
    → y ++ drop n bytes ≡ rotate l r ++ replicate (256 - n) 0
turned_is l bytes y n r size e f =
    ap₂ (λ (a b : List ℕ). a ++ b) (f ∙ ap (λ x. rotate x r) (ap (take n) e ∙ take_at l (replicate (256 - n) 0) n size))
    (ap (drop n) e ∙ drop_at l (replicate (256 - n) 0) n size)

-- the plan of a cycle
pub plan_is : (w : List ℕ) (len : ℕ) (c : Cycle) (latencies : List ℕ) (first : ℕ) → Turnable w len c → first ≡ turn_of w len c
    → latencies ≡ rotate (cycle_in w c.count) first ++ replicate (256 - c.count) 0
    → ◌≡◌ {A = Plan} (record { tag = 0; count = c.count; sum = c.sum; latencies = latencies }) (plan_of 0 (rotate (cycle_in w c.count) (turn_of w len c)))
plan_is w len c latencies first h e t =
    let l : List ℕ = cycle_in w c.count in
    let n : length (rotate (cycle_in w c.count) (turn_of w len c)) ≡ c.count = rotate_length (cycle_in w c.count) (turn_of w len c) ∙ standing_length w c.count h.standing in
    let s : c.sum ≡ total (rotate (cycle_in w c.count) (turn_of w len c)) = h.adds ∙ sym (rotate_total (cycle_in w c.count) (turn_of w len c)) in
    let b : latencies ≡ rotate (cycle_in w c.count) (turn_of w len c) ++ replicate (256 - length (rotate (cycle_in w c.count) (turn_of w len c))) 0 =
    t ∙ ap₂ (λ (r k : ℕ). rotate (cycle_in w c.count) r ++ replicate (256 - k) 0) e (sym n) in
    λ i. record { tag = 0; count = sym n i; sum = s i; latencies = b i }
