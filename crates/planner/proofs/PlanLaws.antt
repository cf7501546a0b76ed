-- The bytes of a plan: latencies in front, zeros behind; the plan of a cycle that stands in the working words. Assumes nothing.
use Prim.Native.Nat.{ℕ, zero, suc, ◌+◌, ◌-◌, ◌≤◌, ◌<◌}
use mathlib.Core.Path.{◌≡◌, sym, ap, ap₂, ◌∙◌}
use mathlib.Core.List.{List, ◌++◌, append_assoc}
use native.Mathlib.Nat.{sub-zero, zero-sub}
use native.Mathlib.Omega.{arith}
use lib.ListN.{length, get_or, take, drop, replicate, length-replicate, length-drop}
use lib.Seq.{get_or-take, get_or-drop, length-take-le, take-length, take_at, drop_at}
use borrow.Rule.Slice.PartMut.{put_mid}
use Rattle.std.proofs.lemmas.List.{take-take, drop-drop, drop-take}
use Rattle.diagram.proofs.CopyLaws.{front}
use Rattle.unit.specs.declared.Plan.{Plan}
use Rattle.collision.specs.Pipeline.{total}
use Rattle.graphs.specs.Rotation.{rotate}
use Rattle.cycles.specs.Rotation.{first_rotation}
use Rattle.graphs.proofs.Rotations.{rotate_length, rotate_total}
use Rattle.cycles.proofs.OrderLaws.{first_inside}
use Rattle.mean_cycle.specs.declared.Cycle.{Cycle}
use Rattle.planner.specs.Plans.{plan_of}
use Rattle.planner.specs.Inner.{found, in_first_rotation, Small, Standing}

-- Zeros

pub drop_zeros : (i n : ℕ) → drop i (replicate n zero) ≡ replicate (n - i) 0
drop_zeros zero n = ap (λ k. replicate k 0) (sym (sub-zero n))
drop_zeros (suc i) zero = ap (λ k. replicate k 0) (sym (zero-sub (suc i)))
drop_zeros (suc i) (suc n) = let e : n - i ≡ suc n - suc i = omega arith in drop_zeros i n ∙ ap (λ k. replicate k 0) e

-- 256 of them
unfoldable pub zeros : List ℕ
zeros = replicate 256 0

pub zeros_length : length zeros ≡ 256
unfolding zeros
zeros_length = length-replicate {A = ℕ} 256 0

-- a list in front of zeros
pub front_zeros : (l : List ℕ) → front l zeros (length l) ≡ l ++ replicate (256 - length l) 0
unfolding zeros
front_zeros l = ap₂ (λ (a b : List ℕ). a ++ b) (take-length l) (drop_zeros (length l) 256)

-- the first n of b are copied to the front of zeros: from r on first, and those before r behind them
pub turned_front : (b x y : List ℕ) (n r : ℕ) → r ≤ n → n ≤ length b → x ≡ take (n - r) (drop r b) → y ≡ take r b
    → put_mid (n - r) (n - (n - r)) (x ++ drop (n - r) (replicate 256 0)) y ≡ rotate (take n b) r ++ replicate (256 - n) 0
turned_front b x y n r h k e f =
    let zero : List ℕ = replicate 256 0 in
    let m : ℕ = n - r in
    let whole : m + (n - m) ≡ n = omega arith in
    let parts : n ≡ r + m = omega arith in
    let size : length x ≡ m = ap length e ∙ length-take-le m (drop r b) (omega (arith, length-drop r b)) in
    let rest : drop (n - m) (drop m (x ++ drop m zero)) ≡ replicate (256 - n) 0 =
    ap (drop (n - m)) (drop_at x (drop m zero) m size) ∙ drop-drop (n - m) m zero ∙ ap (λ (k : ℕ). drop k zero) whole ∙ drop_zeros n 256
    in
    let from : drop r (take n b) ≡ x = ap (λ (k : ℕ). drop r (take k b)) parts ∙ drop-take r m b ∙ sym e in
    let before : take r (take n b) ≡ y = take-take r n b h ∙ sym f in
    ap₂ (λ (a c : List ℕ). a ++ (y ++ c)) (take_at x (drop m zero) m size) rest ∙ sym (append_assoc x y (replicate (256 - n) 0))
    ∙ ap₂ (λ (a c : List ℕ). (a ++ c) ++ replicate (256 - n) 0) (sym from) (sym before)

-- The latencies in the working words

pub found_length : (w : List ℕ) (count : ℕ) → Small w count → length (found w count) ≡ count
found_length w count s = length-take-le count (drop 1536 w) (rw (length-drop 1536 w) (omega (arith, s.room, s.few)))

pub found_at : (w : List ℕ) (count i : ℕ) → i < count → get_or (found w count) i 0 ≡ get_or w (1536 + i) 0
found_at w count i h = get_or-take count (drop 1536 w) i 0 h ∙ get_or-drop 1536 w i 0

-- The plan

-- the latencies are what stands in front of the zeros
pub bytes_front : (w bytes : List ℕ) (count : ℕ) → Small w count → bytes ≡ found w count ++ replicate (256 - count) 0 → take count bytes ≡ found w count
bytes_front w bytes count s e = ap (take count) e ∙ take_at (found w count) (replicate (256 - count) 0) count (found_length w count s)

pub first_below : (w bytes : List ℕ) (count first : ℕ) → 1 ≤ count → Small w count → bytes ≡ found w count ++ replicate (256 - count) 0
    → first ≡ first_rotation (take count bytes) → first < count
first_below w bytes count first some s e f =
    let n = found_length w count s in
    let i = first_inside (found w count) (omega arith) in
    omega (arith, i, n, f ∙ ap first_rotation (bytes_front w bytes count s e))

-- a cycle's bytes in the rotation that comes first are its plan's
pub plan_is : (q : ℕ) (w bytes latencies : List ℕ) (c : Cycle) (first : ℕ) → Standing w c → bytes ≡ found w c.count ++ replicate (256 - c.count) 0
    → first ≡ first_rotation (take c.count bytes) → latencies ≡ rotate (take c.count bytes) first ++ replicate (256 - c.count) 0
    → ◌≡◌ {A = Plan} (record { tag = q; count = c.count; sum = c.sum; latencies = latencies }) (plan_of q (in_first_rotation (found w c.count)))
plan_is q w bytes latencies c first s e f t = λ i. record { tag = q; count = long i; sum = adds i; latencies = same i }
  where
    l : List ℕ
    l = found w c.count

    front_is : take c.count bytes ≡ l
    front_is = bytes_front w bytes c.count s.latencies e

    long : c.count ≡ length (in_first_rotation l)
    long = sym (rotate_length l (first_rotation l) ∙ found_length w c.count s.latencies)

    adds : c.sum ≡ total (in_first_rotation l)
    adds = s.adds ∙ sym (rotate_total l (first_rotation l))

    same : latencies ≡ in_first_rotation l ++ replicate (256 - length (in_first_rotation l)) 0
    same =
        t ∙ ap₂ (λ (a : List ℕ) (r : ℕ). rotate a r ++ replicate (256 - c.count) 0) front_is (f ∙ ap first_rotation front_is)
        ∙ ap (λ k. in_first_rotation l ++ replicate (256 - k) 0) long
