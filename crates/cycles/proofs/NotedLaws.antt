-- The turns of the loop that copies latencies to the bytes and adds them up. Assumes nothing.
use mathlib.Core.Path.{◌≡◌, sym, ap, ◌∙◌}
use mathlib.Core.List.{List}
use Prim.Native.Nat.{ℕ, ◌+◌, ◌*◌, ◌≤◌, ◌<◌}
use native.Mathlib.Omega.{arith}
use lib.ListN.{length, get_or, set, take, drop, length-drop}
use lib.Seq.{get_or-take, get_or-drop, length-take-le}
use Rattle.collision.specs.Pipeline.{total}
use Rattle.collision.proofs.StartLaws.{sum_more}
use Rattle.diagram.proofs.CopyLaws.{front, front_more}
use Rattle.cycles.specs.Inner.{noted_in, Copyable}

-- i latencies are copied, and this is their sum
pub record Copying (w : List ℕ) (from count : ℕ) (before out : List ℕ) (sum i : ℕ) : Type 0 where
  pub most : i ≤ count
  pub bytes : out ≡ front (noted_in w from count) before i
  pub adds : sum ≡ total (take i (noted_in w from count))
  pub small : sum ≤ 33 * i

module _ (w : List ℕ) (from count : ℕ) (before : List ℕ) (h : Copyable w from count (length before)) where
  long : length (noted_in w from count) ≡ count
  long = length-take-le count (drop from w) (omega (arith, length-drop from w, h.inside))

  noted_at : (i : ℕ) → i < count → get_or (noted_in w from count) i 0 ≡ get_or w (from + i) 0
  noted_at i l = get_or-take count (drop from w) i 0 l ∙ get_or-drop from w i 0

  module _ (out : List ℕ) (sum i : ℕ) (r : Copying w from count before out sum i) where
    pub copy_more : i < count → Copying w from count before (set out i (get_or w (from + i) 0)) (sum + get_or w (from + i) 0) (i + 1)
    copy_more l = record {
      most = omega arith;
      bytes =
          ap (λ x. set x i (get_or w (from + i) 0)) r.bytes
          ∙ ap (set (front (noted_in w from count) before i) i) (sym (noted_at i l))
          ∙ front_more (noted_in w from count) before i (omega (arith, long)) (omega (arith, h.fits));
      adds = ap (λ x. sum + x) (sym (noted_at i l)) ∙ sum_more (noted_in w from count) i sum (omega (arith, long)) r.adds;
      small = omega (arith, r.small, h.low i l);
    }
