-- The walk along the links of a bucket, step by step: what `place` does, turn by turn. Assumes nothing.
use mathlib.Core.Path.{◌≡◌, refl, sym, ap, ◌∙◌}
use mathlib.Core.Bool.{Bool, true, false, cond}
use mathlib.Core.List.{List}
use Prim.Native.Nat.{ℕ, zero, suc, ◌-◌, ◌≤◌, ◌<◌}
use native.Mathlib.Nat.{not-suc-le-zero}
use native.Mathlib.Omega.{arith}
use lib.Dec.{ltb, eqb}
use lib.ListN.{length}
use borrow.Author.Tests.{ltb-true, lt-ltb, le-ltb, le-leb, lt-leb, eq-eqb, ne_eqb}
use Rattle.diagram.specs.Work.{state_in, head_in, link_in, bucket, along, place_in}

-- The cases of a step, with any number of steps left

pub along_end : (f : ℕ) (w : List ℕ) (k x : ℕ) → along f w k x 0 ≡ k
unfolding along
along_end zero w k x = refl
along_end (suc f) w k x = refl

module _ (f : ℕ) (w : List ℕ) (k x at : ℕ) (some : 0 < at) where
  pub along_here : state_in w (at - 1) ≡ x → along (suc f) w k x at ≡ at - 1
  unfolding along
  along_here e = rw (ne_eqb at 0 (λ z. omega arith), eq-eqb (state_in w (at - 1)) x e)

  pub along_stop : (state_in w (at - 1) ≡ x → ⊥) → at ≤ link_in w (at - 1) → along (suc f) w k x at ≡ k
  unfolding along
  along_stop ne h = rw (ne_eqb at 0 (λ z. omega arith), ne_eqb (state_in w (at - 1)) x ne, le-ltb (link_in w (at - 1)) at h)

  pub along_more : (state_in w (at - 1) ≡ x → ⊥) → link_in w (at - 1) < at → along (suc f) w k x at ≡ along f w k x (link_in w (at - 1))
  unfolding along
  along_more ne h = rw (ne_eqb at 0 (λ z. omega arith), ne_eqb (state_in w (at - 1)) x ne, lt-ltb (link_in w (at - 1)) at h)

cond_cong : (b : Bool) (x y z : ℕ) → (b ≡ true → x ≡ y) → cond b x z ≡ cond b y z
cond_cong true x y z h = h refl
cond_cong false x y z h = refl

-- links fall, so any number of steps above the place is enough
along_enough : (f h : ℕ) (w : List ℕ) (k x at : ℕ) → at < f → at < h → along f w k x at ≡ along h w k x at
unfolding along
along_enough zero h w k x at p q = absurd (not-suc-le-zero p)
along_enough (suc f) zero w k x at p q = absurd (not-suc-le-zero q)
along_enough (suc f) (suc h) w k x at p q =
    let link : ℕ = link_in w (at - 1) in
    ap (λ (m : ℕ). cond (eqb at 0) k (cond (eqb (state_in w (at - 1)) x) (at - 1) m))
    (cond_cong (ltb link at) (along f w k x link) (along h w k x link) k
    (λ e. let l : link < at = ltb-true link at e in along_enough f h w k x link (omega arith) (omega arith)))

-- The turns of the walk

-- the answer is what the links from at - 1 on lead to
pub record Walking (w : List ℕ) (k x at : ℕ) : Type 0 where
  pub room : 768 ≤ length w
  pub low : at ≤ 256
  pub same : place_in w k x ≡ along 257 w k x at

module _ (w : List ℕ) (k x : ℕ) where
  pub place_short : length w < 768 → k ≡ place_in w k x
  unfolding place_in
  place_short h = rw (lt-leb 768 (length w) h)

  module _ (room : 768 ≤ length w) (b : ℕ) (e : b ≡ bucket x) where
    pub place_far : 256 < head_in w b → k ≡ place_in w k x
    unfolding place_in
    place_far l = let far = rw e at l in rw (le-leb 768 (length w) room, lt-leb (head_in w (bucket x)) 256 far)

    pub walk_start : head_in w b ≤ 256 → Walking w k x (head_in w b)
    unfolding place_in
    walk_start l =
        let low = rw e at l in
        record { room = room; low = l; same = rw (e, le-leb 768 (length w) room, le-leb (head_in w (bucket x)) 256 low) }

  pub walk_end : (at : ℕ) → Walking w k x at → at ≤ 0 → k ≡ place_in w k x
  walk_end at r h =
      let e : at ≡ 0 = omega arith in
      sym (r.same ∙ ap (along 257 w k x) e ∙ along_end 257 w k x)

  module _ (at : ℕ) (r : Walking w k x at) (some : 0 < at) where
    pub walk_here : state_in w (at - 1) ≡ x → at - 1 ≡ place_in w k x
    walk_here e = sym (r.same ∙ along_here 256 w k x at some e)

    module _ (other : state_in w (at - 1) ≡ x → ⊥) where
      pub walk_stop : at ≤ link_in w (at - 1) → k ≡ place_in w k x
      walk_stop h = sym (r.same ∙ along_stop 256 w k x at some other h)

      pub walk_more : link_in w (at - 1) < at → Walking w k x (link_in w (at - 1))
      walk_more h = record {
        room = r.room;
        low = omega arith;
        same = r.same ∙ along_more 256 w k x at some other h ∙ along_enough 256 257 w k x (link_in w (at - 1)) (omega arith) (omega arith);
      }
