-- The index finds a listed state at its place and no other. Assumes nothing.
use mathlib.Core.Path.{◌≡◌, refl, sym, ap, ◌∙◌, subst}
use mathlib.Core.List.{List}
use Prim.Native.Nat.{ℕ, zero, suc, ◌+◌, ◌-◌, ◌≤◌, ◌<◌}
use native.Mathlib.Nat.{not-suc-le-zero}
use native.Mathlib.Decide.{dec_lt, ℕ_discrete}
use native.Mathlib.Omega.{arith}
use lib.ListN.{length, get_or, take}
use lib.Seq.{get_or-take, length-take-le}
use Rattle.diagram.specs.States.{Distinct}
use Rattle.diagram.specs.Work.{state_in, head_in, link_in, bucket, along, place_in, Indexed}
use Rattle.diagram.proofs.PlaceLaws.{along_end, along_here, along_more, walk_start}

pub bucket_lt : (x : ℕ) → bucket x < 256
bucket_lt x = omega arith

-- a walk ends at the number of states, or at a place where the state stands
pub data Ended (w : List ℕ) (k x r : ℕ) : Type 0 where
  missed : r ≡ k → Ended w k x r
  stands : r < k → state_in w r ≡ x → Ended w k x r

module _ (w : List ℕ) (k : ℕ) (index : Indexed w k) (x : ℕ) where
  along_ended : (f at : ℕ) → at < f → at ≤ k → Ended w k x (along f w k x at)
  along_ended zero at p l = absurd (not-suc-le-zero p)
  along_ended (suc f) at p l = go (along_ended f) (dec_lt 0 at) (ℕ_discrete (state_in w (at - 1)) x)
    where
      go : ((at : ℕ) → at < f → at ≤ k → Ended w k x (along f w k x at)) → Dec (0 < at) → Dec (state_in w (at - 1) ≡ x)
          → Ended w k x (along (suc f) w k x at)
      go more (no z) d =
          let e : at ≡ 0 = omega arith in
          rw e (missed (along_end (suc f) w k x))
      go more (yes s) (yes e) = rw (along_here f w k x at s e) (stands (omega arith) e)
      go more (yes s) (no ne) =
          let h = index.link_low (at - 1) (omega arith) in
          rw (along_more f w k x at s ne (omega arith)) (more (link_in w (at - 1)) (omega arith) (omega arith))

  same_place : place_in w k x ≡ along 257 w k x (head_in w (bucket x))
  same_place =
      let h = index.head_low (bucket x) (bucket_lt x) in
      let few = index.few in
      (walk_start w k x index.room (bucket x) refl (omega arith)).same

  pub place_ended : Ended w k x (place_in w k x)
  place_ended =
      let h = index.head_low (bucket x) (bucket_lt x) in
      let few = index.few in
      rw same_place (along_ended 257 (head_in w (bucket x)) (omega arith) h)

  pub place_le : place_in w k x ≤ k
  place_le = go (place_in w k x) place_ended
    where
      go : (r : ℕ) → Ended w k x r → r ≤ k
      go r (missed e) = omega arith
      go r (stands h e) = omega arith

  pub place_listed : place_in w k x < k → state_in w (place_in w k x) ≡ x
  place_listed = go (place_in w k x) place_ended
    where
      go : (r : ℕ) → Ended w k x r → r < k → state_in w r ≡ x
      go r (missed e) l = absurd (omega arith)
      go r (stands h e) l = e

  pub place_none : ((i : ℕ) → i < k → state_in w i ≡ x → ⊥) → place_in w k x ≡ k
  place_none other = go (place_in w k x) place_ended
    where
      go : (r : ℕ) → Ended w k x r → r ≡ k
      go r (missed e) = e
      go r (stands h e) = absurd (other r h e)

  module _ (i : ℕ) (inside : i < k) (here : state_in w i ≡ x) where
    -- a walk in the bucket of x that begins above the place i does not end below it
    along_some : (f at : ℕ) → at < f → at ≤ k → (0 < at → bucket (state_in w (at - 1)) ≡ bucket x) → i < at → along f w k x at < k
    along_some zero at p l b q = absurd (not-suc-le-zero p)
    along_some (suc f) at p l b q = go (along_some f) (ℕ_discrete (state_in w (at - 1)) x)
      where
        go : ((at : ℕ) → at < f → at ≤ k → (0 < at → bucket (state_in w (at - 1)) ≡ bucket x) → i < at → along f w k x at < k)
            → Dec (state_in w (at - 1) ≡ x) → along (suc f) w k x at < k
        go more (yes s) = rw (along_here f w k x at (omega arith) s) (omega arith)
        go more (no s) =
            let same : bucket (state_in w (at - 1)) ≡ bucket x = b (omega arith) in
            let h = index.link_low (at - 1) (omega arith) in
            rw (along_more f w k x at (omega arith) s (omega arith))
            (more (link_in w (at - 1)) (omega arith) (omega arith) (λ pos. index.link_bucket (at - 1) (omega arith) pos ∙ same)
            (below same (λ e. s (ap (state_in w) e ∙ here)) (dec_lt i (link_in w (at - 1)))))
          where
            below : bucket (state_in w (at - 1)) ≡ bucket x → (at - 1 ≡ i → ⊥) → Dec (i < link_in w (at - 1)) → i < link_in w (at - 1)
            below same ne (yes h) = h
            below same ne (no h) = absurd (index.link_last (at - 1) (omega arith) i (omega arith) (omega arith) (ap bucket here ∙ sym same))

    pub place_some : place_in w k x < k
    place_some =
        let h = index.head_low (bucket x) (bucket_lt x) in
        let few = index.few in
        rw same_place
        (along_some 257 (head_in w (bucket x)) (omega arith) h (index.head_bucket (bucket x) (bucket_lt x)) (below (dec_lt i (head_in w (bucket x)))))
      where
        below : Dec (i < head_in w (bucket x)) → i < head_in w (bucket x)
        below (yes h) = h
        below (no h) = absurd (index.head_last (bucket x) (bucket_lt x) i (omega arith) inside (ap bucket here))

    pub place_found : Distinct (take k w) → place_in w k x ≡ i
    place_found distinct = go (dec_lt (place_in w k x) i) (dec_lt i (place_in w k x))
      where
        apart : (a b : ℕ) → a < b → b < k → state_in w a ≡ x → state_in w b ≡ x → ⊥
        apart a b l m p q =
            let few = index.few in
            let room = index.room in
            distinct a b l (omega (arith, length-take-le k w (omega arith)))
            (get_or-take k w a 0 (omega arith) ∙ p ∙ sym q ∙ sym (get_or-take k w b 0 m))

        go : Dec (place_in w k x < i) → Dec (i < place_in w k x) → place_in w k x ≡ i
        go (yes l) m = absurd (apart (place_in w k x) i l inside (place_listed place_some) here)
        go (no l) (yes m) = absurd (apart i (place_in w k x) m place_some here (place_listed place_some))
        go (no l) (no m) = omega arith

-- The index stays right where only words behind it change

pub index_kept : {w w' : List ℕ} (k : ℕ) → length w' ≡ length w → ((i : ℕ) → i < 768 → get_or w' i 0 ≡ get_or w i 0) → Indexed w k → Indexed w' k
index_kept {w} {w'} k size same h = record {
  room = omega (arith, size, h.room);
  few = h.few;
  head_low = λ b l. subst (λ (x : ℕ). x ≤ k) (sym (same (256 + b) (omega arith))) (h.head_low b l);
  head_bucket = λ b l m.
      let e = same (256 + b) (omega arith) in
      let r : 0 < head_in w b = omega arith in
      ap bucket (ap (λ (x : ℕ). state_in w' (x - 1)) e ∙ same (head_in w b - 1) (omega (arith, h.head_low b l, h.few))) ∙ h.head_bucket b l r;
  head_last = λ b l j m o e.
      h.head_last b l j (subst (λ (x : ℕ). x ≤ j) (same (256 + b) (omega arith)) m) o
      (ap bucket (sym (same j (omega (arith, h.few)))) ∙ e);
  link_low = λ i l. subst (λ (x : ℕ). x ≤ i) (sym (same (512 + i) (omega (arith, h.few)))) (h.link_low i l);
  link_bucket = λ i l m.
      let e = same (512 + i) (omega (arith, h.few)) in
      let r : 0 < link_in w i = omega arith in
      ap bucket (ap (λ (x : ℕ). state_in w' (x - 1)) e ∙ same (link_in w i - 1) (omega (arith, h.link_low i l, h.few)))
      ∙ h.link_bucket i l r
      ∙ ap bucket (sym (same i (omega (arith, h.few))));
  link_last = λ i l j m o e.
      h.link_last i l j (subst (λ (x : ℕ). x ≤ j) (same (512 + i) (omega (arith, h.few))) m) o
      (ap bucket (sym (same j (omega (arith, h.few)))) ∙ e ∙ ap bucket (same i (omega (arith, h.few))));
}
