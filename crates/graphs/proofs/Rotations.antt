-- Rotations of a list, and a cycle from another of its states on. Assumes nothing.
use mathlib.Core.Path.{◌≡◌, refl, sym, ap, ap₂, ◌∙◌, subst}
use mathlib.Core.List.{List, [], ◌∷◌, ◌++◌}
use Prim.Native.Nat.{ℕ, zero, suc, ◌+◌, ◌-◌, ◌%◌, ◌≤◌, ◌<◌}
use native.Mathlib.Nat.{add-mod_left, mod-eq_of_lt}
use native.Mathlib.Decide.{dec_lt}
use native.Mathlib.Omega.{arith}
use lib.ListN.{length, get_or, take, drop, length-append, length-take, length-drop, take-append-drop, get_or-append}
use lib.Seq.{get_or-take, get_or-drop, get_or-append-add}
use Rattle.collision.specs.Pipeline.{total}
use Rattle.graphs.specs.Graph.{Graph, Walk, Distinct, states_along, CycleAt}
use Rattle.graphs.specs.Rotation.{rotate}
use Rattle.graphs.proofs.Walks.{run, walk_run, walk_join, walk_take, walk_drop, reach_along}

pub rotate_length : {A : Type 0} (l : List A) (r : ℕ) → length (rotate l r) ≡ length l
rotate_length l r = rw (length-append (drop r l) (take r l), length-drop r l, length-take r l) (omega arith)

total_append : (a b : List ℕ) → total (a ++ b) ≡ total a + total b
total_append [] b = omega arith
total_append (t ∷ a) b = omega (arith, total_append a b)

pub rotate_total : (l : List ℕ) (r : ℕ) → total (rotate l r) ≡ total l
rotate_total l r = omega (arith, total_append (drop r l) (take r l), total_append (take r l) (drop r l), ap total (take-append-drop r l))

module _ {A : Type 0} (l : List A) (r : ℕ) (d : A) where
  -- the i-th of a rotation, before the seam and after it
  pub rotate_low : (i : ℕ) → r + i < length l → get_or (rotate l r) i d ≡ get_or l (r + i) d
  rotate_low i h = get_or-append (drop r l) (take r l) d i (omega (arith, length-drop r l)) ∙ get_or-drop r l i d

  pub rotate_high : (i : ℕ) → r ≤ length l → i < length l → length l ≤ r + i → get_or (rotate l r) i d ≡ get_or l (r + i - length l) d
  rotate_high i k b h =
      let m : ℕ = r + i - length l in
      let e : i ≡ length (drop r l) + m = omega (arith, length-drop r l) in
      ap (λ x. get_or (rotate l r) x d) e ∙ get_or-append-add (drop r l) (take r l) m d ∙ get_or-take r l m d (omega arith)

pub rotate_at : (l : List ℕ) (r i : ℕ) → r ≤ length l → i < length l → get_or (rotate l r) i 0 ≡ get_or l ((r + i) % length l) 0
rotate_at l r i h b = go (dec_lt (r + i) (length l))
  where
    go : Dec (r + i < length l) → get_or (rotate l r) i 0 ≡ get_or l ((r + i) % length l) 0
    go (yes k) = rotate_low l r 0 i k ∙ ap (λ m. get_or l m 0) (sym (mod-eq_of_lt k))
    go (no k) =
        let m : ℕ = r + i - length l in
        let f : r + i ≡ length l + m = omega arith in
        let w : (r + i) % length l ≡ m = ap (λ x. x % length l) f ∙ add-mod_left (length l) m ∙ mod-eq_of_lt (omega arith) in
        rotate_high l r 0 i h b (omega arith) ∙ ap (λ x. get_or l x 0) (sym w)

module _ (G : Graph) where
  pub rotate_distinct : (l : List G.State) (r : ℕ) → r ≤ length l → Distinct G l → Distinct G (rotate l r)
  rotate_distinct l r h d i j o k e = go (dec_lt (r + i) (length l)) (dec_lt (r + j) (length l))
    where
      n : length (rotate l r) ≡ length l
      n = rotate_length l r

      low : (m : ℕ) → r + m < length l → get_or (rotate l r) m G.first ≡ get_or l (r + m) G.first
      low m b = rotate_low l r G.first m b

      high : (m : ℕ) → m < length l → length l ≤ r + m → get_or (rotate l r) m G.first ≡ get_or l (r + m - length l) G.first
      high m b c = rotate_high l r G.first m h b c

      go : Dec (r + i < length l) → Dec (r + j < length l) → ⊥
      go (yes a) (yes b) = d (r + i) (r + j) (omega arith) b (sym (low i a) ∙ e ∙ low j b)
      go (yes a) (no b) = d (r + j - length l) (r + i) (omega (arith, n)) a (sym (high j (omega (arith, n)) (omega arith)) ∙ sym e ∙ low i a)
      go (no a) (yes b) = omega arith
      go (no a) (no b) =
          d (r + i - length l) (r + j - length l) (omega arith) (omega (arith, n))
          (sym (high i (omega (arith, n)) (omega arith)) ∙ e ∙ high j (omega (arith, n)) (omega arith))

  -- The states along labels

  pub along_length : (s : G.State) (l : List ℕ) → length (states_along G s l) ≡ length l
  along_length s [] = refl
  along_length s (t ∷ l) = ap suc (along_length (G.next s t) l)

  along_append : (s : G.State) (a b : List ℕ) → states_along G s (a ++ b) ≡ states_along G s a ++ states_along G (run G s a) b
  along_append s [] b = refl
  along_append s (t ∷ a) b = ap (λ (l : List G.State). s ∷ l) (along_append (G.next s t) a b)

  along_take : (s : G.State) (r : ℕ) (l : List ℕ) → states_along G s (take r l) ≡ take r (states_along G s l)
  along_take s zero l = refl
  along_take s (suc r) [] = refl
  along_take s (suc r) (t ∷ l) = ap (λ (k : List G.State). s ∷ k) (along_take (G.next s t) r l)

  along_drop : (s : G.State) (r : ℕ) (l : List ℕ) → states_along G (run G s (take r l)) (drop r l) ≡ drop r (states_along G s l)
  along_drop s zero l = refl
  along_drop s (suc r) [] = refl
  along_drop s (suc r) (t ∷ l) = along_drop (G.next s t) r l

  rotate_along : (s : G.State) (l : List ℕ) (r : ℕ) → Walk G s l s → states_along G (run G s (take r l)) (rotate l r) ≡ rotate (states_along G s l) r
  rotate_along s l r w =
      let m : G.State = run G s (take r l) in
      let back : run G m (drop r l) ≡ s = walk_run G (walk_drop G r w) in
      along_append m (drop r l) (take r l)
      ∙ ap₂ (λ (a b : List G.State). a ++ b) (along_drop s r l) (ap (λ (x : G.State). states_along G x (take r l)) back ∙ along_take s r l)

  -- a cycle, from its r-th state on
  pub rotate_cycle : (s : G.State) (l : List ℕ) (r : ℕ) → r ≤ length l → CycleAt G s l → CycleAt G (run G s (take r l)) (rotate l r)
  rotate_cycle s l r h c =
      record {
        reached = reach_along G c.reached (walk_take G r c.closed);
        closed = walk_join G (walk_drop G r c.closed) (walk_take G r c.closed);
        apart =
            subst (Distinct G) (sym (rotate_along s l r c.closed))
            (rotate_distinct (states_along G s l) r (omega (arith, along_length s l)) c.apart);
      }
