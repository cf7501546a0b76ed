-- What happens to the words as one state is included, one arc visited, one state's arcs followed. Assumes nothing.
use mathlib.Core.Path.{◌≡◌, refl, sym, ap, ◌∙◌, subst}
use mathlib.Core.Bool.{Bool, true, false, cond, not}
use mathlib.Core.List.{List, [], ◌∷◌, ◌++◌}
use Prim.Native.Nat.{ℕ, zero, suc, ◌+◌, ◌-◌, ◌/◌, ◌%◌, ◌^◌, ◌≤◌, ◌<◌}
use native.Mathlib.Nat.{mod-eq_of_lt, lt_of_lt_of_le}
use native.Mathlib.Numerals.{add-one}
use native.Mathlib.Omega.{arith}
use lib.Bits.{bit_or}
use lib.Pow.{pow_mono}
use lib.ListN.{length, take, length-append}
use lib.Seq.{get_or-take, length-take-le}
use Rattle.words.specs.Bits.{is_set, zero_from}
use Rattle.words.proofs.Tests.{T_true, true_T, not_passed}
use Rattle.words.proofs.ZeroLaws.{zero_least, zero_skips, zero_most, zero_clear}
use Rattle.diagram.specs.Diagram.{next, longest}
use Rattle.diagram.specs.States.{has, add, arc, expand}
use Rattle.diagram.specs.Work.{place_in, Indexed}
use Rattle.diagram.specs.Inner.{Confined, Grown, visited}
use Rattle.diagram.proofs.IndexLaws.{place_listed, place_some}
use Rattle.diagram.proofs.ListLaws.{has_listed, listed_has}
use Rattle.diagram.proofs.Listing.{visit, expand_end, expand_more, expand_extends}
use Rattle.diagram.proofs.StateLaws.{arc_test}

-- Words that stay, and words that go on

pub confined_same : (w : List ℕ) → Confined w w
confined_same w = record { size = refl; beyond = λ i h. refl }

pub confined_trans : {a b c : List ℕ} → Confined a b → Confined b c → Confined a c
confined_trans p q = record { size = q.size ∙ p.size; beyond = λ i h. q.beyond i h ∙ p.beyond i h }

pub listed_length_lem : (w : List ℕ) (k : ℕ) → Indexed w k → length (take k w) ≡ k
listed_length_lem w k r = let few = r.few in let room = r.room in length-take-le k w (omega arith)

pub grown_same : (w : List ℕ) (k : ℕ) → Indexed w k → Grown w w (take k w) k
grown_same w k r = record {
  confined = confined_same w;
  held = λ h. record { listed = refl; index = r };
  over = λ h. let few = r.few in absurd (omega arith);
}

-- One state is included

module _ (w : List ℕ) (k x r : ℕ) (index : Indexed w k) (told : r ≡ place_in w k x) where
  inside : (i : ℕ) → i < k → i < length (take k w)
  inside i h = omega (arith, listed_length_lem w k index)

  pub include_found : r < k → Grown w w (add x (take k w)) k
  include_found h =
      let at : place_in w k x < k = omega arith in
      let here : has x (take k w) ≡ true =
      T_true (has x (take k w)) (listed_has x (take k w) (place_in w k x) (inside (place_in w k x) at)
      (get_or-take k w (place_in w k x) 0 at ∙ place_listed w k index x at)) in
      rw here (grown_same w k index)

  module _ (none : k ≤ r) where
    include_new : add x (take k w) ≡ take k w ++ (x ∷ [])
    include_new = ap (λ b. cond b (take k w) (take k w ++ (x ∷ []))) (not_passed (has x (take k w)) missing)
      where
        missing : has x (take k w) ≡ true → ⊥
        missing e =
            let l = has_listed x (take k w) (true_T e) in
            let h : l.index < k = omega (arith, l.inside, listed_length_lem w k index) in
            omega (arith, place_some w k index x l.index h (sym (get_or-take k w l.index 0 h) ∙ l.found))

    pub include_full : 255 < k → Grown w w (add x (take k w)) 257
    include_full h = record {
      confined = confined_same w;
      held = λ l. absurd (omega arith);
      over = λ l. rw (include_new, length-append) (omega (arith, listed_length_lem w k index));
    }

    pub include_more : {after : List ℕ} → Grown w after (take k w ++ (x ∷ [])) (k + 1) → Grown w after (add x (take k w)) (k + 1)
    include_more g = rw include_new g

-- One arc is visited

pub visit_permitted : (cv s t k : ℕ) {w : List ℕ} {shifted r : ℕ} {after : List ℕ} → is_set s (t - 1) ≡ false → t < 64 → shifted ≡ s / 2 ^ (t % 64)
    → Grown w after (add (bit_or shifted cv) (take k w)) r → Grown w after (visited cv s t (take k w)) r
visit_permitted cv s t k {shifted = shifted} e h q g =
    let p : shifted ≡ s / 2 ^ t = q ∙ ap (λ n. s / 2 ^ n) (mod-eq_of_lt h) in
    rw e (rw p at g)

-- The arcs of one state are followed

-- what is left to do from the latency t on leads to the list that is asked
pub record Following (before w : List ℕ) (count found n cv s t : ℕ) : Type 0 where
  pub confined : Confined before w
  pub index : Indexed w found
  pub least : 1 ≤ t
  pub most : t ≤ n + 2
  pub rest : expand 1 n cv s t (n + 2 - t) (take found w) ≡ expand 1 n cv s 1 (longest 1 n) (take count before)

pub follow_start : (w : List ℕ) (count n cv s : ℕ) → Indexed w count → Following w w count count n cv s 1
follow_start w count n cv s index = record {
  confined = confined_same w;
  index = index;
  least = omega arith;
  most = omega arith;
  rest = let e : n + 2 - 1 ≡ longest 1 n = omega arith in ap (λ m. expand 1 n cv s 1 m (take count w)) e;
}

module _ {before w : List ℕ} {count found n cv s t : ℕ} (r : Following before w count found n cv s t) where
  pub follow_end : n + 1 < t → Grown before w (expand 1 n cv s 1 (longest 1 n) (take count before)) found
  follow_end h =
      let e : n + 2 - t ≡ 0 = omega arith in
      let same : take found w ≡ expand 1 n cv s 1 (longest 1 n) (take count before) =
      sym (expand_end 1 n cv s t (take found w)) ∙ ap (λ m. expand 1 n cv s t m (take found w)) (sym e) ∙ r.rest in
      record {
        confined = r.confined;
        held = λ l. record { listed = same; index = r.index };
        over = λ l. let few = r.index.few in absurd (omega arith);
      }

  module _ (small : s < 2 ^ n) (more : t ≤ n + 1) {after : List ℕ} {k : ℕ} (g : Grown w after (visited cv s t (take found w)) k) where
    -- the column's test is the diagram's
    visit_same : visited cv s t (take found w) ≡ visit 1 n cv s t (take found w)
    visit_same =
        let e = arc_test n s t small r.least more in
        go (is_set s (t - 1)) ∙ ap (λ b. cond b (add (next cv s t) (take found w)) (take found w)) (sym e)
      where
        go : (b : Bool) → cond b (take found w) (add (next cv s t) (take found w)) ≡ cond (not b) (add (next cv s t) (take found w)) (take found w)
        go true = refl
        go false = refl

    one_on : expand 1 n cv s (suc t) (n + 2 - suc t) (visited cv s t (take found w)) ≡ expand 1 n cv s 1 (longest 1 n) (take count before)
    one_on =
        let e : suc (n + 2 - suc t) ≡ n + 2 - t = omega arith in
        ap (expand 1 n cv s (suc t) (n + 2 - suc t)) visit_same
        ∙ sym (expand_more 1 n cv s t (n + 2 - suc t) (take found w))
        ∙ ap (λ m. expand 1 n cv s t m (take found w)) e ∙ r.rest

    pub follow_more : k ≤ 256 → Following before after count k n cv s (t + 1)
    follow_more h =
        let held = g.held h in
        let e : t + 1 ≡ suc t = add-one t in
        record {
          confined = confined_trans r.confined g.confined;
          index = held.index;
          least = omega arith;
          most = omega arith;
          rest = ap (λ u. expand 1 n cv s u (n + 2 - u) (take k after)) e ∙ ap (expand 1 n cv s (suc t) (n + 2 - suc t)) held.listed ∙ one_on;
        }

    pub follow_over : 256 < k → Grown before after (expand 1 n cv s 1 (longest 1 n) (take count before)) k
    follow_over h = record {
      confined = confined_trans r.confined g.confined;
      held = λ l. absurd (omega arith);
      over = λ l. subst (λ m. 256 < length m) one_on
          (lt_of_lt_of_le (g.over h) (expand_extends 1 n cv s (suc t) (n + 2 - suc t) (visited cv s t (take found w))).longer);
    }

-- Columns that are 1 are passed over

-- m latencies from t on, of which none has an arc
expand_none : (n cv s t m k : ℕ) (l : List ℕ) → s < 2 ^ n → 1 ≤ t → t + m ≤ n + 2 → ((i : ℕ) → t ≤ i → i < t + m → is_set s (i - 1) ≡ true)
    → expand 1 n cv s t (m + k) l ≡ expand 1 n cv s (t + m) k l
expand_none n cv s t zero k l small some most set = let e : t + 0 ≡ t = omega arith in let f : 0 + k ≡ k = omega arith in rw (e, f)
expand_none n cv s t (suc m) k l small some most set =
    let e : suc m + k ≡ suc (m + k) = omega arith in
    let f : suc t + m ≡ t + suc m = omega arith in
    let off : arc 1 n s t ≡ false = arc_test n s t small some (omega arith) ∙ ap not (set t (omega arith) (omega arith)) in
    ap (λ j. expand 1 n cv s t j l) e
    ∙ expand_more 1 n cv s t (m + k) l
    ∙ ap (λ b. expand 1 n cv s (suc t) (m + k) (cond b (add (next cv s t) l) l)) off
    ∙ expand_none n cv s (suc t) m k l small (omega arith) (omega arith) (λ i h o. set i (omega arith) (omega arith))
    ∙ ap (λ j. expand 1 n cv s j k l) f

pub follow_skip : {before w : List ℕ} {count found n cv s t : ℕ} (u : ℕ) → Following before w count found n cv s t → s < 2 ^ n → t ≤ u → u ≤ n + 2
    → ((i : ℕ) → t ≤ i → i < u → is_set s (i - 1) ≡ true) → Following before w count found n cv s u
follow_skip {before} {w} {count} {found} {n} {cv} {s} {t} u r small le most set =
    let m : ℕ = u - t in
    let e : t + (u - t) ≡ u = omega arith in
    let f : n + 2 - t ≡ (u - t) + (n + 2 - u) = omega arith in
    record {
      confined = r.confined;
      index = r.index;
      least = omega (arith, r.least);
      most = most;
      rest =
          ap (λ j. expand 1 n cv s j (n + 2 - u) (take found w)) (sym e)
          ∙ sym (expand_none n cv s t (u - t) (n + 2 - u) (take found w) small r.least (omega arith) (λ i h o. set i h (omega arith)))
          ∙ ap (λ j. expand 1 n cv s t j (take found w)) (sym f)
          ∙ r.rest;
    }

-- the next column that is 0, from index k on
pub follow_next : {before w : List ℕ} {count found n cv s t : ℕ} (k z : ℕ) → Following before w count found n cv s t → t ≡ k + 1 → s < 2 ^ n → t ≤ n + 2
    → z ≡ zero_from s k → Following before w count found n cv s (z + 1)
follow_next {n = n} {s = s} k z r at small most e =
    let a = zero_least s k in
    let b = zero_most s n k small in
    follow_skip (z + 1) r small (omega arith) (omega arith) (λ i h o. zero_skips s k (i - 1) (omega arith) (omega arith))

pub follow_past : {before w : List ℕ} {count found n cv s t : ℕ} (k z : ℕ) → Following before w count found n cv s t → z ≡ zero_from s k → k ≤ z
follow_past {s = s} k z r e = omega (arith, zero_least s k)

-- and that column is 0
pub follow_free : {before w : List ℕ} {count found n cv s t : ℕ} (k z : ℕ) → Following before w count found n cv s t → s < 2 ^ n → n ≤ 32 → z ≡ zero_from s k
    → is_set s (z + 1 - 1) ≡ false
follow_free {s = s} k z r small narrow e =
    let f : z + 1 - 1 ≡ zero_from s k = omega arith in
    ap (is_set s) f ∙ zero_clear s k (lt_of_lt_of_le small (pow_mono narrow))
