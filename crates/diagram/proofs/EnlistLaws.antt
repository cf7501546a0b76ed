-- What happens to the words as the listed states are expanded in turn, and what is listed in the end. Assumes nothing.
use mathlib.Core.Path.{◌≡◌, refl, sym, ap, ◌∙◌, subst}
use mathlib.Core.Bool.{cond, ◌&&◌}
use mathlib.Core.List.{List, [], ◌∷◌}
use Prim.Native.Nat.{ℕ, suc, ◌+◌, ◌-◌, ◌^◌, ◌≤◌, ◌<◌}
use native.Mathlib.Nat.{lt_of_lt_of_le, not-suc-le-zero}
use native.Mathlib.Numerals.{add-one}
use native.Mathlib.Omega.{arith}
use lib.Dec.{leb}
use lib.ListN.{length, take}
use lib.Seq.{get_or-take}
use borrow.Author.Tests.{lt-leb}
use Rattle.diagram.specs.Diagram.{width, longest}
use Rattle.diagram.specs.States.{Each, expand, list_from, states}
use Rattle.diagram.specs.Work.{state_in, Indexed, enlist_answer, Enlisted}
use Rattle.diagram.specs.Inner.{Confined, Held, Grown, Ready}
use Rattle.diagram.proofs.WidthLaws.{width_le, width_lt}
use Rattle.diagram.proofs.ListLaws.{append_each}
use Rattle.diagram.proofs.Listing.{expand_extends, expand_each, list_more, list_end, list_extends}
use Rattle.diagram.proofs.StateLaws.{next_lt}
use Rattle.diagram.proofs.ManyLaws.{answer_many, answer_all}
use Rattle.diagram.proofs.FollowLaws.{confined_same, confined_trans, listed_length_lem}

pub grown_after : {a b c l : List ℕ} {r : ℕ} → Confined a b → Grown b c l r → Grown a c l r
grown_after p g = record { confined = confined_trans p g.confined; held = g.held; over = g.over }

-- The listed states are expanded in turn

-- what is left to do from the state at the place on leads to the list of all states
pub record Exploring (before w : List ℕ) (cv n count at : ℕ) : Type 0 where
  pub wide : n ≡ width cv
  pub first : cv < 2 ^ n
  pub confined : Confined before w
  pub index : Indexed w count
  pub reached : at ≤ count
  pub small : Each (λ s. s < 2 ^ n) (take count w)
  pub rest : list_from 1 n cv (257 - at) at (take count w) ≡ states 256 1 n cv

pub explore_start : (w : List ℕ) (cv n : ℕ) → n ≡ width cv → cv < 2 ^ 32 → Held w 1 (cv ∷ []) → Exploring w w cv n 1 0
explore_start w cv n e h held =
    let first : cv < 2 ^ n = rw e (width_lt cv h) in
    record {
      wide = e;
      first = first;
      confined = confined_same w;
      index = held.index;
      reached = omega arith;
      small = subst (Each (λ s. s < 2 ^ n)) (sym held.listed) (append_each (λ s. s < 2 ^ n) [] cv (λ i l. absurd (not-suc-le-zero l)) first);
      rest = ap (list_from 1 n cv 257 0) held.listed;
    }

module _ {before w : List ℕ} {cv n count at : ℕ} (r : Exploring before w cv n count at) where
  pub explore_end : count ≤ at → Grown before w (states 256 1 (width cv) cv) count
  explore_end h =
      let all : take count w ≡ states 256 1 n cv =
      sym (list_end 1 n cv (257 - at) at (take count w) (omega (arith, listed_length_lem w count r.index))) ∙ r.rest in
      record {
        confined = r.confined;
        held = λ l. record { listed = all ∙ ap (λ m. states 256 1 m cv) r.wide; index = r.index };
        over = λ l. let few = r.index.few in absurd (omega arith);
      }

  module _ (more : at < count) where
    state_small : state_in w at < 2 ^ n
    state_small = subst (λ s. s < 2 ^ n) (get_or-take count w at 0 more) (r.small at (omega (arith, listed_length_lem w count r.index)))

    pub explore_ready : Ready w count n at
    explore_ready = record { index = r.index; inside = more; narrow = rw r.wide (width_le cv); small = state_small }

    one_on : list_from 1 n cv (256 - at) (suc at) (expand 1 n cv (state_in w at) 1 (longest 1 n) (take count w)) ≡ states 256 1 n cv
    one_on =
        let few = r.index.few in
        let e : suc (256 - at) ≡ 257 - at = omega arith in
        ap (λ s. list_from 1 n cv (256 - at) (suc at) (expand 1 n cv s 1 (longest 1 n) (take count w))) (sym (get_or-take count w at 0 more))
        ∙ sym (list_more 1 n cv (256 - at) at (take count w) (omega (arith, listed_length_lem w count r.index)))
        ∙ ap (λ f. list_from 1 n cv f at (take count w)) e ∙ r.rest

    module _ {after : List ℕ} {k : ℕ} (g : Grown w after (expand 1 n cv (state_in w at) 1 (longest 1 n) (take count w)) k) where
      pub explore_more : k ≤ 256 → Exploring before after cv n k (at + 1)
      explore_more h =
          let held = g.held h in
          let longer = (expand_extends 1 n cv (state_in w at) 1 (longest 1 n) (take count w)).longer in
          let fuel : 257 - (at + 1) ≡ 256 - at = omega arith in
          record {
            wide = r.wide;
            first = r.first;
            confined = confined_trans r.confined g.confined;
            index = held.index;
            reached = omega (arith, listed_length_lem w count r.index, listed_length_lem after k held.index, ap length held.listed);
            small = subst (Each (λ s. s < 2 ^ n)) (sym held.listed)
                (expand_each 1 n cv (λ s. s < 2 ^ n) (state_in w at) 1 (longest 1 n) (take count w)
                (λ u l m b. next_lt n cv (state_in w at) u r.first state_small) r.small);
            rest = ap (λ f. list_from 1 n cv f (at + 1) (take k after)) fuel
                ∙ ap (λ i. list_from 1 n cv (256 - at) i (take k after)) (add-one at)
                ∙ ap (list_from 1 n cv (256 - at) (suc at)) held.listed ∙ one_on;
          }

      pub explore_over : 256 < k → Grown before after (states 256 1 (width cv) cv) k
      explore_over h = record {
        confined = confined_trans r.confined g.confined;
        held = λ l. absurd (omega arith);
        over = λ l. subst (λ m. 256 < length m) (one_on ∙ ap (λ m. states 256 1 m cv) r.wide)
            (lt_of_lt_of_le (g.over h)
            (list_extends 1 n cv (256 - at) (suc at) (expand 1 n cv (state_in w at) 1 (longest 1 n) (take count w))).longer);
      }

-- What is listed in the end

pub enlist_short : (cv : ℕ) (w : List ℕ) → length w < 768 → Enlisted 1 cv w w 0
unfolding enlist_answer
enlist_short cv w h = record {
  answer = sym (ap (λ b. cond (b && leb (length (states 256 1 (width cv) cv)) 256) (length (states 256 1 (width cv) cv)) 0) (lt-leb 768 (length w) h));
  listed = λ l. absurd (omega arith);
  index = λ l. absurd (omega arith);
  size = refl;
  beyond = λ i l. refl;
  short = λ l. refl;
}

module _ (cv : ℕ) {before after : List ℕ} {r : ℕ} (room : 768 ≤ length before) (g : Grown before after (states 256 1 (width cv) cv) r) where
  pub enlist_many : 256 < r → Enlisted 1 cv before after 0
  enlist_many h = record {
    answer = sym (answer_many (length before) 1 cv room (g.over h));
    listed = λ l. absurd (omega arith);
    index = λ l. absurd (omega arith);
    size = g.confined.size;
    beyond = g.confined.beyond;
    short = λ l. absurd (omega arith);
  }

  pub enlist_all : r ≤ 256 → Enlisted 1 cv before after r
  enlist_all h =
      let held = g.held h in
      let number : length (states 256 1 (width cv) cv) ≡ r = sym (ap length held.listed) ∙ listed_length_lem after r held.index in
      record {
        answer = sym (answer_all (length before) 1 cv room (omega arith) ∙ number);
        listed = λ l. held.listed;
        index = λ l. held.index;
        size = g.confined.size;
        beyond = g.confined.beyond;
        short = λ l. absurd (omega arith);
      }
