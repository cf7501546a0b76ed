-- The diagram has more than 256 states exactly when the list is that long, and exactly then `enlist` answers 0. Assumes nothing.
use mathlib.Core.Path.{◌≡◌, ◌∙◌}
use mathlib.Core.List.{List}
use mathlib.Core.Logic.{◌↔◌}
use Prim.Native.Nat.{ℕ, ◌≤◌, ◌<◌}
use native.Mathlib.Decide.{dec_lt}
use native.Mathlib.Omega.{arith}
use lib.ListN.{length, get_or}
use borrow.Author.Tests.{le-leb, lt-leb}
use Rattle.diagram.specs.Diagram.{width}
use Rattle.diagram.specs.States.{states, ManyStates}
use Rattle.diagram.specs.Work.{enlist_answer, Enlisted}
use Rattle.diagram.proofs.Listing.{states_first, states_distinct, states_reached, states_complete}
use Rattle.diagram.proofs.Pigeon.{distinct_fits}

module _ (g n cv : ℕ) where
  pub listed_many : 256 < length (states 256 g n cv) → ManyStates g n cv
  listed_many h = record {
    some = states 256 g n cv;
    many = h;
    distinct = states_distinct g n cv 256;
    reached = states_reached g n cv 256;
  }

  pub many_listed : ManyStates g n cv → 256 < length (states 256 g n cv)
  many_listed r = go (dec_lt 256 (length (states 256 g n cv)))
    where
      go : Dec (256 < length (states 256 g n cv)) → 256 < length (states 256 g n cv)
      go (yes h) = h
      go (no h) =
          let many = r.many in
          absurd
          (omega (
            arith,
            distinct_fits r.some (states 256 g n cv) r.distinct
                (λ i l. states_complete g n cv 256 (omega arith) (get_or r.some i 0) (r.reached i l)),
          ))

  pub too_many : ManyStates g n cv ↔ (256 < length (states 256 g n cv))
  too_many = (many_listed, listed_many)

-- The answer for enough words

pub answer_many : (room g cv : ℕ) → 768 ≤ room → 256 < length (states 256 g (width cv) cv) → enlist_answer room g cv ≡ 0
unfolding enlist_answer
answer_many room g cv h l = rw (le-leb 768 room h, lt-leb (length (states 256 g (width cv) cv)) 256 l)

pub answer_all : (room g cv : ℕ) → 768 ≤ room → length (states 256 g (width cv) cv) ≤ 256
    → enlist_answer room g cv ≡ length (states 256 g (width cv) cv)
unfolding enlist_answer
answer_all room g cv h l = rw (le-leb 768 room h, le-leb (length (states 256 g (width cv) cv)) 256 l)

pub enlisted_zero : {g cv r : ℕ} {before after : List ℕ} → 768 ≤ length before → Enlisted g cv before after r
    → (r ≡ 0) ↔ ManyStates g (width cv) cv
enlisted_zero {g} {cv} {r} {before} room e = (there, λ m. e.answer ∙ answer_many (length before) g cv room (many_listed g (width cv) cv m))
  where
    there : r ≡ 0 → ManyStates g (width cv) cv
    there z = listed_many g (width cv) cv (go (dec_lt 256 (length (states 256 g (width cv) cv))))
      where
        go : Dec (256 < length (states 256 g (width cv) cv)) → 256 < length (states 256 g (width cv) cv)
        go (yes h) = h
        go (no h) =
            let all : r ≡ length (states 256 g (width cv) cv) = e.answer ∙ answer_all (length before) g cv room (omega arith) in
            absurd (omega (arith, (states_first g (width cv) cv 256).inside))
