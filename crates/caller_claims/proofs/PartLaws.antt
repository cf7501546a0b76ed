-- The queues side by side in one list, and their counts: a caller's part after a change of it, and that the others' parts stay. Assumes nothing.
use Prim.Native.Nat.{ℕ, zero, suc, ◌+◌, ◌-◌, ◌≤◌, ◌<◌}
use mathlib.Core.Path.{◌≡◌, refl, ap, ◌∙◌, sym}
use mathlib.Core.List.{List, [], ◌∷◌, ◌++◌, append_assoc}
use native.Mathlib.Omega.{arith}
use native.Mathlib.Decide.{dec_lt}
use lib.ListN.{length, take, drop, length-append, length-take, length-drop}
use lib.Seq.{length-take-le, take-take, drop-drop, take_at, drop_at, get_or-set_same, get_or-set_other, set-get_or}
use Rattle.queue.specs.declared.Waiting.{Waiting}
use Rattle.callers.proofs.PartLaws.{queue_length}
use Rattle.callers.specs.Queues.{room, place_of, queue_of, with_queue, count_of, with_count, waiting_of}

-- Counts

module _ (counts : List ℕ) (i : ℕ) where
  pub count_same : (n : ℕ) → i - 1 < length counts → count_of (with_count counts i n) i ≡ n
  count_same n h = get_or-set_same counts (i - 1) n 0 h

  pub count_other : (j n : ℕ) → 1 ≤ i → 1 ≤ j → (j ≡ i → ⊥) → count_of (with_count counts i n) j ≡ count_of counts j
  count_other j n a b d = get_or-set_other counts (i - 1) (j - 1) n 0 (λ e. d (omega arith))

  -- putting back what was there changes nothing
  pub count_kept : with_count counts i (count_of counts i) ≡ counts
  count_kept = set-get_or counts (i - 1) 0

-- Queues

-- a part of what comes before place n
pub part_before : {A : Type 0} (k m n : ℕ) (l : List A) → k + m ≤ n → take m (drop k (take n l)) ≡ take m (drop k l)
part_before zero m n l h = take-take m n l (omega arith)
part_before (suc k) m zero l h = absurd (omega arith)
part_before (suc k) m (suc n) [] h = refl
part_before (suc k) m (suc n) (x ∷ l) h = part_before k m n l (omega arith)

module _ (list : List Waiting) (i : ℕ) where
  -- a queue that is all in the list ends in it
  pub queue_within : room ≤ length (queue_of list i) → place_of i + room ≤ length list
  queue_within h = omega (arith, length-take room (drop (place_of i) list), length-drop (place_of i) list)

  module _ (q : List Waiting) (all : room ≤ length (queue_of list i)) (same : length q ≡ length (queue_of list i)) where
    before_length : length (take (place_of i) list) ≡ place_of i
    before_length = length-take-le (place_of i) list (omega (arith, queue_within all))

    upto_length : length (take (place_of i) list ++ q) ≡ place_of i + room
    upto_length = length-append (take (place_of i) list) q ∙ omega (arith, before_length, queue_length list i (queue_within all))

    pub list_length : length (with_queue list i q) ≡ length list
    list_length =
        length-append (take (place_of i) list ++ q) (drop (place_of i + room) list)
        ∙ omega (arith, upto_length, length-drop (place_of i + room) list, queue_within all)

    -- what comes before and after the queue stays

    whole : with_queue list i q ≡ take (place_of i) list ++ (q ++ drop (place_of i + room) list)
    whole = append_assoc (take (place_of i) list) q (drop (place_of i + room) list)

    before_kept : take (place_of i) (with_queue list i q) ≡ take (place_of i) list
    before_kept = ap (take (place_of i)) whole ∙ take_at (take (place_of i) list) (q ++ drop (place_of i + room) list) (place_of i) before_length

    after_kept : drop (place_of i + room) (with_queue list i q) ≡ drop (place_of i + room) list
    after_kept = drop_at (take (place_of i) list ++ q) (drop (place_of i + room) list) (place_of i + room) upto_length

    pub queue_same : queue_of (with_queue list i q) i ≡ q
    queue_same =
        ap (λ (l : List Waiting). take room (drop (place_of i) l)) whole
        ∙ ap (take room) (drop_at (take (place_of i) list) (q ++ drop (place_of i + room) list) (place_of i) before_length)
        ∙ take_at q (drop (place_of i + room) list) room (omega (arith, queue_length list i (queue_within all)))

    -- the queue of a caller before, and of one after

    queue_before : (j : ℕ) → place_of j + room ≤ place_of i → queue_of (with_queue list i q) j ≡ queue_of list j
    queue_before j h =
        sym (part_before (place_of j) room (place_of i) (with_queue list i q) h)
        ∙ ap (λ (l : List Waiting). take room (drop (place_of j) l)) before_kept
        ∙ part_before (place_of j) room (place_of i) list h

    queue_after : (j : ℕ) → place_of i + room ≤ place_of j → queue_of (with_queue list i q) j ≡ queue_of list j
    queue_after j h =
        ap (take room) (sym (later (with_queue list i q)) ∙ ap (drop (place_of j - (place_of i + room))) after_kept ∙ later list)
      where
        later : (l : List Waiting) → drop (place_of j - (place_of i + room)) (drop (place_of i + room) l) ≡ drop (place_of j) l
        later l =
            let e : place_of i + room + (place_of j - (place_of i + room)) ≡ place_of j = omega arith in
            drop-drop (place_of j - (place_of i + room)) (place_of i + room) l ∙ ap (λ (n : ℕ). drop n l) e

    pub queue_other : (j : ℕ) → 1 ≤ i → 1 ≤ j → (j ≡ i → ⊥) → queue_of (with_queue list i q) j ≡ queue_of list j
    queue_other j a b d = go (dec_lt j i)
      where
        go : Dec (j < i) → queue_of (with_queue list i q) j ≡ queue_of list j
        go (yes h) = queue_before j (omega arith)
        go (no h) = queue_after j (later h d)
          where
            later : (j < i → ⊥) → (j ≡ i → ⊥) → place_of i + room ≤ place_of j
            later h d = omega arith

-- The records that wait

module _ (list : List Waiting) (counts : List ℕ) (i : ℕ) (q : List Waiting) (all : room ≤ length (queue_of list i))
    (same : length q ≡ length (queue_of list i)) (n : ℕ) where
  pub line_same : i - 1 < length counts → waiting_of (with_queue list i q) (with_count counts i n) i ≡ take n q
  line_same h =
      ap (λ (m : ℕ). take m (queue_of (with_queue list i q) i)) (count_same counts i n h) ∙ ap (take n) (queue_same list i q all same)

  pub line_other : (j : ℕ) → 1 ≤ i → 1 ≤ j → (j ≡ i → ⊥) → waiting_of (with_queue list i q) (with_count counts i n) j ≡ waiting_of list counts j
  line_other j a b d =
      ap (λ (m : ℕ). take m (queue_of (with_queue list i q) j)) (count_other counts i j n a b d)
      ∙ ap (take (count_of counts j)) (queue_other list i q all same j a b d)
