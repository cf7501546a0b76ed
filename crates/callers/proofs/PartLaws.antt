-- A caller's queue as a part of the list. Assumes nothing.
use Prim.Native.Nat.{ℕ, zero, suc, ◌+◌, ◌-◌, ◌≤◌, ◌<◌}
use mathlib.Core.Path.{◌≡◌, ap, ap₂, ◌∙◌, sym}
use mathlib.Core.List.{List, [], ◌∷◌, ◌++◌, append_assoc}
use native.Mathlib.Omega.{arith}
use lib.ListN.{length, take, drop, set, length-drop, take-append-drop}
use lib.Seq.{take-nil, take-append-le, drop-append-le, set-append_left, take-take, take-add, drop-drop, length-take-le}
use Rattle.std.specs.List.{copy_within}
use Rattle.queue.specs.declared.Waiting.{Waiting}
use Rattle.queue.specs.Line.{forward}
use Rattle.callers.specs.Queues.{room, place_of, queue_of, with_queue}

pub set_append_add : {A : Type 0} (x y : List A) (n : ℕ) (a : A) → set (x ++ y) (length x + n) a ≡ x ++ set y n a
set_append_add [] y n a = let e : 0 + n ≡ n = omega arith in ap (λ (k : ℕ). set y k a) e
set_append_add (b ∷ x) y n a =
    let e : suc (length x) + n ≡ suc (length x + n) = omega arith in
    ap (λ (k : ℕ). set (b ∷ (x ++ y)) k a) e ∙ ap (λ l. b ∷ l) (set_append_add x y n a)

pub drop_take : {A : Type 0} (p m : ℕ) (l : List A) → drop p (take (p + m) l) ≡ take m (drop p l)
drop_take zero m l = let e : 0 + m ≡ m = omega arith in ap (λ (k : ℕ). take k l) e
drop_take (suc p) m [] = let e : suc p + m ≡ suc (p + m) = omega arith in ap (λ (k : ℕ). drop (suc p) (take k [])) e ∙ sym (take-nil m)
drop_take (suc p) m (a ∷ l) = let e : suc p + m ≡ suc (p + m) = omega arith in ap (λ (k : ℕ). drop (suc p) (take k (a ∷ l))) e ∙ drop_take p m l

-- the list is what lies before a queue, the queue, and what lies behind it

pub parts : (list : List Waiting) (i : ℕ) → with_queue list i (queue_of list i) ≡ list
parts list i =
    ap (λ (l : List Waiting). l ++ drop (place_of i + room) list) (sym (take-add (place_of i) room list)) ∙ take-append-drop (place_of i + room) list

pub queue_length : (list : List Waiting) (i : ℕ) → place_of i + room ≤ length list → length (queue_of list i) ≡ room
queue_length list i h = length-take-le room (drop (place_of i) list) (omega (arith, length-drop (place_of i) list))

-- the same queue where only its first records are asked for
pub line_part : (list : List Waiting) (i count : ℕ) → count ≤ room → take count (queue_of list i) ≡ take count (drop (place_of i) list)
line_part list i count h = take-take count room (drop (place_of i) list) h

forward_joined : (q r : List Waiting) (count : ℕ) → 1 ≤ count → count ≤ length q → forward (q ++ r) count ≡ forward q count ++ r
unfolding forward
forward_joined q r count some few =
    ap (λ (l : List Waiting). take (count - 1) l ++ drop (count - 1) (q ++ r)) (drop-append-le 1 q r (omega arith))
    ∙ ap (λ (l : List Waiting). l ++ drop (count - 1) (q ++ r)) (take-append-le (count - 1) (drop 1 q) r (omega (arith, length-drop 1 q)))
    ∙ ap (λ (l : List Waiting). take (count - 1) (drop 1 q) ++ l) (drop-append-le (count - 1) q r (omega arith))
    ∙ sym (append_assoc (take (count - 1) (drop 1 q)) (drop (count - 1) q) r)

-- the method of a list that moves a part of it
pub copied_forward : (list after : List Waiting) (from count : ℕ) → 1 ≤ count → after ≡ copy_within list (from + 1) (from + count) from
    → after ≡ take from list ++ forward (drop from list) count
unfolding forward
copied_forward list after from count some e =
    let n : from + count - (from + 1) ≡ count - 1 = omega arith in
    e ∙ ap (λ m. take from list ++ take m (drop (from + 1) list) ++ drop (from + m) list) n
    ∙ append_assoc (take from list) (take (count - 1) (drop (from + 1) list)) (drop (from + (count - 1)) list)
    ∙ sym (ap₂ (λ (x y : List Waiting). take from list ++ (take (count - 1) x ++ y)) (drop-drop 1 from list) (drop-drop (count - 1) from list))

-- a change of the list from a queue's place on is a change of the queue

module _ (list : List Waiting) (i : ℕ) (long : place_of i + room ≤ length list) where
  behind : drop (place_of i) list ≡ queue_of list i ++ drop (place_of i + room) list
  behind = sym (take-append-drop room (drop (place_of i) list)) ∙ ap (λ l. queue_of list i ++ l) (drop-drop room (place_of i) list)

  front : length (take (place_of i) list) ≡ place_of i
  front = length-take-le (place_of i) list (omega arith)

  pub set_part : (count : ℕ) (w : Waiting) → count < room → set list (place_of i + count) w ≡ with_queue list i (set (queue_of list i) count w)
  set_part count w h =
      ap (λ (l : List Waiting). set l (place_of i + count) w) (sym (take-append-drop (place_of i) list))
      ∙ ap (λ (k : ℕ). set (take (place_of i) list ++ drop (place_of i) list) (k + count) w) (sym front)
      ∙ set_append_add (take (place_of i) list) (drop (place_of i) list) count w
      ∙ ap (λ (l : List Waiting). take (place_of i) list ++ set l count w) behind
      ∙ ap (λ (l : List Waiting). take (place_of i) list ++ l)
      (set-append_left (queue_of list i) (drop (place_of i + room) list) count w (omega (arith, queue_length list i long)))
      ∙ sym (append_assoc (take (place_of i) list) (set (queue_of list i) count w) (drop (place_of i + room) list))

  pub forward_part : (count : ℕ) → 1 ≤ count → count ≤ room
      → take (place_of i) list ++ forward (drop (place_of i) list) count ≡ with_queue list i (forward (queue_of list i) count)
  forward_part count some few =
      ap (λ (l : List Waiting). take (place_of i) list ++ forward l count) behind
      ∙ ap (λ (l : List Waiting). take (place_of i) list ++ l)
      (forward_joined (queue_of list i) (drop (place_of i + room) list) count some (omega (arith, queue_length list i long)))
      ∙ sym (append_assoc (take (place_of i) list) (forward (queue_of list i) count) (drop (place_of i + room) list))
