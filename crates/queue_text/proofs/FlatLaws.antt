-- The tags and tickets of records, put into an array of numbers one after the other. Assumes nothing.
use mathlib.Core.Path.{◌≡◌, refl, sym, ap, ◌∙◌}
use mathlib.Core.List.{List, [], ◌∷◌, ◌++◌, append_assoc}
use Prim.Native.Nat.{ℕ, suc, ◌+◌, ◌*◌, ◌≤◌, ◌<◌, min}
use native.Mathlib.Decide.{dec_le}
use native.Mathlib.Omega.{arith}
use lib.ListN.{length, get_or, take, set, length-set}
use lib.Seq.{take-suc, take-suc-set, take_all}
use Rattle.queue.specs.declared.Waiting.{Waiting}
use Rattle.queue.specs.Line.{no_record}
use Rattle.queue_text.specs.Told.{flat}

pub flat_more : (line : List Waiting) (w : Waiting) → flat (line ++ w ∷ []) ≡ flat line ++ w.tag ∷ w.ticket ∷ []
unfolding flat
flat_more [] w = refl
flat_more (x ∷ line) w = ap (λ l. x.tag ∷ x.ticket ∷ l) (flat_more line w)

pub flat_length : (line : List Waiting) → length (flat line) ≡ 2 * length line
unfolding flat
flat_length [] = refl
flat_length (w ∷ line) = omega (arith, flat_length line)

-- one more record
pub flat_step : (numbers : List ℕ) (list : List Waiting) (i : ℕ) → take (2 * i) numbers ≡ flat (take i list) → 2 * i + 1 < length numbers → i < length list
    → take (2 * (i + 1)) (set (set numbers (2 * i) (get_or list i no_record).tag) (2 * i + 1) (get_or list i no_record).ticket) ≡ flat (take (i + 1) list)
flat_step numbers list i e h l =
    let w : Waiting = get_or list i no_record in
    let even : List ℕ = set numbers (2 * i) w.tag in
    let n : 2 * (i + 1) ≡ suc (2 * i + 1) = omega arith in
    let m : 2 * i + 1 ≡ suc (2 * i) = omega arith in
    let k : suc i ≡ i + 1 = omega arith in
    ap (λ (x : ℕ). take x (set even (2 * i + 1) w.ticket)) n
    ∙ take-suc-set even (2 * i + 1) w.ticket (omega (arith, length-set numbers (2 * i) w.tag))
    ∙ ap (λ (x : ℕ). take x even ++ w.ticket ∷ []) m
    ∙ ap (λ (x : List ℕ). x ++ w.ticket ∷ []) (take-suc-set numbers (2 * i) w.tag (omega arith) ∙ ap (λ (x : List ℕ). x ++ w.tag ∷ []) e)
    ∙ append_assoc (flat (take i list)) (w.tag ∷ []) (w.ticket ∷ [])
    ∙ sym (flat_more (take i list) w)
    ∙ ap flat (sym (take-suc list i no_record l))
    ∙ ap (λ (x : ℕ). flat (take x list)) k

-- no more records wait than the list has
pub take_most : (list : List Waiting) (count n : ℕ) → length list ≡ n → take (min count n) list ≡ take count list
take_most list count n e = go (dec_le count n)
  where
    go : Dec (count ≤ n) → take (min count n) list ≡ take count list
    go (yes h) = let m : min count n ≡ count = omega arith in ap (λ (k : ℕ). take k list) m
    go (no h) =
        let m : min count n ≡ n = omega arith in
        ap (λ (k : ℕ). take k list) m ∙ take_all n list (omega arith) ∙ sym (take_all count list (omega arith))
