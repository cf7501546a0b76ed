-- Bytes that are overwritten from a place on. Assumes nothing.
use mathlib.Core.Path.{◌≡◌, refl, sym, ap, ap₂, ◌∙◌}
use mathlib.Core.List.{List, [], ◌∷◌, ◌++◌, append_assoc, append-nil}
use Prim.Native.Nat.{ℕ, ◌+◌, ◌-◌, ◌*◌, ◌≤◌}
use native.Mathlib.Omega.{arith}
use lib.ListN.{length, set, take, drop, length-append, length-drop, take-append-drop, drop_of_length-le}
use lib.Seq.{take_all, take_at, drop_at, drop-drop, length-take-le}
use borrow.Rule.Slice.PartMut.{mid_of, put_mid}
use Rattle.words.specs.Below.{join_below}
use Rattle.words.proofs.JoinLaws.{join_more, join_length}
use Rattle.unit_file.specs.InnerWrite.{in_front, in_from}

-- Lengths

pub front_length : (l b : List ℕ) → length l ≤ length b → length (in_front l b) ≡ length b
front_length l b h = length-append l (drop (length l) b) ∙ ap (λ k. length l + k) (length-drop (length l) b) ∙ omega arith

pub from_length : (at : ℕ) (l b : List ℕ) → at + length l ≤ length b → length (in_from at l b) ≡ length b
from_length at l b h =
    let n : length (drop at b) ≡ length b - at = length-drop at b in
    length-append (take at b) (in_front l (drop at b))
    ∙ ap₂ ◌+◌ (length-take-le at b (omega arith)) (front_length l (drop at b) (omega arith) ∙ n) ∙ omega arith

-- Bytes written one by one

pub front_two : (b : List ℕ) (x y : ℕ) → 2 ≤ length b → set (set b 0 x) 1 y ≡ in_front (x ∷ y ∷ []) b
front_two [] x y h = absurd (omega arith)
front_two (a ∷ []) x y h = absurd (omega arith)
front_two (a ∷ e ∷ b) x y h = refl

pub front_four : (b : List ℕ) (x y z w : ℕ) → 4 ≤ length b → set (set (set (set b 0 x) 1 y) 2 z) 3 w ≡ in_front (x ∷ y ∷ z ∷ w ∷ []) b
front_four [] x y z w h = absurd (omega arith)
front_four (a ∷ []) x y z w h = absurd (omega arith)
front_four (a ∷ e ∷ []) x y z w h = absurd (omega arith)
front_four (a ∷ e ∷ g ∷ []) x y z w h = absurd (omega arith)
front_four (a ∷ e ∷ g ∷ i ∷ b) x y z w h = refl

-- A part that is lent

-- the part from a place on was lent, its front was overwritten, and it is back
pub part_back : (at : ℕ) (l b part : List ℕ) → at ≤ length b → part ≡ in_front l (mid_of at (length b - at) b)
    → put_mid at (length b - at) b part ≡ in_from at l b
part_back at l b part h e =
    let n : length (drop at b) ≤ length b - at = omega (arith, length-drop at b) in
    let whole : mid_of at (length b - at) b ≡ drop at b = take_all (length b - at) (drop at b) n in
    ap₂ (λ (x y : List ℕ). take at b ++ (x ++ y)) (e ∙ ap (in_front l) whole) (drop_of_length-le (drop at b) n)
    ∙ ap (λ x. take at b ++ x) (append-nil (in_front l (drop at b)))

-- what is written next stands behind what was written
pub from_more : (base at : ℕ) (p l b : List ℕ) → base ≤ length b → base + length p ≡ at → in_from at l (in_from base p b) ≡ in_from base (p ++ l) b
from_more base at p l b h e =
    ap₂ (λ (x y : List ℕ). x ++ in_front l y) front rest
    ∙ append_assoc (take base b) p (in_front l (drop (length p) (drop base b)))
    ∙ ap (λ x. take base b ++ x)
    (sym (append_assoc p l (drop (length l) (drop (length p) (drop base b))))
    ∙ ap (λ x. (p ++ l) ++ x) (drop-drop (length l) (length p) (drop base b) ∙ ap (λ k. drop k (drop base b)) (sym (length-append p l))))
  where
    size : length (take base b ++ p) ≡ at
    size = length-append (take base b) p ∙ ap (λ k. k + length p) (length-take-le base b h) ∙ e

    joined : in_from base p b ≡ (take base b ++ p) ++ drop (length p) (drop base b)
    joined = sym (append_assoc (take base b) p (drop (length p) (drop base b)))

    front : take at (in_from base p b) ≡ take base b ++ p
    front = ap (take at) joined ∙ take_at (take base b ++ p) (drop (length p) (drop base b)) at size

    rest : drop at (in_from base p b) ≡ drop (length p) (drop base b)
    rest = ap (drop at) joined ∙ drop_at (take base b ++ p) (drop (length p) (drop base b)) at size

pub front_more : (at : ℕ) (p l b : List ℕ) → length p ≡ at → in_from at l (in_front p b) ≡ in_front (p ++ l) b
front_more at p l b e = from_more 0 at p l b (omega arith) (omega arith)

-- A loop that writes lists of m bytes one behind the other, each to a part that it lends

-- the first k of them stand from `base` on
pub record Joined (base : ℕ) (f : ℕ → List ℕ) (b : List ℕ) (k : ℕ) (out : List ℕ) : Type 0 where
  pub bytes : out ≡ in_from base (join_below k f) b
  pub size : length out ≡ length b

pub joined_start : (base : ℕ) (f : ℕ → List ℕ) (b : List ℕ) → Joined base f b 0 b
unfolding join_below
joined_start base f b = record { bytes = sym (take-append-drop base b); size = refl }

pub joined_more : (base m : ℕ) (f : ℕ → List ℕ) (b : List ℕ) (k at : ℕ) (out part : List ℕ) → ((i : ℕ) → length (f i) ≡ m)
    → base + m * k + m ≤ length b → at ≡ base + m * k → Joined base f b k out → part ≡ in_front (f k) (mid_of at (length out - at) out)
    → Joined base f b (k + 1) (put_mid at (length out - at) out part)
joined_more base m f b k at out part sizes room place j e =
    let written : put_mid at (length out - at) out part ≡ in_from base (join_below (k + 1) f) b =
    part_back at (f k) out part (omega (arith, j.size)) e
    ∙ ap (in_from at (f k)) j.bytes
    ∙ from_more base at (join_below k f) (f k) b (omega arith) (omega (arith, before))
    ∙ ap (λ l. in_from base l b) (sym (join_more k f)) in
    record { bytes = written; size = ap length written ∙ from_length base (join_below (k + 1) f) b (omega (arith, after)) }
  where
    before : length (join_below k f) ≡ m * k
    before = join_length k m f (λ i l. sizes i)

    after : length (join_below (k + 1) f) ≡ m * k + m
    after = ap length (join_more k f) ∙ length-append (join_below k f) (f k) ∙ ap₂ ◌+◌ before (sizes k)

pub joined_end : (base : ℕ) (f : ℕ → List ℕ) (b : List ℕ) (k n : ℕ) (out : List ℕ) → k ≡ n → Joined base f b k out → out ≡ in_from base (join_below n f) b
joined_end base f b k n out e j = j.bytes ∙ ap (λ i. in_from base (join_below i f) b) e
