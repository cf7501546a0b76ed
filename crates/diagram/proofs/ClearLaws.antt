-- The turns of the loop that empties the buckets, and the index of no states. Assumes nothing.
use mathlib.Core.Path.{◌≡◌, ap, ◌∙◌}
use mathlib.Core.List.{List}
use Prim.Native.Nat.{ℕ, ◌+◌, ◌≤◌, ◌<◌}
use native.Mathlib.Nat.{not-suc-le-zero}
use native.Mathlib.Omega.{arith}
use lib.ListN.{length, get_or, drop, replicate, length-drop}
use borrow.Author.Rules.{rules}
use borrow.Rule.Slice.PartMut.{mid_of, put_mid}
use Rattle.std.proofs.lemmas.List.{places, length-take-le, length-replicate, get_or-replicate}
use Rattle.diagram.specs.Work.{Indexed}
use Rattle.diagram.specs.Inner.{Cleared}

-- A part of the words, from a on and k long, that was filled with 0

module _ (a k : ℕ) (xs ys : List ℕ) (fits : a + k ≤ length xs) (filled : ys ≡ replicate (length (mid_of a k xs)) 0) where
  part_size : length (mid_of a k xs) ≡ k
  part_size = length-take-le k (drop a xs) (omega (arith, length-drop a xs))

  fill_size : length ys ≡ k
  fill_size = ap length filled ∙ length-replicate (length (mid_of a k xs)) 0 ∙ part_size

  pub fill_length : length (put_mid a k xs ys) ≡ length xs
  fill_length = let size : length ys ≡ k = fill_size in search (rules, places)

  pub fill_before : (i : ℕ) → i < a → get_or (put_mid a k xs ys) i 0 ≡ get_or xs i 0
  fill_before i h = search (rules, places)

  pub fill_zero : (b : ℕ) → b < k → get_or (put_mid a k xs ys) (a + b) 0 ≡ 0
  fill_zero b h =
      let size : length ys ≡ k = fill_size in
      let inside : get_or (put_mid a k xs ys) (a + b) 0 ≡ get_or ys b 0 = search (rules, places) in
      inside ∙ rw filled (get_or-replicate (length (mid_of a k xs)) b 0 0 (omega (arith, part_size)))

  pub fill_beyond : (i : ℕ) → a + k ≤ i → get_or (put_mid a k xs ys) i 0 ≡ get_or xs i 0
  fill_beyond i h = let size : length ys ≡ k = fill_size in search (rules, places)

pub clear_filled : (w ys : List ℕ) → 768 ≤ length w → ys ≡ replicate (length (mid_of 256 256 w)) 0 → Cleared w (put_mid 256 256 w ys)
clear_filled w ys h e =
    let fits : 256 + 256 ≤ length w = omega arith in
    record {
      confined = record { size = fill_length 256 256 w ys fits e; beyond = λ i l. fill_beyond 256 256 w ys fits e i (omega arith) };
      empty = fill_zero 256 256 w ys fits e;
    }

-- the index of no states
pub clear_indexed : {before after : List ℕ} → 768 ≤ length before → Cleared before after → Indexed after 0
clear_indexed h r = record {
  room = omega arith;
  few = omega arith;
  head_low = λ b l. omega (arith, r.empty b l);
  head_bucket = λ b l p. absurd (omega (arith, r.empty b l));
  head_last = λ b l j m o. absurd (not-suc-le-zero o);
  link_low = λ i l. absurd (not-suc-le-zero l);
  link_bucket = λ i l. absurd (not-suc-le-zero l);
  link_last = λ i l. absurd (not-suc-le-zero l);
}
