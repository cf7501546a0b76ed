-- Where the tables and their words stand in a file. Assumes nothing.
use Prim.Native.Nat.{ℕ, suc, ◌+◌, ◌-◌, ◌*◌, ◌/◌, ◌%◌, ◌≤◌, ◌<◌}
use mathlib.Core.Path.{◌≡◌, sym, ap, ◌∙◌}
use mathlib.Core.List.{List}
use native.Mathlib.Nat.{mul-suc, mul_assoc, mul_comm, mul-le-mul_left, div-add-mod, div-lt_iff_lt-mul}
use native.Mathlib.Omega.{arith}
use lib.ListN.{length}
use Rattle.unit_file.specs.File.{offset_of}
use Rattle.unit_file.specs.Read.{functions_in, segments_in}
use Rattle.unit_file.specs.InnerRead.{Whole, TagIn}

-- the tables of up to 4 functions have at most 256 bytes
pub tables_most : (s k : ℕ) → s ≤ 16 → k ≤ 4 → 4 * s * k ≤ 256
tables_most s k hs hk = let a : 4 * s * k ≤ 4 * s * 4 = mul-le-mul_left (4 * s) hk in omega arith

-- a tag's table ends where the next one begins, and the last where the file does
table_end : (s k f : ℕ) → 1 ≤ k → k ≤ f → 4 * s * (k - 1) + 4 * s ≤ 4 * s * f
table_end s k f h l =
    let e : suc (k - 1) ≡ k = omega arith in
    let a : 4 * s * k ≤ 4 * s * f = mul-le-mul_left (4 * s) l in
    omega (arith, sym (mul-suc (4 * s) (k - 1)) ∙ ap (λ n. 4 * s * n) e)

-- the word of a segment lies in the file
pub word_inside : (file : List ℕ) (k i : ℕ) → Whole file → TagIn file k → i < segments_in file
    → offset_of (functions_in file) (segments_in file) k + 4 * i + 4 ≤ length file
word_inside file k i w t h = omega (arith, w.size, table_end (segments_in file) k (functions_in file) t.least t.most)

-- The words of all tables, one after the other

-- word i is that of segment i % s + 1 of tag i / s + 1
pub flat_place : (f s i : ℕ) → 4 + 2 * f + 4 * i ≡ offset_of f s (i / s + 1) + 4 * (i % s + 1 - 1)
flat_place f s i =
    let e : i / s + 1 - 1 ≡ i / s = omega arith in
    let m : 4 * s * (i / s + 1 - 1) ≡ 4 * (s * (i / s)) = ap (λ n. 4 * s * n) e ∙ mul_assoc 4 s (i / s) in
    omega (arith, div-add-mod i s)

pub flat_tag : (f s i : ℕ) → 1 ≤ s → i < f * s → i / s < f
flat_tag f s i h l = (div-lt_iff_lt-mul h).1 l

-- the word of segment r of tag k is one of them
pub tag_flat : (f s k r : ℕ) → 4 + 2 * f + 4 * (s * (k - 1) + (r - 1)) ≡ offset_of f s k + 4 * (r - 1)
tag_flat f s k r = omega (arith, mul_assoc 4 s (k - 1))

pub tag_flat_inside : (f s k r : ℕ) → 1 ≤ k → k ≤ f → 1 ≤ r → r ≤ s → s * (k - 1) + (r - 1) < f * s
tag_flat_inside f s k r k1 kf r1 rs =
    let e : suc (k - 1) ≡ k = omega arith in
    let a : s * k ≤ s * f = mul-le-mul_left s kf in
    omega (arith, sym (mul-suc s (k - 1)) ∙ ap (λ n. s * n) e, mul_comm s f)
