-- A file longer than every unit file is refused by what its first bytes say, however long it is. Assumes nothing.
use Rattle.std.proofs.Common.{Err}
use mathlib.Core.Path.{◌≡◌, refl, sym, ◌∙◌}
use mathlib.Core.Bool.{true}
use mathlib.Core.List.{List}
use Prim.Native.Nat.{ℕ, ◌*◌, ◌≤◌, ◌<◌}
use native.Mathlib.Nat.{mul-le-mul}
use native.Mathlib.Omega.{arith}
use borrow.Author.Tests.{le-leb, ne_eqb}
use lib.ListN.{length, take}
use lib.Seq.{get_or-take, length-take-le}
use Rattle.words.proofs.Tests.{and_left, and_right, by_test}
use Rattle.unit.specs.declared.Refusal.TheVariants.{NotSound, BadLength}
use Rattle.unit.specs.Answers.{Answer}
use Rattle.unit.specs.Unit.{inside, good_counts}
use Rattle.unit.specs.Calls.{check}
use Rattle.unit.proofs.Laws.{within}
use Rattle.unit_file.specs.File.{file_length}
use Rattle.unit_file.specs.Read.{functions_in, segments_in, columns_in, read_answer}

-- no unit file has more than 268 bytes
pub length_most : (f s c : ℕ) → good_counts f s c ≡ true → file_length f s ≤ 268
length_most f s c g =
    let a = within f 4 (and_left (inside f 4) _ g) in
    let b = within s 16 (and_left (inside s 16) _ (and_right (inside f 4) _ g)) in
    let p : s * f ≤ 16 * 4 = mul-le-mul b.most a.most in
    omega arith

-- the answer to more than 268 bytes: the counts, and then the length
abbrev pub long_answer : ℕ → ℕ → ℕ → Answer
long_answer f s c = check (good_counts f s c) NotSound (Err BadLength)

pub read_long : (file : List ℕ) → 268 < length file → read_answer file ≡ long_answer (functions_in file) (segments_in file) (columns_in file)
unfolding read_answer
read_long file h =
    by_test (good_counts (functions_in file) (segments_in file) (columns_in file))
    (λ g.
    let m = length_most (functions_in file) (segments_in file) (columns_in file) g in
    simp (le-leb 4 (length file) (omega arith), g, ne_eqb (length file) (file_length (functions_in file) (segments_in file)) (λ e. absurd (omega arith))))
    (λ g. simp (le-leb 4 (length file) (omega arith), g))

-- so its first 269 bytes, or any more, get the same answer
pub read_cut : (file : List ℕ) (n : ℕ) → 268 < n → n ≤ length file → read_answer (take n file) ≡ read_answer file
read_cut file n h l =
    let long : length (take n file) ≡ n = length-take-le n file l in
    read_long (take n file) (omega arith)
    ∙ simp (get_or-take n file 0 0 (omega arith), get_or-take n file 1 0 (omega arith), get_or-take n file 2 0 (omega arith)) refl
    ∙ sym (read_long file (omega arith))
