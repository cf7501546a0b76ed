-- Two texts compared, a name looked for in the table, and a text put. Assumes nothing.
use Rattle.std.proofs.Common.{Some, None, bytes_eq}
use mathlib.Core.Path.{◌≡◌, refl, sym, ap, ◌∙◌}
use mathlib.Core.Bool.{Bool, true, false, cond}
use mathlib.Core.List.{List, []}
use Prim.Native.Nat.{ℕ, zero, suc, ◌+◌, ◌≤◌, ◌<◌}
use native.Mathlib.Numerals.{add-one}
use native.Mathlib.Omega.{arith}
use lib.Dec.{leb}
use lib.ListN.{length}
use Rattle.std.specs.Cmp.Lexicographic.{bytes_decides}
use Rattle.words.proofs.Tests.{cond_same, same_test}
use Rattle.text.proofs.SameLaws.{same_eq, same_of}
use Rattle.text.specs.Text.{put_in, put_end, same}
use Rattle.text.proofs.PutLaws.{placed_none}
use Rattle.command_table.specs.Commands.{rows, name_at, entry_at, among, command_of}

-- Two texts

-- what `==` answers
same_is : (x y : List ℕ) → bytes_eq x y ≡ same y x
same_is x y =
    same_test (bytes_eq x y) (same y x) (λ t. same_of y x (sym ((bytes_decides x y).0 t))) (λ t. (bytes_decides x y).1 (sym (same_eq y x t)))

-- A name

-- the commands before an index do not have it
pub record Passed (word : List ℕ) (index : ℕ) : Type 0 where
  pub left : ℕ
  pub sums : left + index ≡ length rows
  pub rest : command_of word ≡ among left index word

pub passed_start : (word : List ℕ) → Passed word 0
unfolding command_of
passed_start word = record { left = length rows; sums = refl; rest = refl }

-- a name is compared: t is whether the command at the index has it
module _ {word : List ℕ} {index : ℕ} (p : Passed word index) (h : index < length rows) {t : Bool} (e : t ≡ bytes_eq (name_at index) word) where
  compared : (left : ℕ) × (suc left + index ≡ length rows) × (command_of word ≡ cond t (Some (entry_at index)) (among left (suc index) word))
  unfolding among
  compared = go p.left p.sums p.rest
    where
      go : (left : ℕ) → left + index ≡ length rows → command_of word ≡ among left index word
          → (left : ℕ) × (suc left + index ≡ length rows) × (command_of word ≡ cond t (Some (entry_at index)) (among left (suc index) word))
      go zero s r = absurd (omega arith)
      go (suc left) s r =
          let f : same word (name_at index) ≡ t = sym (e ∙ same_is _ word) in
          (left, s, r ∙ ap (λ b. cond b (Some (entry_at index)) (among left (suc index) word)) f)

  pub passed_found : t ≡ true → Some (entry_at index) ≡ command_of word
  passed_found q =
      let s = compared in
      sym (s.2 ∙ ap (λ b. cond b (Some (entry_at index)) (among s.0 (suc index) word)) q)

  pub passed_more : t ≡ false → Passed word (index + 1)
  passed_more q =
      let s = compared in
      record {
        left = s.0;
        sums = omega (arith, s.1);
        rest = s.2 ∙ ap (λ b. cond b (Some (entry_at index)) (among s.0 (suc index) word)) q ∙ ap (λ k. among s.0 k word) (sym (add-one index));
      }

pub passed_end : {word : List ℕ} {index : ℕ} → Passed word index → length rows ≤ index → None ≡ command_of word
unfolding among
passed_end {word} {index} p h = go p.left p.sums p.rest
  where
    go : (left : ℕ) → left + index ≡ length rows → command_of word ≡ among left index word → None ≡ command_of word
    go zero s r = sym r
    go (suc left) s r = absurd (omega arith)

-- A text put

-- the same text put
pub put_same : (out : List ℕ) (at : ℕ) {a b after : List ℕ} {end : ℕ} → a ≡ b → (end ≡ put_end out at a) × (after ≡ put_in out at a)
    → (end ≡ put_end out at b) × (after ≡ put_in out at b)
put_same out at e p = (p.0 ∙ ap (put_end out at) e, p.1 ∙ ap (put_in out at) e)

-- nothing put
pub put_nothing : (out : List ℕ) (at : ℕ) {text : List ℕ} → text ≡ [] → (at ≡ put_end out at text) × (out ≡ put_in out at text)
unfolding put_in put_end
put_nothing out at e =
    let t : Bool = leb (at + 0) (length out) in
    let z : at + 0 ≡ at = omega arith in
    rw e (sym (ap (λ k. cond t k at) z ∙ cond_same t at), sym (ap (λ l. cond t l out) (placed_none out at) ∙ cond_same t out))
