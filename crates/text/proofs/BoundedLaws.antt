-- Texts put one after the other, with a bound on their bytes. Assumes nothing.
use mathlib.Core.Path.{◌≡◌, refl, sym}
use mathlib.Core.List.{List, [], ◌++◌}
use Prim.Native.Nat.{ℕ, ◌+◌, ◌*◌, ◌≤◌}
use native.Mathlib.Nat.{mul-add}
use native.Mathlib.Omega.{arith}
use lib.ListN.{length}
use Rattle.words.specs.Below.{join_below}
use Rattle.words.proofs.JoinLaws.{join_more}
use Rattle.text.specs.Text.{put_in, put_end}
use Rattle.text.specs.Wrote.{Put}
use Rattle.text.proofs.WroteLaws.{wrote_start, wrote_length, wrote_more, wrote_one}

-- nothing is written yet
pub put_start : (before : List ℕ) (at : ℕ) → at ≤ length before → Put 0 before at [] before at
put_start before at h = record { wrote = wrote_start before at h; few = omega arith }

-- after a text another one, written by whatever means
pub put_more : {m n : ℕ} {before : List ℕ} {at : ℕ} {a mid : List ℕ} {e : ℕ} {b after : List ℕ} {end : ℕ}
    → Put m before at a mid e → Put n mid e b after end → Put (m + n) before at (a ++ b) after end
put_more p q = record { wrote = wrote_more p.wrote q.wrote; few = omega arith }

-- after a text one of at most n bytes, by `text::put` or `text::put_number`
pub put_word : {m : ℕ} {before : List ℕ} {at : ℕ} {a mid : List ℕ} {e : ℕ} {after : List ℕ} {end : ℕ} (n : ℕ) (b : List ℕ)
    → Put m before at a mid e → (end ≡ put_end mid e b) × (after ≡ put_in mid e b) → length b ≤ n → at + m + n ≤ length before
    → Put (m + n) before at (a ++ b) after end
put_word n b p w l room =
    let v = wrote_one {text = b} w (omega (arith, wrote_length p.wrote)) in
    put_more p record { wrote = v; few = omega arith }

-- the same text in other words, and a greater bound
pub put_as : {m n : ℕ} {before : List ℕ} {at : ℕ} {a b after : List ℕ} {end : ℕ}
    → Put m before at a after end → a ≡ b → m ≤ n → Put n before at b after end
put_as p e l = record { wrote = rw e at p.wrote; few = omega (arith, p.few) }

-- one text of at most n bytes, by `text::put` or `text::put_number`
pub put_one : {before : List ℕ} {at : ℕ} {after : List ℕ} {end : ℕ} (n : ℕ) (text : List ℕ)
    → (end ≡ put_end before at text) × (after ≡ put_in before at text) → length text ≤ n → at + n ≤ length before → Put n before at text after end
put_one {before} {at} n text w l room = put_as (put_word n text (put_start before at (omega arith)) w l (omega arith)) refl (omega arith)

-- the room that is left
pub put_room : {n : ℕ} {before : List ℕ} {at : ℕ} {text after : List ℕ} {end : ℕ} (m : ℕ)
    → Put n before at text after end → at + n + m ≤ length before → end + m ≤ length after
put_room m p room = omega (arith, p.few, wrote_length p.wrote)

-- Number by number, each of the texts of at most k bytes

module _ {before : List ℕ} {at : ℕ} where
  pub put_join_start : (k : ℕ) (f : ℕ → List ℕ) → at ≤ length before → Put (k * 0) before at (join_below 0 f) before at
  unfolding join_below
  put_join_start k f h = put_as (put_start before at h) refl (omega arith)

  pub put_join_more : {mid : List ℕ} {e : ℕ} {after : List ℕ} {end : ℕ} (k n : ℕ) (f : ℕ → List ℕ)
      → Put (k * n) before at (join_below n f) mid e → Put k mid e (f n) after end → Put (k * (n + 1)) before at (join_below (n + 1) f) after end
  put_join_more k n f p q = put_as (put_more p q) (sym (join_more n f)) (omega (arith, mul-add k n 1))
