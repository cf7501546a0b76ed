-- Text that was put over lent bytes, for the contracts of whoever puts several texts one after the other.
use Rattle.std.specs.Prelude.{◌≡◌, List, ℕ, ◌+◌, ◌≤◌, length}
use Rattle.text.specs.Text.{placed}

-- `text` was put from `at` on over the bytes `before`: now they are `after`, and the next index is `end`
pub record Wrote (before : List ℕ) (at : ℕ) (text after : List ℕ) (end : ℕ) : Type 0 where
  pub bytes : after ≡ placed before at text
  pub next : end ≡ at + length text
  pub room : at + length text ≤ length before

-- text was put, of at most so many bytes
pub record Put (most : ℕ) (before : List ℕ) (at : ℕ) (text after : List ℕ) (end : ℕ) : Type 0 where
  pub wrote : Wrote before at text after end
  pub few : end ≤ at + most
