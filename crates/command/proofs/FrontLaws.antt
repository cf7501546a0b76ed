-- What was read of a line, as much as there was room for. Assumes nothing.
use mathlib.Core.Path.{◌≡◌, sym, ap, ◌∙◌}
use mathlib.Core.List.{List}
use Prim.Native.Nat.{ℕ, min}
use native.Mathlib.Omega.{arith}
use lib.ListN.{length, take, drop, length-take}
use lib.Seq.{take_at}
use Rattle.command.specs.Lines.{in_front}

module _ (l zeros : List ℕ) {count : ℕ} {bytes : List ℕ} (n : count ≡ min (length l) (length zeros)) (e : bytes ≡ in_front l zeros) where
  taken_length : length (take (length zeros) l) ≡ count
  taken_length = length-take (length zeros) l ∙ omega arith

  pub front_taken : take count bytes ≡ take (length zeros) l
  front_taken = ap (take count) e ∙ take_at (take (length zeros) l) (drop (length l) zeros) count taken_length

  pub front_length : count ≡ length (take count bytes)
  front_length = sym (ap length front_taken ∙ taken_length)
