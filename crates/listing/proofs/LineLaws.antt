-- Lines part by part. Assumes nothing.
use mathlib.Core.Path.{◌≡◌}
use mathlib.Core.List.{List, ◌++◌, append_assoc}
use Prim.Native.Nat.{ℕ}

-- a line after a text, part by part
pub append_line : (text word number end : List ℕ) → text ++ (word ++ number ++ end) ≡ text ++ word ++ number ++ end
append_line text word number end = simp append_assoc
