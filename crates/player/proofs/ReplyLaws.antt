-- The bytes of a reply, as they are written. Assumes nothing.
use Prim.Native.Nat.{ℕ, ◌/◌, ◌%◌, ◌≤◌}
use mathlib.Core.Path.{◌≡◌, refl, ap, ap₂, ◌∙◌}
use mathlib.Core.List.{List, [], ◌∷◌, ◌++◌, append-nil}
use native.Mathlib.Omega.{arith}
use lib.ListN.{length, set, take, drop_of_length-le, length-set}
use lib.Seq.{take_all, paste}
use Rattle.unit.specs.declared.Plan.{Plan}
use Rattle.player.specs.Play.{plan_bytes}

-- The first six bytes

abbrev pub headed : List ℕ → ℕ → Plan → List ℕ
headed l number p = set (set (set (set (set (set l 0 number) 1 p.tag) 2 (p.count % 256)) 3 (p.count / 256)) 4 (p.sum % 256)) 5 (p.sum / 256)

pub headed_length : (l : List ℕ) (number : ℕ) (p : Plan) → length (headed l number p) ≡ length l
headed_length l number p = simp length-set

headed_front : (l : List ℕ) (number : ℕ) (p : Plan) → 6 ≤ length l
    → take 6 (headed l number p) ≡ number ∷ p.tag ∷ p.count % 256 ∷ p.count / 256 ∷ p.sum % 256 ∷ p.sum / 256 ∷ []
headed_front [] number p h = absurd (omega arith)
headed_front (a ∷ []) number p h = absurd (omega arith)
headed_front (a ∷ b ∷ []) number p h = absurd (omega arith)
headed_front (a ∷ b ∷ c ∷ []) number p h = absurd (omega arith)
headed_front (a ∷ b ∷ c ∷ d ∷ []) number p h = absurd (omega arith)
headed_front (a ∷ b ∷ c ∷ d ∷ e ∷ []) number p h = absurd (omega arith)
headed_front (a ∷ b ∷ c ∷ d ∷ e ∷ f ∷ l) number p h = refl

-- The plan's bytes behind them

module _ (l : List ℕ) (number : ℕ) (p : Plan) (room : length l ≡ 262) (size : length p.latencies ≡ 256) where
  pub written_end : paste (headed l number p) 6 p.latencies 256 ≡ number ∷ plan_bytes p
  unfolding plan_bytes
  written_end =
      let n : length (headed l number p) ≡ 262 = headed_length l number p ∙ room in
      ap₂ (λ (x y : List ℕ). take 6 (headed l number p) ++ x ++ y) (take_all 256 p.latencies (omega arith)) (drop_of_length-le (headed l number p) {i = 262} (omega arith))
      ∙ append-nil (take 6 (headed l number p) ++ p.latencies)
      ∙ ap (λ (x : List ℕ). x ++ p.latencies) (headed_front l number p (omega arith))
