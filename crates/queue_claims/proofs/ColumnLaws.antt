-- n is over the matrices of the unit's own functions: no other number has marks. Assumes nothing.
use Prim.Native.Nat.{ℕ, ◌-◌, ◌<◌}
use mathlib.Core.Path.{◌≡◌}
use mathlib.Core.Bool.{true, ◌&&◌}
use native.Mathlib.Omega.{arith}
use Rattle.words.proofs.Tests.{and_left}
use Rattle.words.proofs.BitLaws.{set_below}
use Rattle.unit.specs.declared.FunctionUnit.{FunctionUnit}
use Rattle.unit.specs.Unit.{inside, marked, sound_of}
use Rattle.unit.proofs.Laws.{within, inside_of, sound_has}
use Rattle.unit.proofs.SoundLaws.{sound_means}
use Rattle.collision.specs.Vector.{row_word, largest_column}
use Rattle.collision.proofs.VectorLaws.{marked_bounded, collides→, row_bit}
use Rattle.collision.proofs.MatrixLaws.{column_means, row_below}
use Rattle.queue_claims.specs.Claims.{LastColumn}

-- what has a mark is one of the unit's functions
tag_marked : (u : FunctionUnit) → sound_of u ≡ true → (q s c : ℕ) → marked u q s c ≡ true → inside q u.functions ≡ true
unfolding marked
tag_marked u sound q s c e =
    inside_of q u.functions (within q 4 (and_left (inside q 4) _ (and_left (inside q 4 && (inside s 16 && inside c 32)) _ e))).least
    (((sound_means u).0 sound).marks q s c e).0

pub column_of_tags : LastColumn
column_of_tags u sound =
    let four = within u.functions 4 (sound_has u sound).functions in
    record {
      most = λ q r t i j h x.
          let few : q < 5 = omega (arith, (within q u.functions i).most, four.most) in
          let few' : r < 5 = omega (arith, (within r u.functions j).most, four.most) in
          let set = (row_bit (marked u) (marked_bounded u) q r t h).1 x in
          omega (arith, set_below (row_word (marked u) q r) (largest_column (marked u)) (t - 1) (row_below (marked u) q r few few') set);
      reached = λ h.
          let m = (column_means (marked u)).reached h in
          let x = collides→ (marked u) m.0 m.1 (largest_column (marked u)) m.2 in
          (m.0, m.1, tag_marked u sound _ _ _ x.later, tag_marked u sound _ _ _ x.earlier, x);
    }
