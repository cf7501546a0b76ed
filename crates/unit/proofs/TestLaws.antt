-- Tests one after the other give what the first that fails does. Assumes nothing.
use Rattle.std.proofs.Common.{Ok}
use mathlib.Core.Path.{◌≡◌, refl}
use mathlib.Core.Bool.{Bool, true, false}
use Rattle.unit.specs.declared.Refusal.{Refusal}
use Rattle.unit.specs.Calls.{check, tested_by}

pub two_tests : (a b : Bool) (x y : Refusal) → tested_by (tested_by (Ok tt) a x) b y ≡ check a x (check b y (Ok tt))
two_tests true b x y = refl
two_tests false b x y = refl

-- and two or three more
pub four_tests : (a b c d : Bool) (x y z w : Refusal) → tested_by (tested_by (check a x (check b y (Ok tt))) c z) d w ≡ check a x (check b y (check c z (check d w (Ok tt))))
four_tests true true true d x y z w = refl
four_tests true true false d x y z w = refl
four_tests true false c d x y z w = refl
four_tests false b c d x y z w = refl

pub five_tests : (a b c d e : Bool) (x y z w v : Refusal)
    → tested_by (tested_by (tested_by (check a x (check b y (Ok tt))) c z) d w) e v ≡ check a x (check b y (check c z (check d w (check e v (Ok tt)))))
five_tests true true true true e x y z w v = refl
five_tests true true true false e x y z w v = refl
five_tests true true false d e x y z w v = refl
five_tests true false c d e x y z w v = refl
five_tests false b c d e x y z w v = refl

pub six_tests : (a b c d e f : Bool) (x y z w v t : Refusal)
    → tested_by (tested_by (tested_by (tested_by (check a x (check b y (Ok tt))) c z) d w) e v) f t
    ≡ check a x (check b y (check c z (check d w (check e v (check f t (Ok tt))))))
six_tests true true true true true f x y z w v t = refl
six_tests true true true true false f x y z w v t = refl
six_tests true true true false e f x y z w v t = refl
six_tests true true false d e f x y z w v t = refl
six_tests true false c d e f x y z w v t = refl
six_tests false b c d e f x y z w v t = refl
