-- The lower bound: a cycle that never collides takes at least as much time for each task as any clique has numbers, and so Bound. Assumes nothing.
use mathlib.Core.Path.{◌≡◌, refl, sym, ap, ◌∙◌, subst}
use mathlib.Core.List.{List}
use Prim.Native.Nat.{ℕ, zero, suc, ◌+◌, ◌-◌, ◌*◌, ◌/◌, ◌%◌, ◌≤◌, ◌<◌, zero-le}
use native.Mathlib.Nat.{le_of_lt, mod-lt, div-add-mod', div-lt_iff_lt-mul, zero-mul, mul_comm, mul-suc, mul_assoc, mul-le-mul_left}
use native.Mathlib.Decide.{dec_le, dec_lt}
use native.Mathlib.Omega.{arith}
use lib.ListN.{length, get_or}
use Rattle.unit.specs.Table.{Table}
use Rattle.collision.specs.Pipeline.{Cycle, total, start_at, NeverCollides}
use Rattle.collision.specs.Vector.{bound_of}
use Rattle.collision.specs.Meaning.{Bounded}
use Rattle.collision.proofs.ClashLaws.{never_forbidden, start_at_mono}
use Rattle.collision.proofs.StartLaws.{start_at_turns, latency_least}
use Rattle.diagram.proofs.Pigeon.{pigeon}
use Rattle.clique.specs.Sets.{Clique}
use Rattle.clique.proofs.SetLaws.{at_most_total}
use Rattle.clique.proofs.LargestLaws.{clique_reached}

-- what holds of every number of turns, up to a constant, holds of one
pub per_turn : (a b e : ℕ) → suc e * a ≤ suc e * b + e → a ≤ b
per_turn a b e k = pick (dec_le a b)
  where
    pick : Dec (a ≤ b) → a ≤ b
    pick (yes l) = l
    pick (no l) = omega (arith, mul-le-mul_left {m = suc b} {n = a} (suc e) (omega arith), mul-suc (suc e) b)

module _ (T : Table) (q g : ℕ) (l set : List ℕ) (pos : 1 ≤ g) (c : Cycle g l) (never : NeverCollides T q l) (k : Clique T q set) where
  later : (i j : ℕ) → i < j → start_at l i < start_at l j
  later i j h = omega (arith, start_at_mono l (suc i) j h, latency_least g l c i)

  -- no task is as far after a number of the set as another is after another
  no_earlier : (i j a b : ℕ) → a < length set → b < length set → i < j → start_at l i + get_or set a 0 ≡ start_at l j + get_or set b 0 → ⊥
  no_earlier i j a b ha hb h e =
      let s = later i j h in
      let d : start_at l j - start_at l i ≡ get_or set a 0 - get_or set b 0 = omega arith in
      (never_forbidden T q l).0 never i j h (rw d (k.differ b a hb ha (omega arith)))

  same_start : (i j a b : ℕ) → a < length set → b < length set → start_at l i + get_or set a 0 ≡ start_at l j + get_or set b 0 → i ≡ j
  same_start i j a b ha hb e = go (dec_lt i j) (dec_lt j i)
    where
      go : Dec (i < j) → Dec (j < i) → i ≡ j
      go (yes h) x = absurd (no_earlier i j a b ha hb h e)
      go (no h) (yes x) = absurd (no_earlier j i b a hb ha x (sym e))
      go (no h) (no x) = omega arith

  same_number : (a b : ℕ) → a < length set → b < length set → get_or set a 0 ≡ get_or set b 0 → a ≡ b
  same_number a b ha hb e = go (dec_lt a b) (dec_lt b a)
    where
      go : Dec (a < b) → Dec (b < a) → a ≡ b
      go (yes h) x = absurd (k.distinct a b h hb e)
      go (no h) (yes x) = absurd (k.distinct b a x ha (sym e))
      go (no h) (no x) = omega arith

  -- the times of m tasks, each moved by each number of the set, are all different
  module _ (b m : ℕ) (size : length set ≡ suc b) where
    time : ℕ → ℕ
    time x = start_at l (x / suc b) + get_or set (x % suc b) 0

    place : (x : ℕ) → x % suc b < length set
    place x = rw size (mod-lt x (omega arith))

    time_apart : (x y : ℕ) → time x ≡ time y → x ≡ y
    unfolding time
    time_apart x y e =
        let s : x / suc b ≡ y / suc b = same_start (x / suc b) (y / suc b) (x % suc b) (y % suc b) (place x) (place y) e in
        let s2 : start_at l (x / suc b) ≡ start_at l (y / suc b) = ap (start_at l) s in
        let r : x % suc b ≡ y % suc b = same_number (x % suc b) (y % suc b) (place x) (place y) (omega arith) in
        sym (div-add-mod' x (suc b)) ∙ ap (λ z. z * suc b + x % suc b) s ∙ ap (λ z. y / suc b * suc b + z) r ∙ div-add-mod' y (suc b)

    time_below : (x : ℕ) → x < m * suc b → time x < start_at l m + total set + 1
    unfolding time
    time_below x h =
        let d : x / suc b < m = (div-lt_iff_lt-mul {k = suc b} {x = x} {y = m} (omega arith)).1 h in
        omega (arith, start_at_mono l (x / suc b) m (le_of_lt d), at_most_total set (x % suc b) (place x))

    crowd : m * suc b ≤ start_at l m + total set + 1
    crowd = pigeon (start_at l m + total set + 1) (m * suc b) time time_below (λ x y h h2 e. time_apart x y e)

  -- b × K ≤ S
  pub lower : length set * length l ≤ total l
  lower = go (length set) refl
    where
      go : (n : ℕ) → length set ≡ n → n * length l ≤ total l
      go zero e = rw (zero-mul (length l)) zero-le
      go (suc b) e =
          let r : ℕ = total set + 1 in
          let turns : ℕ = suc r * length l in
          let same : suc r * (suc b * length l) ≡ turns * suc b =
          ap (λ x. suc r * x) (mul_comm (suc b) (length l)) ∙ sym (mul_assoc (suc r) (length l) (suc b)) in
          per_turn (suc b * length l) (total l) r (omega (arith, same, crowd b turns e, start_at_turns l (suc r)))

-- Bound × K ≤ S
pub lower_bound : (T : Table) → Bounded T → (q g : ℕ) (l : List ℕ) → 1 ≤ g → Cycle g l → NeverCollides T q l → bound_of T q * length l ≤ total l
lower_bound T b q g l pos c never =
    let r = clique_reached T b q in
    subst (λ n. n * length l ≤ total l) r.2 (lower T q g l r.0 pos c never r.1)
