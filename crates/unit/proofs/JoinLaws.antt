-- Words joined into one, and the tests of the joined words that tell whether all marks are within the counts. Assumes nothing.
use Prim.Native.Nat.{ℕ, ◌+◌, ◌*◌, ◌/◌, ◌%◌, ◌^◌, ◌<◌, ◌≤◌}
use mathlib.Core.Path.{◌≡◌, refl}
use mathlib.Core.Logic.{◌⊎◌, inl, inr}
use mathlib.Core.Bool.{false}
use mathlib.Core.List.{List}
use native.Mathlib.Omega.{arith}
use native.Mathlib.Decide.{dec_lt, ℕ_discrete}
use lib.Bits.{bit_or, and_le_l, and_le_r, or_add_and, or_lt}
use lib.Dec.{eqb}
use lib.ListN.{get_or}
use lib.Pow.{pow_pos}
use borrow.Author.Tests.{eqb-true, eqb-false}
use Rattle.words.proofs.Tests.{nowhere}
use Rattle.unit.specs.Inner.{Between, Beyond, Joins, Clear, Clean, Tested}

-- Joined words

module _ (words : List ℕ) where
  joins_none : (P : ℕ → Type 0) → ((k : ℕ) → P k → ⊥) → Joins P words 0
  joins_none P f s = (λ h k p. absurd (f k p), λ h. pow_pos s)

  joins_one : (i : ℕ) → Joins (λ k. k ≡ i) words (get_or words i 0)
  joins_one i s = (λ h k e. rw e h, λ h. h i refl)

  joins_or : (P Q : ℕ → Type 0) (a b : ℕ) → Joins P words a → Joins Q words b → Joins (λ k. P k ⊎ Q k) words (bit_or a b)
  joins_or P Q a b f g s = (there, λ h. or_lt s a b ((f s).1 (λ k p. h k (inl p))) ((g s).1 (λ k q. h k (inr q))))
    where
      there : bit_or a b < 2 ^ s → (k : ℕ) → P k ⊎ Q k → get_or words k 0 < 2 ^ s
      there h k (inl p) = (f s).0 (omega (arith, or_add_and a b, and_le_r a b)) k p
      there h k (inr q) = (g s).0 (omega (arith, or_add_and a b, and_le_l a b)) k q

  joins_same : (P Q : ℕ → Type 0) (r : ℕ) → ((k : ℕ) → P k → Q k) → ((k : ℕ) → Q k → P k) → Joins P words r → Joins Q words r
  joins_same P Q r to from f s = (λ h k q. (f s).0 h k (from k q), λ h. (f s).1 (λ k p. h k (to k p)))

  -- The words from a place on

  pub between_start : (from : ℕ) → Joins (Between from from) words 0
  between_start from = joins_none (Between from from) (λ k p. omega arith)

  pub between_more : (from i a : ℕ) → from ≤ i → Joins (Between from i) words a → Joins (Between from (i + 1)) words (bit_or a (get_or words i 0))
  between_more from i a h f =
      joins_same (λ k. Between from i k ⊎ (k ≡ i)) (Between from (i + 1)) (bit_or a (get_or words i 0)) to (λ k p. back k p (dec_lt k i))
      (joins_or (Between from i) (λ k. k ≡ i) a (get_or words i 0) f (joins_one i))
    where
      to : (k : ℕ) → Between from i k ⊎ (k ≡ i) → Between from (i + 1) k
      to k (inl p) = record { least = p.least; most = omega arith }
      to k (inr e) = record { least = omega arith; most = omega arith }

      back : (k : ℕ) → Between from (i + 1) k → Dec (k < i) → Between from i k ⊎ (k ≡ i)
      back k p (yes l) = inl (record { least = p.least; most = l })
      back k p (no l) = inr (omega arith)

  -- The columns from one on

  pub beyond_start : (from : ℕ) → Joins (Beyond from from) words 0
  beyond_start from = joins_none (Beyond from from) (λ k p. omega arith)

  -- the places of a column
  abbrev Places : ℕ → ℕ → Type 0
  Places c k = (((k ≡ c) ⊎ (k ≡ c + 32)) ⊎ (k ≡ c + 64)) ⊎ (k ≡ c + 96)

  abbrev pub all_at_lem : ℕ → ℕ
  all_at_lem c = bit_or (bit_or (bit_or (get_or words c 0) (get_or words (c + 32) 0)) (get_or words (c + 64) 0)) (get_or words (c + 96) 0)

  joins_column : (c : ℕ) → Joins (Places c) words (all_at_lem c)
  joins_column c =
      joins_or (λ k. ((k ≡ c) ⊎ (k ≡ c + 32)) ⊎ (k ≡ c + 64)) (λ k. k ≡ c + 96) _ _
      (joins_or (λ k. (k ≡ c) ⊎ (k ≡ c + 32)) (λ k. k ≡ c + 64) _ _
      (joins_or (λ k. k ≡ c) (λ k. k ≡ c + 32) _ _ (joins_one c) (joins_one (c + 32)))
      (joins_one (c + 64)))
      (joins_one (c + 96))

  pub beyond_more : (from c a : ℕ) → from ≤ c → c < 32 → Joins (Beyond from c) words a → Joins (Beyond from (c + 1)) words (bit_or a (all_at_lem c))
  beyond_more from c a h l f =
      joins_same (λ k. Beyond from c k ⊎ Places c k) (Beyond from (c + 1)) (bit_or a (all_at_lem c)) to (λ k p. back k p (dec_lt (k % 32) c))
      (joins_or (Beyond from c) (Places c) a (all_at_lem c) f (joins_column c))
    where
      to : (k : ℕ) → Beyond from c k ⊎ Places c k → Beyond from (c + 1) k
      to k (inl p) = record { inside = p.inside; least = p.least; most = omega arith }
      to k (inr (inl (inl (inl e)))) = record { inside = omega arith; least = omega arith; most = omega arith }
      to k (inr (inl (inl (inr e)))) = record { inside = omega arith; least = omega arith; most = omega arith }
      to k (inr (inl (inr e))) = record { inside = omega arith; least = omega arith; most = omega arith }
      to k (inr (inr e)) = record { inside = omega arith; least = omega arith; most = omega arith }

      which : (k : ℕ) → k < 128 → k % 32 ≡ c → Dec (k ≡ c) → Dec (k ≡ c + 32) → Dec (k ≡ c + 64) → Places c k
      which k i e (yes p) q r = inl (inl (inl p))
      which k i e (no p) (yes q) r = inl (inl (inr q))
      which k i e (no p) (no q) (yes r) = inl (inr r)
      which k i e (no p) (no q) (no r) = inr (omega arith)

      back : (k : ℕ) → Beyond from (c + 1) k → Dec (k % 32 < c) → Beyond from c k ⊎ Places c k
      back k p (yes d) = inl (record { inside = p.inside; least = p.least; most = d })
      back k p (no d) = inr (which k p.inside (omega arith) (ℕ_discrete k c) (ℕ_discrete k (c + 32)) (ℕ_discrete k (c + 64)))

  words_small : (a : ℕ) → Joins (Between 0 128) words a → a < 2 ^ 16 → (k : ℕ) → k < 128 → get_or words k 0 < 2 ^ 16
  words_small a j l k h = (j 16).0 l k (record { least = omega arith; most = h })

-- Marks within the counts

module _ (f s c : ℕ) (words : List ℕ) where
  -- a clean word is below a power of two where any other than 0 would be
  cleared : (k n : ℕ) → (Clear f s c k (get_or words k 0) → get_or words k 0 < 2 ^ n) → k < 128 → Clean f s c words → get_or words k 0 < 2 ^ n
  cleared k n h l d = go (ℕ_discrete (get_or words k 0) 0)
    where
      go : Dec (get_or words k 0 ≡ 0) → get_or words k 0 < 2 ^ n
      go (yes e) = rw e (pow_pos n)
      go (no ne) = h (d k l ne)

  pub segments_clean : (a : ℕ) → Joins (Between 0 128) words a → Clean f s c words → a < 2 ^ s
  segments_clean a j d = (j s).1 (λ k p. cleared k s (λ x. x.small) p.most d)

  pub functions_clean : (a : ℕ) → Joins (Between (f * 32) 128) words a → Clean f s c words → a < 2 ^ 0
  functions_clean a j d = (j 0).1 (λ k p. cleared k 0 (λ x. absurd (omega arith)) p.most d)

  columns_clean : (a : ℕ) → Joins (Beyond c 32) words a → Clean f s c words → a < 2 ^ 0
  columns_clean a j d = (j 0).1 (λ k p. cleared k 0 (λ x. absurd (omega arith)) p.inside d)

  clean_parts : (a b e : ℕ) → Joins (Between 0 128) words a → a < 2 ^ s → Joins (Between (f * 32) 128) words b → b < 2 ^ 0
      → Joins (Beyond c 32) words e → e < 2 ^ 0 → Clean f s c words
  clean_parts a b e ja la jb lb je le k l ne = record {
    tag = tag (dec_lt (k / 32) f);
    column = column (dec_lt (k % 32) c);
    small = (ja s).0 la k (record { least = omega arith; most = l });
  }
    where
      tag : Dec (k / 32 < f) → k / 32 < f
      tag (yes h) = h
      tag (no h) = let z = (jb 0).0 lb k (record { least = omega arith; most = l }) in absurd (ne (omega arith))

      column : Dec (k % 32 < c) → k % 32 < c
      column (yes h) = h
      column (no h) = let z = (je 0).0 le k (record { inside = l; least = omega arith; most = omega arith }) in absurd (ne (omega arith))

  -- The words were tested: one of the first two tests refused them, or they are as the last one says

  pub refused : (a : ℕ) → Joins (Between 0 128) words a → a < 2 ^ 16 → (Clean f s c words → ⊥) → Tested f s c words false
  refused a j l h = record { small = words_small words a j l; passed = λ t. nowhere t; failed = λ t. h }

  pub tested : (a b e : ℕ) → Joins (Between 0 128) words a → a < 2 ^ 16 → a < 2 ^ s → Joins (Between (f * 32) 128) words b → b ≡ 0
      → Joins (Beyond c 32) words e → Tested f s c words (eqb e 0)
  tested a b e ja l la jb lb je = record {
    small = words_small words a ja l;
    passed = λ t. clean_parts a b e ja la jb (omega arith) je (omega (arith, eqb-true e 0 t));
    failed = λ t d. eqb-false e 0 t (omega (arith, columns_clean e je d));
  }
