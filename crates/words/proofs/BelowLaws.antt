-- Laws of the tests on the numbers below a bound, and the count of a word's ones. Assumes nothing.
use mathlib.Core.Path.{◌≡◌, refl, sym, ap, ap₂, ◌∙◌, subst}
use mathlib.Core.Logic.{◌⊎◌, inl, inr}
use mathlib.Core.Bool.{Bool, true, false, cond, ◌||◌}
use Prim.Native.Nat.{ℕ, zero, suc, ◌+◌, ◌*◌, ◌/◌, ◌%◌, ◌^◌, ◌≤◌, ◌<◌, max}
use native.Mathlib.Nat.{le_of_suc-le-suc, not-suc-le-zero, eq-or-lt_of_le, zero-lt-suc, two-pow-succ, mul-add-div_right, mul-add-mod_self_right, le_dest, one-mul, zero-add, pow-suc, div-eq_of_lt, mod-lt, mod-eq_of_lt, mod-one}
use native.Mathlib.Decide.{dec_lt}
use native.Mathlib.Numerals.{add-one}
use native.Mathlib.Decide.{dec_le}
use native.Mathlib.Omega.{arith}
use lib.Bits.{bit_or, or_shifted_r}
use lib.Count.{ones, ones_cat}
use lib.Dec.{eqb}
use lib.Pow.{pow_pos, pow-add, high, mod-pow-add}
use borrow.Author.Tests.{lt-ltb}
use Rattle.words.specs.Bits.{bit, is_set, set_bit}
use Rattle.words.specs.Below.{some_below, count_below, span_below, max_below, least_from, word_below}
use Rattle.words.proofs.Tests.{nowhere, or_cases, or_true_left, or_true_right, not_passed}
use Rattle.words.proofs.BitLaws.{bit_above, bit_small, set_value}

-- Some number passes

pub some_intro : (m : ℕ) (f : ℕ → Bool) (k : ℕ) → k < m → f k ≡ true → some_below m f ≡ true
unfolding some_below
some_intro zero f k h p = absurd (not-suc-le-zero h)
some_intro (suc m) f k h p = pick (eq-or-lt_of_le (le_of_suc-le-suc h)) (λ o. some_intro m f k o p)
  where
    pick : (k ≡ m) ⊎ (k < m) → (k < m → some_below m f ≡ true) → f m || some_below m f ≡ true
    pick (inl e) r = or_true_left (f m) (some_below m f) (rw e at p)
    pick (inr o) r = or_true_right (f m) (some_below m f) (r o)

pub record Passes (m : ℕ) (f : ℕ → Bool) : Type 0 where
  pub at : ℕ
  pub inside : at < m
  pub passed : f at ≡ true

pub some_elim : (m : ℕ) (f : ℕ → Bool) → some_below m f ≡ true → Passes m f
unfolding some_below
some_elim zero f h = nowhere h
some_elim (suc m) f h = pick (or_cases (f m) (some_below m f) h) (some_elim m f)
  where
    pick : (f m ≡ true) ⊎ (some_below m f ≡ true) → (some_below m f ≡ true → Passes m f) → Passes (suc m) f
    pick (inl e) r = record { at = m; inside = omega arith; passed = e }
    pick (inr o) r = let p = r o in record { at = p.at; inside = omega arith; passed = p.passed }

-- none below m passes
pub some_none : (m : ℕ) (f : ℕ → Bool) → ((k : ℕ) → k < m → f k ≡ false) → some_below m f ≡ false
some_none m f h = not_passed (some_below m f) (λ e. let p = some_elim m f e in nowhere (sym (h p.at p.inside) ∙ p.passed))

-- tests that agree below m
pub some_same : (m : ℕ) (f h : ℕ → Bool) → ((k : ℕ) → k < m → f k ≡ h k) → some_below m f ≡ some_below m h
unfolding some_below
some_same zero f h e = refl
some_same (suc m) f h e = ap₂ (λ (a b : Bool). a || b) (e m (omega arith)) (some_same m f h (λ k l. e k (omega arith)))

-- The last that passes

pub span_most : (n : ℕ) (f : ℕ → Bool) → span_below n f ≤ n
unfolding span_below
span_most zero f = omega arith
span_most (suc n) f = go (f n) (span_most n f)
  where
    go : (b : Bool) → span_below n f ≤ n → cond b (suc n) (span_below n f) ≤ suc n
    go true h = omega arith
    go false h = omega arith

-- a number that passes is below the span
pub span_above : (n : ℕ) (f : ℕ → Bool) (k : ℕ) → k < n → f k ≡ true → k < span_below n f
unfolding span_below
span_above zero f k h p = absurd (not-suc-le-zero h)
span_above (suc n) f k h p = pick (f n) refl (eq-or-lt_of_le (le_of_suc-le-suc h)) (λ o. span_above n f k o p)
  where
    pick : (b : Bool) → f n ≡ b → (k ≡ n) ⊎ (k < n) → (k < n → k < span_below n f) → k < cond b (suc n) (span_below n f)
    pick true e o r = h
    pick false e (inl q) r = nowhere (sym e ∙ (rw q at p))
    pick false e (inr o) r = r o

-- a span other than 0 ends at a number that passes
pub span_passes : (n : ℕ) (f : ℕ → Bool) (k : ℕ) → span_below n f ≡ suc k → f k ≡ true
unfolding span_below
span_passes zero f k e = absurd (omega arith)
span_passes (suc n) f k e = pick (f n) refl e (span_passes n f k)
  where
    pick : (b : Bool) → f n ≡ b → cond b (suc n) (span_below n f) ≡ suc k → (span_below n f ≡ suc k → f k ≡ true) → f k ≡ true
    pick true p q r = let s : n ≡ k = omega arith in rw s at p
    pick false p q r = r q

pub span_same : (n : ℕ) (f h : ℕ → Bool) → ((k : ℕ) → k < n → f k ≡ h k) → span_below n f ≡ span_below n h
unfolding span_below
span_same zero f h e = refl
span_same (suc n) f h e =
    ap₂ (λ (b : Bool) (m : ℕ). cond b (suc n) m) (e n (omega arith)) (span_same n f h (λ k l. e k (omega arith)))

-- The largest value

pub max_above : (n : ℕ) (f : ℕ → ℕ) (k : ℕ) → k < n → f k ≤ max_below n f
unfolding max_below
max_above zero f k h = absurd (not-suc-le-zero h)
max_above (suc n) f k h = pick (eq-or-lt_of_le (le_of_suc-le-suc h)) (max_above n f k)
  where
    pick : (k ≡ n) ⊎ (k < n) → (k < n → f k ≤ max_below n f) → f k ≤ max (f n) (max_below n f)
    pick (inl e) r = let s : f k ≡ f n = ap f e in omega arith
    pick (inr o) r = let s = r o in omega arith

pub max_most : (n : ℕ) (f : ℕ → ℕ) (m : ℕ) → ((k : ℕ) → k < n → f k ≤ m) → max_below n f ≤ m
unfolding max_below
max_most zero f m h = omega arith
max_most (suc n) f m h = omega (arith, h n (omega arith), max_most n f m (λ k l. h k (omega arith)))

pub max_same : (n : ℕ) (f h : ℕ → ℕ) → ((k : ℕ) → k < n → f k ≡ h k) → max_below n f ≡ max_below n h
unfolding max_below
max_same zero f h e = refl
max_same (suc n) f h e = ap₂ (λ (a b : ℕ). max a b) (e n (omega arith)) (max_same n f h (λ k l. e k (omega arith)))

-- the largest of one value or more is one of them
pub record Reached (n : ℕ) (f : ℕ → ℕ) : Type 0 where
  pub at : ℕ
  pub inside : at < n
  pub value : f at ≡ max_below n f

pub max_reached : (n : ℕ) (f : ℕ → ℕ) → Reached (suc n) f
unfolding max_below
max_reached zero f = record { at = 0; inside = omega arith; value = omega arith }
max_reached (suc n) f = go (max_reached n f) (dec_lt (max_below (suc n) f) (f (suc n)))
  where
    go : Reached (suc n) f → Dec (max_below (suc n) f < f (suc n)) → Reached (suc (suc n)) f
    go r (yes h) = record { at = suc n; inside = omega arith; value = omega arith }
    go r (no h) = record { at = r.at; inside = omega arith; value = r.value ∙ omega arith }

-- one number more, at the end or at the start
pub max_more : (n : ℕ) (f : ℕ → ℕ) → max_below (n + 1) f ≡ max (f n) (max_below n f)
unfolding max_below
max_more n f = ap (λ m. max_below m f) (add-one n)

pub max_start : (n : ℕ) (f : ℕ → ℕ) → max_below (n + 1) f ≡ max (f 0) (max_below n (λ k. f (k + 1)))
unfolding max_below
max_start zero f = refl
max_start (suc n) f =
    let e : n + 1 ≡ suc n = omega arith in
    let r : max_below (suc n) f ≡ max (f 0) (max_below n (λ k. f (k + 1))) = ap (λ m. max_below m f) (sym e) ∙ max_start n f in
    max_more (suc n) f
    ∙ ap₂ (λ (a b : ℕ). max a b) (ap f (sym e)) r
    ∙ omega arith

-- The least that passes

pub least_first : (n m : ℕ) (f : ℕ → Bool) → m ≤ least_from n m f
unfolding least_from
least_first zero m f = omega arith
least_first (suc n) m f = go (f m) (least_first n (suc m) f)
  where
    go : (b : Bool) → suc m ≤ least_from n (suc m) f → m ≤ cond b m (least_from n (suc m) f)
    go true h = omega arith
    go false h = omega arith

-- what stands before the least does not pass
pub least_skips : (n m : ℕ) (f : ℕ → Bool) (k : ℕ) → m ≤ k → k < least_from n m f → f k ≡ false
unfolding least_from
least_skips zero m f k h l = absurd (omega arith)
least_skips (suc n) m f k h l = go (f m) refl l (eq-or-lt_of_le h) (λ o. least_skips n (suc m) f k o)
  where
    go : (b : Bool) → f m ≡ b → k < cond b m (least_from n (suc m) f) → (m ≡ k) ⊎ (m < k) → (m < k → k < least_from n (suc m) f → f k ≡ false) → f k ≡ false
    go true e x o r = absurd (omega arith)
    go false e x (inl q) r = rw q at e
    go false e x (inr o) r = r o x

-- and so the least is at most any that passes
pub least_le : (n m : ℕ) (f : ℕ → Bool) (k : ℕ) → m ≤ k → f k ≡ true → least_from n m f ≤ k
least_le n m f k h e = go (dec_le (least_from n m f) k)
  where
    go : Dec (least_from n m f ≤ k) → least_from n m f ≤ k
    go (yes l) = l
    go (no l) = nowhere (sym (least_skips n m f k h (omega arith)) ∙ e)

-- where one of the n numbers passes, the least does
pub least_passes : (n m : ℕ) (f : ℕ → Bool) (k : ℕ) → m ≤ k → k < m + n → f k ≡ true → f (least_from n m f) ≡ true
unfolding least_from
least_passes zero m f k h l p = absurd (omega arith)
least_passes (suc n) m f k h l p = go (f m) refl (eq-or-lt_of_le h) (λ o. least_passes n (suc m) f k o (omega arith) p)
  where
    go : (b : Bool) → f m ≡ b → (m ≡ k) ⊎ (m < k) → (m < k → f (least_from n (suc m) f) ≡ true) → f (cond b m (least_from n (suc m) f)) ≡ true
    go true e o r = e
    go false e (inl q) r = nowhere (sym e ∙ (rw (← q) at p))
    go false e (inr o) r = r o

-- a number that the numbers before it do not pass is the least, where it passes or all n were tried
pub least_is : (n m : ℕ) (f : ℕ → Bool) (k : ℕ) → m ≤ k → k ≤ m + n → ((j : ℕ) → m ≤ j → j < k → f j ≡ false)
    → (k < m + n → f k ≡ true) → least_from n m f ≡ k
unfolding least_from
least_is zero m f k h l s p = omega arith
least_is (suc n) m f k h l s p = go (eq-or-lt_of_le h) (λ o. least_is n (suc m) f k o (omega arith) (λ j a. s j (omega arith)) (λ a. p (omega arith)))
  where
    go : (m ≡ k) ⊎ (m < k) → (m < k → least_from n (suc m) f ≡ k) → cond (f m) m (least_from n (suc m) f) ≡ k
    go (inl e) r = let t : f m ≡ true = ap f e ∙ p (omega arith) in rw t e
    go (inr o) r = let t : f m ≡ false = s m (omega arith) o in rw t (r o)

-- The word of a test

pub word_lt : (n : ℕ) (f : ℕ → Bool) → word_below n f < 2 ^ n
unfolding word_below
word_lt zero f = zero-lt-suc 0
word_lt (suc n) f = rw (two-pow-succ n) (pick (f n) (word_lt n f))
  where
    pick : (b : Bool) → word_below n f < 2 ^ n → cond b (2 ^ n) 0 + word_below n f < 2 ^ n + 2 ^ n
    pick true h = omega arith
    pick false h = omega arith

-- the top bit, and the bits below it
top_bit : (n w : ℕ) (b : Bool) → w < 2 ^ n → bit (cond b (2 ^ n) 0 + w) n ≡ cond b 1 0
top_bit n w true h = ap (λ (x : ℕ). (x + w) / 2 ^ n % 2) (sym (one-mul (2 ^ n))) ∙ ap (λ (x : ℕ). x % 2) (high 1 n h)
top_bit n w false h = ap (λ (x : ℕ). x / 2 ^ n % 2) (zero-add w) ∙ ap (λ (x : ℕ). x % 2) (div-eq_of_lt h)

low_bit : (n w k : ℕ) (b : Bool) → k < n → bit (cond b (2 ^ n) 0 + w) k ≡ bit w k
low_bit n w k false h = ap (λ (x : ℕ). x / 2 ^ k % 2) (zero-add w)
low_bit n w k true h = go (le_dest h)
  where
    go : (d : ℕ) × (suc k + d ≡ n) → bit (2 ^ n + w) k ≡ bit w k
    go p =
        let d : ℕ = p.0 in
        let sum : n ≡ suc d + k = omega (arith, p.1) in
        ap (λ (x : ℕ). (2 ^ x + w) / 2 ^ k % 2) sum
        ∙ ap (λ (x : ℕ). (x + w) / 2 ^ k % 2) (pow-add 2 (suc d) k ∙ ap (λ (x : ℕ). x * 2 ^ k) (pow-suc 2 d))
        ∙ ap (λ (x : ℕ). x % 2) (mul-add-div_right (pow_pos k) (2 ^ d * 2) w)
        ∙ mul-add-mod_self_right (2 ^ d) 2 (w / 2 ^ k)

pub word_bit : (n : ℕ) (f : ℕ → Bool) (k : ℕ) → k < n → bit (word_below n f) k ≡ cond (f k) 1 0
unfolding word_below
word_bit zero f k h = absurd (not-suc-le-zero h)
word_bit (suc n) f k h = pick (eq-or-lt_of_le (le_of_suc-le-suc h)) (word_bit n f k)
  where
    pick : (k ≡ n) ⊎ (k < n) → (k < n → bit (word_below n f) k ≡ cond (f k) 1 0) → bit (word_below (suc n) f) k ≡ cond (f k) 1 0
    pick (inl e) r = subst (λ (x : ℕ). bit (word_below (suc n) f) x ≡ cond (f x) 1 0) (sym e) (top_bit n (word_below n f) (f n) (word_lt n f))
    pick (inr o) r = low_bit n (word_below n f) k (f n) o ∙ r o

pub word_above : (n : ℕ) (f : ℕ → Bool) (k : ℕ) → n ≤ k → bit (word_below n f) k ≡ 0
word_above n f k h = bit_above (word_below n f) n k (word_lt n f) h

pub word_set : (n : ℕ) (f : ℕ → Bool) (k : ℕ) → k < n → is_set (word_below n f) k ≡ f k
word_set n f k h = ap (λ x. eqb x 1) (word_bit n f k h) ∙ go (f k)
  where
    go : (b : Bool) → eqb (cond b 1 0) 1 ≡ b
    go true = refl
    go false = refl

-- tests that agree below n give one word
pub word_same : (n : ℕ) (f h : ℕ → Bool) → ((k : ℕ) → k < n → f k ≡ h k) → word_below n f ≡ word_below n h
unfolding word_below
word_same zero f h e = refl
word_same (suc n) f h e =
    ap₂ (λ (b : Bool) (m : ℕ). cond b (2 ^ n) 0 + m) (e n (omega arith)) (word_same n f h (λ k l. e k (omega arith)))

-- the word has no bit from the span on
pub word_span : (n : ℕ) (f : ℕ → Bool) → word_below n f < 2 ^ span_below n f
unfolding word_below span_below
word_span zero f = zero-lt-suc 0
word_span (suc n) f = go (f n) refl (word_span n f)
  where
    go : (b : Bool) → f n ≡ b → word_below n f < 2 ^ span_below n f → cond b (2 ^ n) 0 + word_below n f < 2 ^ cond b (suc n) (span_below n f)
    go true e h = let d = two-pow-succ n in let l = word_lt n f in omega arith
    go false e h = rw (zero-add (word_below n f)) h

-- one bit more: a 1 that is set, or a 0
pub word_one : (n : ℕ) (f : ℕ → Bool) → n < 32 → f n ≡ true → set_bit (word_below n f) n ≡ word_below (n + 1) f
unfolding word_below set_bit
word_one n f h e =
    ap (λ b. cond b (bit_or (word_below n f) (2 ^ n)) (word_below n f)) (lt-ltb n 32 h)
    ∙ ap (bit_or (word_below n f)) (sym (one-mul (2 ^ n)))
    ∙ or_shifted_r 1 n (word_below n f) (word_lt n f)
    ∙ ap (λ x. x + word_below n f) (one-mul (2 ^ n))
    ∙ sym (ap (λ m. word_below m f) (add-one n) ∙ ap (λ b. cond b (2 ^ n) 0 + word_below n f) e)

pub word_none : (n : ℕ) (f : ℕ → Bool) → f n ≡ false → word_below n f ≡ word_below (n + 1) f
unfolding word_below
word_none n f e =
    sym (ap (λ m. word_below m f) (add-one n) ∙ ap (λ b. cond b (2 ^ n) 0 + word_below n f) e ∙ zero-add (word_below n f))

-- How many pass

-- tests that agree below n count alike
pub count_same : (n : ℕ) (f h : ℕ → Bool) → ((k : ℕ) → k < n → f k ≡ h k) → count_below n f ≡ count_below n h
unfolding count_below
count_same zero f h e = refl
count_same (suc n) f h e =
    ap₂ (λ (b : Bool) (m : ℕ). cond b 1 0 + m) (e n (omega arith)) (count_same n f h (λ k l. e k (omega arith)))

pub count_none : (n : ℕ) (f : ℕ → Bool) → ((k : ℕ) → k < n → f k ≡ false) → count_below n f ≡ 0
unfolding count_below
count_none zero f e = refl
count_none (suc n) f e = ap₂ (λ (b : Bool) (m : ℕ). cond b 1 0 + m) (e n (omega arith)) (count_none n f (λ k l. e k (omega arith)))

pub count_most : (n : ℕ) (f : ℕ → Bool) → count_below n f ≤ n
unfolding count_below
count_most zero f = omega arith
count_most (suc n) f = go (f n) (count_most n f)
  where
    go : (b : Bool) → count_below n f ≤ n → cond b 1 0 + count_below n f ≤ suc n
    go true h = omega arith
    go false h = omega arith

-- one number more, at the end or at the start
pub count_more : (n : ℕ) (f : ℕ → Bool) → count_below (n + 1) f ≡ cond (f n) 1 0 + count_below n f
unfolding count_below
count_more n f = ap (λ m. count_below m f) (add-one n)

pub count_start : (n : ℕ) (f : ℕ → Bool) → count_below (n + 1) f ≡ cond (f 0) 1 0 + count_below n (λ k. f (k + 1))
unfolding count_below
count_start zero f = refl
count_start (suc n) f =
    let e : n + 1 ≡ suc n = omega arith in
    let r : count_below (suc n) f ≡ cond (f 0) 1 0 + count_below n (λ k. f (k + 1)) = ap (λ m. count_below m f) (sym e) ∙ count_start n f in
    count_more (suc n) f
    ∙ ap₂ (λ (a : Bool) (b : ℕ). cond a 1 0 + b) (ap f (sym e)) r
    ∙ omega arith

pub count_word : (n : ℕ) (f : ℕ → Bool) → count_below n (is_set (word_below n f)) ≡ count_below n f
count_word n f = count_same n (is_set (word_below n f)) f (λ k h. word_set n f k h)

-- a bit counts for itself
bit_ones : (x : ℕ) → x < 2 → ones x ≡ x
unfolding ones
bit_ones zero h = refl
bit_ones (suc zero) h = refl
bit_ones (suc (suc x)) h = absurd (omega arith)

low_ones : (n w : ℕ) → ones (w % 2 ^ n) ≡ count_below n (is_set w)
unfolding count_below ones
low_ones zero w = ap ones (mod-one w)
low_ones (suc n) w =
    let top : w % 2 ^ suc n ≡ bit w n * 2 ^ n + w % 2 ^ n = ap (λ k. w % 2 ^ k) (omega arith) ∙ mod-pow-add w 1 n in
    ap ones top ∙ ones_cat n (bit w n) (w % 2 ^ n) (mod-lt w (pow_pos n))
    ∙ ap₂ (λ (a b : ℕ). a + b) (bit_ones (bit w n) (bit_small w n) ∙ sym (set_value w n)) (low_ones n w)

-- the machine's count of ones is the number of indices whose bit is 1
pub ones_count : (n w : ℕ) → w < 2 ^ n → ones w ≡ count_below n (is_set w)
ones_count n w h = ap ones (sym (mod-eq_of_lt h)) ∙ low_ones n w
