-- A number in decimal: its digits one by one, how many they are, and that they are the number. Assumes nothing.
use mathlib.Core.Path.{◌≡◌, sym, ap, ◌∙◌}
use mathlib.Core.List.{List, [], ◌∷◌, ◌++◌, foldl-append}
use Prim.Native.Nat.{ℕ, zero, suc, ◌+◌, ◌-◌, ◌*◌, ◌/◌, ◌%◌, ◌^◌, ◌≤◌, ◌<◌}
use native.Mathlib.Nat.{pow-suc}
use native.Mathlib.Decide.{dec_lt}
use native.Mathlib.Omega.{arith}
use borrow.Author.Tests.{lt-ltb, le-ltb}
use lib.ListN.{length, get_or, length-append, get_or-append}
use lib.Seq.{get_or_at}
use Rattle.text.specs.Text.{digit, digits, decimal, value}

-- The number without its last digit

tenth : (f n : ℕ) → n < 10 ^ suc f → n / 10 < 10 ^ f
tenth f n h = let e : 10 ^ suc f ≡ 10 ^ f * 10 = pow-suc 10 f in omega arith

tenth_some : (f n : ℕ) → 10 ≤ n → n < 10 ^ suc f → 1 ≤ f
tenth_some zero n l h = absurd (omega arith)
tenth_some (suc f) n l h = omega arith

digits_small : (f n : ℕ) → n < 10 → digits (suc f) n ≡ digit n ∷ []
unfolding digits
digits_small f n h = rw (lt-ltb n 10 h)

digits_step : (f n : ℕ) → 10 ≤ n → digits (suc f) n ≡ digits f (n / 10) ++ (digit (n % 10) ∷ [])
unfolding digits
digits_step f n h = rw (le-ltb n 10 h)

-- each number is one digit, or the digits of its tenth and one digit more
pub by_digits : {P : Type 0} (n : ℕ) → (n < 10 → P) → (10 ≤ n → P) → P
by_digits {P} n small more = go (dec_lt n 10)
  where
    go : Dec (n < 10) → P
    go (yes l) = small l
    go (no l) = more (omega arith)

-- what bounds the number of digits may be greater
digits_enough : (f n : ℕ) → 1 ≤ f → n < 10 ^ f → digits (suc f) n ≡ digits f n
digits_enough zero n s h = absurd (omega arith)
digits_enough (suc f) n s h =
    by_digits
    n
    (λ l. digits_small (suc f) n l ∙ sym (digits_small f n l))
    (λ l.
    digits_step (suc f) n l
    ∙ ap (λ x. x ++ (digit (n % 10) ∷ [])) (digits_enough f (n / 10) (tenth_some f n l h) (tenth f n h))
    ∙ sym (digits_step f n l))

pub decimal_small : (n : ℕ) → n < 10 → decimal n ≡ digit n ∷ []
unfolding decimal
decimal_small n h = digits_small 9 n h

decimal_more : (n : ℕ) → 10 ≤ n → n < 10 ^ 10 → decimal n ≡ decimal (n / 10) ++ (digit (n % 10) ∷ [])
unfolding decimal
decimal_more n l h = digits_step 9 n l ∙ ap (λ x. x ++ (digit (n % 10) ∷ [])) (sym (digits_enough 9 (n / 10) (omega arith) (tenth 9 n h)))

pub decimal_step : (n : ℕ) → 10 ≤ n → n < 2 ^ 32 → decimal n ≡ decimal (n / 10) ++ (digit (n % 10) ∷ [])
decimal_step n l h = decimal_more n l (omega arith)

-- How many digits

digits_some : (f n : ℕ) → 1 ≤ length (digits (suc f) n)
digits_some f n =
    by_digits
    n
    (λ l. rw (digits_small f n l) (omega arith))
    (λ l. rw (digits_step f n l, length-append (digits f (n / 10)) (digit (n % 10) ∷ [])) (omega arith))

digits_length : (f n k : ℕ) → 1 ≤ k → n < 10 ^ k → length (digits f n) ≤ k
unfolding digits
digits_length zero n k s h = omega arith
digits_length (suc f) n zero s h = absurd (omega arith)
digits_length (suc f) n (suc k) s h =
    by_digits
    n
    (λ l. rw (digits_small f n l) (omega arith))
    (λ l.
    let less : length (digits f (n / 10)) ≤ k = digits_length f (n / 10) k (tenth_some k n l h) (tenth k n h) in
    rw (digits_step f n l, length-append (digits f (n / 10)) (digit (n % 10) ∷ [])) (omega arith))

pub decimal_longer : (n : ℕ) → 10 ≤ n → n < 2 ^ 32 → length (decimal n) ≡ length (decimal (n / 10)) + 1
decimal_longer n l h = ap length (decimal_step n l h) ∙ length-append (decimal (n / 10)) (digit (n % 10) ∷ [])

pub decimal_some : (n : ℕ) → 1 ≤ length (decimal n)
unfolding decimal
decimal_some n = digits_some 9 n

pub decimal_length : (n k : ℕ) → 1 ≤ k → n < 10 ^ k → length (decimal n) ≤ k
unfolding decimal
decimal_length n k s h = digits_length 10 n k s h

-- The number again

-- the last digit is read after the others
value_last : (l : List ℕ) (b : ℕ) → value (l ++ (b ∷ [])) ≡ value l * 10 + (b - 48)
unfolding value
value_last l b = foldl-append (λ v b. v * 10 + (b - 48)) 0 l (b ∷ [])

digits_value : (f n : ℕ) → 1 ≤ f → n < 10 ^ f → value (digits f n) ≡ n
unfolding value
digits_value zero n s h = absurd (omega arith)
digits_value (suc f) n s h =
    by_digits
    n
    (λ l. ap value (digits_small f n l) ∙ omega arith)
    (λ l.
    let less : value (digits f (n / 10)) ≡ n / 10 = digits_value f (n / 10) (tenth_some f n l h) (tenth f n h) in
    ap value (digits_step f n l) ∙ value_last (digits f (n / 10)) (digit (n % 10)) ∙ omega arith)

pub decimal_value : (n : ℕ) → n < 10 ^ 10 → value (decimal n) ≡ n
unfolding decimal
decimal_value n h = digits_value 10 n (omega arith) h

-- Its bytes

-- what holds of each byte of a text, and of one more, holds of each byte of both
each_more : (P : ℕ → Type 0) (l : List ℕ) (b : ℕ) → ((i : ℕ) → i < length l → P (get_or l i 0)) → P b
    → (i : ℕ) → i < length (l ++ (b ∷ [])) → P (get_or (l ++ (b ∷ [])) i 0)
each_more P l b each one i h = go (dec_lt i (length l))
  where
    go : Dec (i < length l) → P (get_or (l ++ (b ∷ [])) i 0)
    go (yes k) = rw (get_or-append l (b ∷ []) 0 i k) (each i k)
    go (no k) =
        let n : length (l ++ (b ∷ [])) ≡ length l + 1 = length-append l (b ∷ []) in
        let e : length l ≡ i = omega arith in
        rw (get_or_at l b [] 0 i e) one

digits_digits : (f n i : ℕ) → i < length (digits f n) → (48 ≤ get_or (digits f n) i 0) × (get_or (digits f n) i 0 ≤ 57)
unfolding digits
digits_digits zero n i h = absurd (omega arith)
digits_digits (suc f) n i h =
    by_digits
    n
    (λ l.
    let one = each_more (λ b. (48 ≤ b) × (b ≤ 57)) [] (digit n) (λ j k. absurd (omega arith)) (omega arith, omega arith) i in
    rw (digits_small f n l) (one (rw (digits_small f n l) at h)))
    (λ l.
    let more = each_more (λ b. (48 ≤ b) × (b ≤ 57)) (digits f (n / 10)) (digit (n % 10)) (digits_digits f (n / 10)) (omega arith, omega arith) i in
    rw (digits_step f n l) (more (rw (digits_step f n l) at h)))

-- each byte is a digit
pub decimal_digits : (n i : ℕ) → i < length (decimal n) → (48 ≤ get_or (decimal n) i 0) × (get_or (decimal n) i 0 ≤ 57)
unfolding decimal
decimal_digits n i h = digits_digits 10 n i h

digits_leads : (f n : ℕ) → 1 ≤ f → 1 ≤ n → n < 10 ^ f → 48 < get_or (digits f n) 0 0
digits_leads zero n s m h = absurd (omega arith)
digits_leads (suc zero) n s m h = rw (digits_small 0 n (omega arith)) (omega arith)
digits_leads (suc (suc f)) n s m h =
    by_digits
    n
    (λ l. rw (digits_small (suc f) n l) (omega arith))
    (λ l.
    let first = get_or-append (digits (suc f) (n / 10)) (digit (n % 10) ∷ []) 0 0 (digits_some f (n / 10)) in
    rw (digits_step (suc f) n l, first) (digits_leads (suc f) (n / 10) (omega arith) (omega arith) (tenth (suc f) n h)))

-- the first byte is no zero, but of the number 0
pub decimal_leads : (n : ℕ) → 1 ≤ n → n < 10 ^ 10 → get_or (decimal n) 0 0 ≡ 48 → ⊥
unfolding decimal
decimal_leads n m h e = let first = digits_leads 10 n (omega arith) m h in omega arith
