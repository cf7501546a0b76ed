-- Tests on the numbers below a bound: whether one passes, how many do, the last that does, and the word that notes which; lists made number by number.
use Rattle.std.specs.Prelude.{Bool, false, cond, ◌&&◌, ◌||◌, List, [], ◌∷◌, ◌++◌, ℕ, zero, suc, ◌+◌, ◌^◌, max, leb}

-- x is one of 1 to n
abbrev pub inside : ℕ → ℕ → Bool
inside x n = leb 1 x && leb x n

-- some number below n passes the test
unfoldable pub some_below : ℕ → (ℕ → Bool) → Bool
some_below zero f = false
some_below (suc n) f = f n || some_below n f

-- how many numbers below n pass the test
unfoldable pub count_below : ℕ → (ℕ → Bool) → ℕ
count_below zero f = 0
count_below (suc n) f = cond (f n) 1 0 + count_below n f

-- one more than the largest number below n that passes the test, or 0
unfoldable pub span_below : ℕ → (ℕ → Bool) → ℕ
span_below zero f = 0
span_below (suc n) f = cond (f n) (suc n) (span_below n f)

-- the largest value of f at the numbers below n, or 0
unfoldable pub max_below : ℕ → (ℕ → ℕ) → ℕ
max_below zero f = 0
max_below (suc n) f = max (f n) (max_below n f)

-- the least of the numbers m, m + 1, .. that passes the test, if one of these n does; else m + n
unfoldable pub least_from : ℕ → ℕ → (ℕ → Bool) → ℕ
least_from zero m f = m
least_from (suc n) m f = cond (f m) m (least_from n (suc m) f)

-- the word of n bits whose bit k is 1 where k passes the test
unfoldable pub word_below : ℕ → (ℕ → Bool) → ℕ
word_below zero f = 0
word_below (suc n) f = cond (f n) (2 ^ n) 0 + word_below n f

-- the list of the values of f at the numbers below n
unfoldable pub list_below : ℕ → (ℕ → ℕ) → List ℕ
list_below zero f = []
list_below (suc n) f = list_below n f ++ (f n ∷ [])

-- the lists that f gives for the numbers below n, one after the other
unfoldable pub join_below : ℕ → (ℕ → List ℕ) → List ℕ
join_below zero f = []
join_below (suc n) f = join_below n f ++ f n
