-- Text as a list of bytes, texts compared, numbers in decimal, the columns of a word, and text put into lent bytes from an index on.
use Rattle.std.specs.Prelude.{Bool, true, false, cond, ◌&&◌, ℕ, zero, suc, ◌+◌, ◌-◌, ◌*◌, ◌/◌, ◌%◌, leb, ltb, eqb, length, get_or, take, drop}
use mathlib.Core.List.{List, [] as none, ◌∷◌ as ◌then◌, ◌++◌, foldl}
use Prim.Native.Char.{code}
use Prim.Native.String.{String, [], ◌∷◌}
use Rattle.words.specs.Bits.{bit}
use Rattle.words.specs.Below.{list_below, join_below}

-- Text

-- the bytes of a text of ASCII characters
abbrev pub ascii : String → List ℕ
ascii [] = none
ascii (c ∷ s) = code c then ascii s

-- two texts are the same, byte by byte (`same_eq`, `same_of`, proofs/SameLaws.antt)
unfoldable pub same : List ℕ → List ℕ → Bool
same none none = true
same none (b then y) = false
same (a then x) none = false
same (a then x) (b then y) = eqb a b && same x y

-- the byte of one decimal digit
abbrev pub digit : ℕ → ℕ
digit d = 48 + d

-- a number in decimal, without leading zeros; f bounds the number of its digits
unfoldable pub digits : ℕ → ℕ → List ℕ
digits zero n = none
digits (suc f) n = cond (ltb n 10) (digit n then none) (digits f (n / 10) ++ digit (n % 10) then none)

-- a number of 32 bits has at most ten digits
-- (`decimal_value`, `decimal_digits`, `decimal_leads`, proofs/DecimalLaws.antt: it is the number again, its bytes are digits, and the first is no zero
-- unless it is the only one)
unfoldable pub decimal : ℕ → List ℕ
decimal n = digits 10 n

-- Rows

-- the columns c_n to c_1 of a word
unfoldable pub column_text : ℕ → ℕ → List ℕ
column_text n w = list_below n (λ i. digit (bit w (n - 1 - i)))

-- c_n to c_1, or `-` if n is 0
abbrev pub vector_text : ℕ → ℕ → List ℕ
vector_text n w = cond (eqb n 0) (ascii "-") (column_text n w)

-- numbers in decimal, each after a space
unfoldable pub spaced : List ℕ → List ℕ
spaced numbers = join_below (length numbers) (λ i. ascii " " ++ decimal (get_or numbers i 0))

-- Digits read

-- the number that digits say, read from the left: ten times the number so far, and the next digit
unfoldable pub value : List ℕ → ℕ
value bytes = foldl (λ v b. v * 10 + (b - 48)) 0 bytes

-- Lent bytes

-- text put over the bytes from an index on; the others stay as before
abbrev pub placed : List ℕ → ℕ → List ℕ → List ℕ
placed bytes at text = take at bytes ++ (text ++ drop (at + length text) bytes)

-- text that does not fit is left out: the bytes stay as before
unfoldable pub put_in : List ℕ → ℕ → List ℕ → List ℕ
put_in bytes at text = cond (leb (at + length text) (length bytes)) (placed bytes at text) bytes

-- the index after the text, or the index itself where the text does not fit
unfoldable pub put_end : List ℕ → ℕ → List ℕ → ℕ
put_end bytes at text = cond (leb (at + length text) (length bytes)) (at + length text) at
