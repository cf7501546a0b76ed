-- Words and their bytes, the lowest first. Assumes nothing.
use mathlib.Core.Path.{◌≡◌, sym, ap, ap₂, ◌∙◌}
use mathlib.Core.List.{List, [], ◌∷◌, ◌++◌}
use Prim.Native.Nat.{ℕ, zero, suc, ◌+◌, ◌*◌, ◌/◌, ◌%◌, ◌^◌, ◌≤◌, ◌<◌}
use native.Mathlib.Nat.{mod-eq_of_lt, div-div-eq-div-mul}
use native.Mathlib.Numerals.{add-one}
use native.Mathlib.Omega.{arith}
use lib.Arith.{digits_div, digits_mod}
use lib.ListN.{length, take, drop}
use lib.Seq.{drop-cons, take-add, drop-drop}
use Rattle.words.specs.Below.{join_below}
use Rattle.unit_file.specs.File.{bytes16, bytes32}
use Rattle.unit_file.specs.Read.{byte_in, word16, word32}

-- Two and four bytes

low : (x y : ℕ) → x < 256 → (x + 256 * y) % 256 ≡ x
low x y h = let e : x + 256 * y ≡ y * 256 + x = omega arith in rw e (digits_mod y h)

high : (x y : ℕ) → x < 256 → (x + 256 * y) / 256 ≡ y
high x y h = let e : x + 256 * y ≡ y * 256 + x = omega arith in rw e (digits_div y h)

-- the digits of a word
third : (w : ℕ) → w / 65536 ≡ w / 256 / 256
third w = sym (div-div-eq-div-mul w 256 256)

fourth : (w : ℕ) → w / 16777216 ≡ w / 256 / 256 / 256
fourth w = sym (div-div-eq-div-mul w 65536 256) ∙ ap (λ k. k / 256) (third w)

pub half_value : (w : ℕ) → w < 65536 → w % 256 + 256 * (w / 256 % 256) ≡ w
half_value w h = omega arith

pub word_value : (w : ℕ) → w < 2 ^ 32 → w % 256 + 256 * (w / 256 % 256) + 65536 * (w / 65536 % 256 + 256 * (w / 16777216 % 256)) ≡ w
word_value w h = rw (third w, fourth w) (omega arith)

half_bytes : (x y : ℕ) → x < 256 → y < 256 → bytes16 (x + 256 * y) ≡ x ∷ y ∷ []
half_bytes x y a b =
    let e : (x + 256 * y) / 256 % 256 ≡ y = ap (λ k. k % 256) (high x y a) ∙ mod-eq_of_lt b in
    rw (low x y a, e)

word_bytes : (x y z w : ℕ) → x < 256 → y < 256 → z < 256 → w < 256 → bytes32 (x + 256 * y + 65536 * (z + 256 * w)) ≡ x ∷ y ∷ z ∷ w ∷ []
word_bytes x y z w a b d e =
    let v = x + 256 * (y + 256 * (z + 256 * w)) in
    let same : x + 256 * y + 65536 * (z + 256 * w) ≡ x + 256 * (y + 256 * (z + 256 * w)) = omega arith in
    let v1 : v / 256 ≡ y + 256 * (z + 256 * w) = high x (y + 256 * (z + 256 * w)) a in
    let v2 : v / 65536 ≡ z + 256 * w = third v ∙ ap (λ k. k / 256) v1 ∙ high y (z + 256 * w) b in
    let v3 : v / 16777216 ≡ w = fourth v ∙ ap (λ k. k / 256) (sym (third v) ∙ v2) ∙ high z w d in
    ap bytes32 same ∙ bytes_of v x y z w
    (low x (y + 256 * (z + 256 * w)) a)
    (ap (λ k. k % 256) v1 ∙ low y (z + 256 * w) b)
    (ap (λ k. k % 256) v2 ∙ low z w d)
    (ap (λ k. k % 256) v3 ∙ mod-eq_of_lt e)
  where
    bytes_of : (v x y z w : ℕ) → v % 256 ≡ x → v / 256 % 256 ≡ y → v / 65536 % 256 ≡ z → v / 16777216 % 256 ≡ w → bytes32 v ≡ x ∷ y ∷ z ∷ w ∷ []
    bytes_of v x y z w e0 e1 e2 e3 = cc

-- Words that stand in a list

-- every element is a byte
abbrev pub Bytes : List ℕ → Type 0
Bytes b = (i : ℕ) → byte_in b i < 256

two_at : (b : List ℕ) (i : ℕ) → i + 2 ≤ length b → take 2 (drop i b) ≡ byte_in b i ∷ byte_in b (i + 1) ∷ []
two_at b i h =
    ap (take 2) (drop-cons b i 0 (omega arith) ∙ ap (λ l. byte_in b i ∷ l) (drop-cons b (suc i) 0 (omega arith)))
    ∙ ap (λ k. byte_in b i ∷ byte_in b k ∷ []) (sym (add-one i))

pub half_at : (b : List ℕ) (i : ℕ) → Bytes b → i + 2 ≤ length b → take 2 (drop i b) ≡ bytes16 (word16 b i)
half_at b i s h = two_at b i h ∙ sym (half_bytes (byte_in b i) (byte_in b (i + 1)) (s i) (s (i + 1)))

pub word_at : (b : List ℕ) (i : ℕ) → Bytes b → i + 4 ≤ length b → take 4 (drop i b) ≡ bytes32 (word32 b i)
word_at b i s h =
    take-add 2 2 (drop i b)
    ∙ ap₂ (λ (x y : List ℕ). x ++ y) (two_at b i (omega arith)) (ap (take 2) (drop-drop 2 i b) ∙ two_at b (i + 2) (omega arith))
    ∙ sym (word_bytes (byte_in b i) (byte_in b (i + 1)) (byte_in b (i + 2)) (byte_in b (i + 2 + 1)) (s i) (s (i + 1)) (s (i + 2)) (s (i + 2 + 1)))

-- Lists of bytes

pub bytes_none : Bytes []
bytes_none i = omega arith

pub bytes_more : (x : ℕ) (b : List ℕ) → x < 256 → Bytes b → Bytes (x ∷ b)
bytes_more x b h s zero = h
bytes_more x b h s (suc i) = s i

pub bytes_append : (a b : List ℕ) → Bytes a → Bytes b → Bytes (a ++ b)
bytes_append [] b r s i = s i
bytes_append (x ∷ a) b r s zero = r 0
bytes_append (x ∷ a) b r s (suc i) = bytes_append a b (λ j. r (suc j)) s i

pub bytes_join : (n : ℕ) (f : ℕ → List ℕ) → ((k : ℕ) → Bytes (f k)) → Bytes (join_below n f)
unfolding join_below
bytes_join zero f h = bytes_none
bytes_join (suc n) f h = bytes_append (join_below n f) (f n) (bytes_join n f h) (h n)

pub half_small : (w : ℕ) → Bytes (bytes16 w)
half_small w = bytes_more (w % 256) (w / 256 % 256 ∷ []) (omega arith) (bytes_more (w / 256 % 256) [] (omega arith) bytes_none)

pub word_small : (w : ℕ) → Bytes (bytes32 w)
word_small w =
    bytes_append (bytes16 w) (w / 65536 % 256 ∷ w / 16777216 % 256 ∷ []) (half_small w)
    (bytes_more (w / 65536 % 256) (w / 16777216 % 256 ∷ []) (omega arith) (bytes_more (w / 16777216 % 256) [] (omega arith) bytes_none))
