-- The unit file. Byte 0 functions f, byte 1 segments s, byte 2 columns c, byte 3 zero; then f offsets of 16 bits; then tables, one 32-bit word per
-- segment. All words are little-endian.
use Rattle.std.specs.Prelude.{ℕ, ◌+◌, ◌-◌, ◌*◌, ◌/◌, ◌%◌, List, [], ◌∷◌, ◌++◌}
use Rattle.words.specs.Below.{word_below, join_below}
use Rattle.unit.specs.Table.{Table}

-- where the table of tag k begins
abbrev pub offset_of : ℕ → ℕ → ℕ → ℕ
offset_of f s k = 4 + 2 * f + 4 * s * (k - 1)

abbrev pub file_length : ℕ → ℕ → ℕ
file_length f s = 4 + 2 * f + 4 * s * f

-- the bytes of a word, the lowest first
abbrev pub bytes16 : ℕ → List ℕ
bytes16 w = w % 256 ∷ w / 256 % 256 ∷ []

abbrev pub bytes32 : ℕ → List ℕ
bytes32 w = w % 256 ∷ w / 256 % 256 ∷ w / 65536 % 256 ∷ w / 16777216 % 256 ∷ []

-- the word of a segment: bit c - 1 for column c
abbrev pub segment_word : Table → ℕ → ℕ → ℕ
segment_word T k r = word_below 32 (λ i. T k r (i + 1))

-- the table of tag k
unfoldable pub table_bytes : Table → ℕ → ℕ → List ℕ
table_bytes T s k = join_below s (λ i. bytes32 (segment_word T k (i + 1)))

unfoldable pub offset_bytes : ℕ → ℕ → List ℕ
offset_bytes f s = join_below f (λ i. bytes16 (offset_of f s (i + 1)))

-- the file of a unit of these counts with this table
unfoldable pub file_of : ℕ → ℕ → ℕ → Table → List ℕ
file_of f s c T = f ∷ s ∷ c ∷ 0 ∷ (offset_bytes f s ++ join_below f (λ i. table_bytes T s (i + 1)))
