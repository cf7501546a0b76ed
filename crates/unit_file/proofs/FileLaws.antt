-- What stands where in a file, and that a list of bytes in which the same words stand is the file. Assumes nothing.
use mathlib.Core.Path.{◌≡◌, refl, sym, ap, ap₂, ◌∙◌}
use mathlib.Core.List.{List, [], ◌∷◌, ◌++◌}
use Prim.Native.Nat.{ℕ, suc, ◌+◌, ◌-◌, ◌*◌, ◌≤◌, ◌<◌}
use native.Mathlib.Nat.{mul-le-mul, mul-le-mul_left, mul-suc}
use native.Mathlib.Omega.{arith}
use lib.ListN.{length, take, drop, length-append, length-drop, take-append-drop, get_or-append}
use lib.Seq.{take_all, drop-drop, get_or-append-add}
use Rattle.words.specs.Below.{join_below}
use Rattle.words.proofs.BelowLaws.{word_lt}
use Rattle.words.proofs.JoinLaws.{join_length, join_get_d, join_part}
use Rattle.unit.specs.Table.{Table}
use Rattle.unit_file.specs.File.{offset_of, file_length, bytes16, bytes32, segment_word, table_bytes, offset_bytes, file_of}
use Rattle.unit_file.specs.InnerWrite.{tables_bytes}
use Rattle.unit_file.specs.Read.{byte_in, word16, word32, functions_in, segments_in, columns_in}
use Rattle.unit_file.proofs.ByteLaws.{half_value, word_value, Bytes, half_at, word_at, bytes_more, bytes_append, bytes_join, half_small, word_small}

-- Lengths

pub offsets_size : (f s : ℕ) → length (offset_bytes f s) ≡ 2 * f
unfolding offset_bytes
offsets_size f s = join_length f 2 (λ i. bytes16 (offset_of f s (i + 1))) (λ i l. refl)

pub table_size : (T : Table) (s k : ℕ) → length (table_bytes T s k) ≡ 4 * s
unfolding table_bytes
table_size T s k = join_length s 4 (λ i. bytes32 (segment_word T k (i + 1))) (λ i l. refl)

tables_size : (T : Table) (s f : ℕ) → length (tables_bytes T s f) ≡ 4 * s * f
unfolding tables_bytes
tables_size T s f = join_length f (4 * s) (λ i. table_bytes T s (i + 1)) (λ i l. table_size T s (i + 1))

-- the tables of a unit take at most 256 bytes
pub tables_small : (s k : ℕ) → s ≤ 16 → k ≤ 4 → 4 * s * k ≤ 256
tables_small s k h l = let m : 4 * s ≤ 64 = omega arith in mul-le-mul m l

-- the counts, as the first four bytes say them
pub record Head (b : List ℕ) (f s c : ℕ) : Type 0 where
  pub functions : functions_in b ≡ f
  pub segments : segments_in b ≡ s
  pub columns : columns_in b ≡ c
  pub last : byte_in b 3 ≡ 0

-- What stands in the file

module _ (f s c : ℕ) (T : Table) where
  pub file_length_lem : length (file_of f s c T) ≡ file_length f s
  unfolding file_of tables_bytes
  file_length_lem = omega (arith, length-append (offset_bytes f s) (tables_bytes T s f), offsets_size f s, tables_size T s f)

  pub file_head : Head (file_of f s c T) f s c
  unfolding file_of
  file_head = record { functions = refl; segments = refl; columns = refl; last = refl }

  -- what stands behind the counts
  behind : (i : ℕ) → byte_in (file_of f s c T) (4 + i) ≡ byte_in (offset_bytes f s ++ tables_bytes T s f) i
  unfolding file_of tables_bytes
  behind i = get_or-append-add (f ∷ s ∷ c ∷ 0 ∷ []) (offset_bytes f s ++ tables_bytes T s f) i 0

  offset_byte : (k j i : ℕ) → k < f → j < 2 → i ≡ 4 + (2 * k + j) → byte_in (file_of f s c T) i ≡ byte_in (bytes16 (offset_of f s (k + 1))) j
  unfolding offset_bytes
  offset_byte k j i h l e =
      ap (byte_in (file_of f s c T)) e ∙ behind (2 * k + j)
      ∙ get_or-append (offset_bytes f s) (tables_bytes T s f) 0 (2 * k + j) (omega (arith, offsets_size f s))
      ∙ join_get_d f 2 (λ x. bytes16 (offset_of f s (x + 1))) (λ x m. refl) k j h l

  word_byte : (k r j i : ℕ) → k < f → r < s → j < 4 → i ≡ 4 + (2 * f + (4 * s * k + (4 * r + j)))
      → byte_in (file_of f s c T) i ≡ byte_in (bytes32 (segment_word T (k + 1) (r + 1))) j
  unfolding tables_bytes table_bytes
  word_byte k r j i h m l e =
      ap (byte_in (file_of f s c T)) e ∙ behind (2 * f + (4 * s * k + (4 * r + j)))
      ∙ ap (λ n. byte_in (offset_bytes f s ++ tables_bytes T s f) (n + (4 * s * k + (4 * r + j)))) (sym (offsets_size f s))
      ∙ get_or-append-add (offset_bytes f s) (tables_bytes T s f) (4 * s * k + (4 * r + j)) 0
      ∙ join_get_d f (4 * s) (λ x. table_bytes T s (x + 1)) (λ x g. table_size T s (x + 1)) k (4 * r + j) h (omega arith)
      ∙ join_get_d s 4 (λ x. bytes32 (segment_word T (k + 1) (x + 1))) (λ x g. refl) r j m l

  -- offset k, counted from 0, says where its table begins
  pub file_offset : f ≤ 4 → s ≤ 16 → (k : ℕ) → k < f → word16 (file_of f s c T) (4 + 2 * k) ≡ offset_of f s (k + 1)
  file_offset f4 s16 k h =
      ap₂ (λ (x y : ℕ). x + 256 * y) (offset_byte k 0 (4 + 2 * k) h (omega arith) (omega arith)) (offset_byte k 1 (4 + 2 * k + 1) h (omega arith) (omega arith))
      ∙ half_value (offset_of f s (k + 1)) (small (omega arith))
    where
      small : k + 1 - 1 ≤ 4 → offset_of f s (k + 1) < 65536
      small g = omega (arith, tables_small s (k + 1 - 1) s16 g)

  -- the word of segment r in table k, both counted from 0
  pub file_word : (k r : ℕ) → k < f → r < s → word32 (file_of f s c T) (4 + 2 * f + 4 * s * k + 4 * r) ≡ segment_word T (k + 1) (r + 1)
  file_word k r h m =
      let at = 4 + 2 * f + 4 * s * k + 4 * r in
      ap₂ (λ (x y : ℕ). x + 65536 * y)
      (ap₂ (λ (x y : ℕ). x + 256 * y) (word_byte k r 0 at h m (omega arith) (omega arith)) (word_byte k r 1 (at + 1) h m (omega arith) (omega arith)))
      (ap₂ (λ (x y : ℕ). x + 256 * y) (word_byte k r 2 (at + 2) h m (omega arith) (omega arith)) (word_byte k r 3 (at + 2 + 1) h m (omega arith) (omega arith)))
      ∙ word_value (segment_word T (k + 1) (r + 1)) (word_lt 32 (λ i. T (k + 1) (r + 1) (i + 1)))

  pub file_bytes : f < 256 → s < 256 → c < 256 → Bytes (file_of f s c T)
  unfolding file_of offset_bytes table_bytes
  file_bytes hf hs hc =
      bytes_append (f ∷ s ∷ c ∷ 0 ∷ []) (offset_bytes f s ++ join_below f (λ i. table_bytes T s (i + 1)))
      (bytes_more f (s ∷ c ∷ 0 ∷ []) hf (bytes_more s (c ∷ 0 ∷ []) hs (bytes_more c (0 ∷ []) hc (bytes_more 0 [] (omega arith) (λ i. omega arith)))))
      (bytes_append (offset_bytes f s) (join_below f (λ i. table_bytes T s (i + 1)))
      (bytes_join f (λ i. bytes16 (offset_of f s (i + 1))) (λ k. half_small (offset_of f s (k + 1))))
      (bytes_join f (λ i. table_bytes T s (i + 1)) (λ k. bytes_join s (λ i. bytes32 (segment_word T (k + 1) (i + 1))) (λ r. word_small (segment_word T (k + 1) (r + 1))))))

-- A list of the same words

-- the first four elements of a list
first_four : (b : List ℕ) → 4 ≤ length b → b ≡ byte_in b 0 ∷ byte_in b 1 ∷ byte_in b 2 ∷ byte_in b 3 ∷ drop 4 b
first_four [] h = absurd (omega arith)
first_four (x ∷ []) h = absurd (omega arith)
first_four (x ∷ y ∷ []) h = absurd (omega arith)
first_four (x ∷ y ∷ z ∷ []) h = absurd (omega arith)
first_four (x ∷ y ∷ z ∷ w ∷ b) h = refl

module _ (b : List ℕ) (f s c : ℕ) (T : Table) (size : length b ≡ file_length f s) (small : Bytes b) where
  offsets_of : ((k : ℕ) → k < f → word16 b (4 + 2 * k) ≡ offset_of f s (k + 1)) → take (2 * f) (drop 4 b) ≡ offset_bytes f s
  unfolding offset_bytes
  offsets_of h =
      join_part f 2 4 b (λ i. bytes16 (offset_of f s (i + 1)))
      (λ k l. half_at b (4 + 2 * k) small (omega arith) ∙ ap bytes16 (h k l))

  -- the place of a word lies in the list
  inside : (k r : ℕ) → k < f → r < s → 4 + 2 * f + 4 * s * k + 4 * r + 4 ≤ length b
  inside k r h l =
      let m : 4 * s * suc k ≤ 4 * s * f = mul-le-mul_left (4 * s) h in
      omega (arith, mul-suc (4 * s) k)

  tables_of_lem : ((k r : ℕ) → k < f → r < s → word32 b (4 + 2 * f + 4 * s * k + 4 * r) ≡ segment_word T (k + 1) (r + 1))
      → take (4 * s * f) (drop (4 + 2 * f) b) ≡ tables_bytes T s f
  unfolding tables_bytes table_bytes
  tables_of_lem h =
      join_part f (4 * s) (4 + 2 * f) b (λ i. table_bytes T s (i + 1))
      (λ k l. join_part s 4 (4 + 2 * f + 4 * s * k) b (λ i. bytes32 (segment_word T (k + 1) (i + 1)))
      (λ r m. word_at b (4 + 2 * f + 4 * s * k + 4 * r) small (inside k r l m) ∙ ap bytes32 (h k r l m)))

  pub file_of_lem : Head b f s c → ((k : ℕ) → k < f → word16 b (4 + 2 * k) ≡ offset_of f s (k + 1))
      → ((k r : ℕ) → k < f → r < s → word32 b (4 + 2 * f + 4 * s * k + 4 * r) ≡ segment_word T (k + 1) (r + 1)) → b ≡ file_of f s c T
  unfolding file_of tables_bytes
  file_of_lem h offsets words =
      first_four b (omega arith)
      ∙ head h.functions h.segments h.columns h.last
      (sym (take-append-drop (2 * f) (drop 4 b)) ∙ ap₂ (λ (x y : List ℕ). x ++ y) (offsets_of offsets) tables)
    where
      tables : drop (2 * f) (drop 4 b) ≡ tables_bytes T s f
      tables =
          drop-drop (2 * f) 4 b
          ∙ sym (take_all (4 * s * f) (drop (4 + 2 * f) b) (omega (arith, length-drop (4 + 2 * f) b)))
          ∙ tables_of_lem words

      head : {x y z w : ℕ} {l m : List ℕ} → x ≡ f → y ≡ s → z ≡ c → w ≡ 0 → l ≡ m → x ∷ y ∷ z ∷ w ∷ l ≡ f ∷ s ∷ c ∷ 0 ∷ m
      head p q r t e = cc
