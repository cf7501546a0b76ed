-- What stands where in a record, and when bytes are one. Assumes nothing.
use Prim.Native.Nat.{ℕ, ◌+◌, ◌*◌, ◌≤◌, ◌<◌}
use mathlib.Core.Path.{◌≡◌, refl, sym, ap, ap₂, ◌∙◌, subst}
use mathlib.Core.Bool.{true, false}
use mathlib.Core.List.{List, [], ◌∷◌, ◌++◌}
use native.Mathlib.Omega.{arith}
use lib.ListN.{length, take, drop, length-append, length-drop, take-append-drop}
use lib.Seq.{take_at, drop_at, drop-drop, length-take-le}
use Rattle.words.specs.Below.{list_below}
use Rattle.words.proofs.Tests.{and_left, and_right, and_true, not_passed}
use Rattle.collision.specs.Pipeline.{total}
use Rattle.unit_file.specs.File.{bytes16}
use Rattle.unit_file.specs.Read.{byte_in, word16}
use Rattle.unit_file.proofs.ByteLaws.{half_at, half_value, bytes_none, bytes_more}
use Rattle.plan_record.specs.Record.{Recordable, recordable, ring_byte, ring_length, ring_of, fields, record_of}
use Rattle.plan_record.specs.Read.{count_in, sum_in, list_in, ring_in, is_record}
use Rattle.plan_record.proofs.CycleLaws.{recordable_facts, recordable_of, total_most}
use Rattle.plan_record.proofs.RingLaws.{ring_length_lem}
use Rattle.text.proofs.SameLaws.{same_eq, same_of}

-- The record of a cycle

module _ (l : List ℕ) where
  pub record_length : length (record_of l) ≡ 8 + length l + ring_length (total l)
  unfolding record_of
  record_length = length-append (fields (length l) (total l)) (l ++ ring_of l) ∙ ap (λ k. 8 + k) (length-append l (ring_of l)) ∙ omega (arith, ring_length_lem l)

  pub record_rest : drop 8 (record_of l) ≡ l ++ ring_of l
  unfolding record_of
  record_rest = refl

  module _ (r : Recordable l) where
    pub record_count : count_in (record_of l) ≡ length l
    unfolding record_of
    record_count = half_value (length l) (omega (arith, r.few))

    pub record_sum : sum_in (record_of l) ≡ total l
    unfolding record_of
    record_sum = half_value (total l) (omega (arith, total_most l r))

    pub record_list_at : word16 (record_of l) 4 ≡ 8
    unfolding record_of
    record_list_at = refl

    pub record_ring_at : word16 (record_of l) 6 ≡ 8 + length l
    unfolding record_of
    record_ring_at = half_value (8 + length l) (omega (arith, r.few))

    pub record_list : list_in (record_of l) ≡ l
    record_list = ap (take (count_in (record_of l))) record_rest ∙ take_at l (ring_of l) (count_in (record_of l)) (sym record_count)

    pub record_ring : ring_in (record_of l) ≡ ring_of l
    record_ring =
        sym (drop-drop (count_in (record_of l)) 8 (record_of l))
        ∙ ap (drop (count_in (record_of l))) record_rest ∙ drop_at l (ring_of l) (count_in (record_of l)) (sym record_count)

-- Bytes that are one

pub is_record_lem : (bytes : List ℕ) → is_record bytes ≡ true → Recordable (list_in bytes) × (bytes ≡ record_of (list_in bytes))
unfolding is_record
is_record_lem bytes e =
    (recordable_facts (list_in bytes) (and_left (recordable (list_in bytes)) _ e), same_eq bytes (record_of (list_in bytes)) (and_right (recordable (list_in bytes)) _ e))

pub record_is : (l : List ℕ) → Recordable l → is_record (record_of l) ≡ true
unfolding is_record
record_is l r =
    and_true (ap recordable (record_list l r) ∙ recordable_of l r)
    (same_of (record_of l) (record_of (list_in (record_of l))) (ap record_of (sym (record_list l r))))

-- the same as facts, one for each test
pub record Fits (bytes : List ℕ) : Type 0 where
  pub long : 8 ≤ length bytes
  pub list_at : word16 bytes 4 ≡ 8
  pub ring_at : word16 bytes 6 ≡ 8 + count_in bytes
  pub inside : 8 + count_in bytes ≤ length bytes
  pub cycle : Recordable (list_in bytes)
  pub sum : total (list_in bytes) ≡ sum_in bytes
  pub size : length bytes ≡ 8 + count_in bytes + ring_length (sum_in bytes)
  pub ring : ring_in bytes ≡ list_below (length (ring_in bytes)) (ring_byte (list_in bytes))

record_fits : (l : List ℕ) → Recordable l → Fits (record_of l)
unfolding ring_of
record_fits l r =
    let n = record_length l in
    let k = record_count l r in
    let s = record_sum l r in
    record {
      long = omega arith;
      list_at = record_list_at l r;
      ring_at = record_ring_at l r ∙ ap (λ i. 8 + i) (sym k);
      inside = omega arith;
      cycle = subst (λ (x : List ℕ). Recordable x) (sym (record_list l r)) r;
      sum = ap total (record_list l r) ∙ sym s;
      size = n ∙ ap₂ (λ (i j : ℕ). 8 + i + ring_length j) (sym k) (sym s);
      ring = record_ring l r
          ∙ ap₂ (λ (i : ℕ) (x : List ℕ). list_below i (ring_byte x)) (sym (ring_length_lem l) ∙ ap length (sym (record_ring l r))) (sym (record_list l r));
    }

pub fits : (bytes : List ℕ) → is_record bytes ≡ true → Fits bytes
fits bytes e = let i = is_record_lem bytes e in subst (λ (x : List ℕ). Fits x) (sym i.1) (record_fits (list_in bytes) i.0)

-- one of the facts fails
pub no_record_lem : (bytes : List ℕ) → (Fits bytes → ⊥) → is_record bytes ≡ false
no_record_lem bytes f = not_passed (is_record bytes) (λ e. f (fits bytes e))

-- The fields, byte by byte

eight : (b : List ℕ) → 8 ≤ length b
    → b ≡ byte_in b 0 ∷ byte_in b 1 ∷ byte_in b 2 ∷ byte_in b 3 ∷ byte_in b 4 ∷ byte_in b 5 ∷ byte_in b 6 ∷ byte_in b 7 ∷ drop 8 b
eight [] h = absurd (omega arith)
eight (a ∷ []) h = absurd (omega arith)
eight (a ∷ e ∷ []) h = absurd (omega arith)
eight (a ∷ e ∷ f ∷ []) h = absurd (omega arith)
eight (a ∷ e ∷ f ∷ g ∷ []) h = absurd (omega arith)
eight (a ∷ e ∷ f ∷ g ∷ i ∷ []) h = absurd (omega arith)
eight (a ∷ e ∷ f ∷ g ∷ i ∷ j ∷ []) h = absurd (omega arith)
eight (a ∷ e ∷ f ∷ g ∷ i ∷ j ∷ k ∷ []) h = absurd (omega arith)
eight (a ∷ e ∷ f ∷ g ∷ i ∷ j ∷ k ∷ m ∷ b) h = refl

field_bytes : (x y w : ℕ) → x < 256 → y < 256 → w ≡ x + 256 * y → bytes16 w ≡ x ∷ y ∷ []
field_bytes x y w a b e =
    ap bytes16 e ∙ sym (half_at (x ∷ y ∷ []) 0 (bytes_more x (y ∷ []) a (bytes_more y [] b bytes_none)) (omega arith))

-- the bytes of the four fields are bytes
pub record Heads (bytes : List ℕ) : Type 0 where
  pub count : (byte_in bytes 0 < 256) × (byte_in bytes 1 < 256)
  pub sum : (byte_in bytes 2 < 256) × (byte_in bytes 3 < 256)
  pub list_at : (byte_in bytes 4 < 256) × (byte_in bytes 5 < 256)
  pub ring_at : (byte_in bytes 6 < 256) × (byte_in bytes 7 < 256)

pub fits_record : (bytes : List ℕ) → Heads bytes → Fits bytes → is_record bytes ≡ true
unfolding is_record record_of ring_of
fits_record b h f = and_true (recordable_of (list_in b) f.cycle) (same_of b (record_of (list_in b)) whole)
  where
    n : length (list_in b) ≡ count_in b
    n = length-take-le (count_in b) (drop 8 b) (omega (arith, length-drop 8 b, f.inside))

    front : byte_in b 0 ∷ byte_in b 1 ∷ byte_in b 2 ∷ byte_in b 3 ∷ byte_in b 4 ∷ byte_in b 5 ∷ byte_in b 6 ∷ byte_in b 7 ∷ []
        ≡ fields (length (list_in b)) (total (list_in b))
    front =
        let one : bytes16 (length (list_in b)) ≡ byte_in b 0 ∷ byte_in b 1 ∷ [] = field_bytes _ _ _ h.count.0 h.count.1 n in
        let two : bytes16 (total (list_in b)) ≡ byte_in b 2 ∷ byte_in b 3 ∷ [] = field_bytes _ _ _ h.sum.0 h.sum.1 f.sum in
        let three : bytes16 8 ≡ byte_in b 4 ∷ byte_in b 5 ∷ [] = field_bytes _ _ _ h.list_at.0 h.list_at.1 (sym f.list_at) in
        let four : bytes16 (8 + length (list_in b)) ≡ byte_in b 6 ∷ byte_in b 7 ∷ [] =
        field_bytes _ _ _ h.ring_at.0 h.ring_at.1 (ap (λ k. 8 + k) n ∙ sym f.ring_at) in
        sym (ap₂ (λ (x y : List ℕ). x ++ y) one (ap₂ (λ (x y : List ℕ). x ++ y) two (ap₂ (λ (x y : List ℕ). x ++ y) three four)))

    bits : ring_in b ≡ ring_of (list_in b)
    bits =
        let size : length (ring_in b) ≡ ring_length (total (list_in b)) = length-drop (8 + count_in b) b ∙ omega (arith, f.size, ap ring_length f.sum) in
        f.ring ∙ ap (λ k. list_below k (ring_byte (list_in b))) size

    rest : drop 8 b ≡ list_in b ++ ring_of (list_in b)
    rest = sym (take-append-drop (count_in b) (drop 8 b)) ∙ ap (λ x. list_in b ++ x) (drop-drop (count_in b) 8 b ∙ bits)

    whole : b ≡ record_of (list_in b)
    whole =
        eight b f.long
        ∙ ap (λ x. byte_in b 0 ∷ byte_in b 1 ∷ byte_in b 2 ∷ byte_in b 3 ∷ byte_in b 4 ∷ byte_in b 5 ∷ byte_in b 6 ∷ byte_in b 7 ∷ x) rest
        ∙ ap (λ x. x ++ (list_in b ++ ring_of (list_in b))) front
