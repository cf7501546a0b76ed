-- Lines put together part by part, and then put whole. Assumes nothing.
use mathlib.Core.Path.{◌≡◌, ap, subst}
use mathlib.Core.Bool.{Bool, true, false, cond}
use mathlib.Core.List.{List, [], ◌∷◌, ◌++◌}
use Prim.Native.Nat.{ℕ, zero, suc, ◌+◌, ◌/◌, ◌%◌, ◌≤◌}
use native.Mathlib.Omega.{arith}
use lib.Dec.{ltb}
use lib.ListN.{length, take, length-append}
use Rattle.text.specs.Text.{ascii, digit, digits, decimal, put_in, put_end}
use Rattle.text.specs.Wrote.{Wrote}
use Rattle.text.proofs.WroteLaws.{wrote_length, wrote_more, wrote_one}
use Rattle.text.proofs.RowLaws.{wrote_as}
use Rattle.unit.specs.declared.Refusal.{Refusal}
use Rattle.unit.specs.Numbers.{number_of}
use Rattle.listing.specs.Lines.{newline, refused_line}
use Rattle.listing.proofs.AreaLaws.{put_front, put_front_length}
use Rattle.session.specs.Sessions.{Line}

-- a number has at most ten digits
digits_most : (f n : ℕ) → length (digits f n) ≤ f
unfolding digits
digits_most zero n = omega arith
digits_most (suc f) n = go (ltb n 10) (digits_most f (n / 10))
  where
    go : (b : Bool) → length (digits f (n / 10)) ≤ f → length (cond b (digit n ∷ []) (digits f (n / 10) ++ (digit (n % 10) ∷ []))) ≤ suc f
    go true h = omega arith
    go false h = omega (arith, length-append (digits f (n / 10)) (digit (n % 10) ∷ []))

pub decimal_most : (n : ℕ) → length (decimal n) ≤ 10
unfolding decimal
decimal_most n = digits_most 10 n

-- what is left after a text of at most n bytes
pub room_left : {before : List ℕ} {at : ℕ} {text after : List ℕ} {end : ℕ} (n m : ℕ)
    → Wrote before at text after end → length text ≤ n → at + (n + m) ≤ length before → end + m ≤ length after
room_left n m w l h = omega (arith, w.next, wrote_length w)

-- a word and a number
pub value_wrote : {before : List ℕ} {at : ℕ} {mid : List ℕ} {e : ℕ} {after : List ℕ} {end : ℕ} (word : List ℕ) (n : ℕ) → at + length word + 10 ≤ length before
    → (e ≡ put_end before at word) × (mid ≡ put_in before at word) → (end ≡ put_end mid e (decimal n)) × (after ≡ put_in mid e (decimal n))
    → Wrote before at (word ++ decimal n) after end
value_wrote word n room p q =
    let w = wrote_one {text = word} p (omega arith) in
    wrote_more w (wrote_one {text = decimal n} q (omega (arith, w.next, wrote_length w, decimal_most n)))

-- `refused` and the number
pub refused_wrote : {before a : List ℕ} {i : ℕ} {after : List ℕ} {end n : ℕ} (why : Refusal) → n ≡ number_of why → 64 ≤ length before
    → Wrote before 0 (ascii "refused " ++ decimal n) a i → (end ≡ put_end a i newline) × (after ≡ put_in a i newline) → Wrote before 0 (refused_line why) after end
refused_wrote {n = n} why e room w p =
    let h = room_left 18 46 w (omega (arith, decimal_most n)) (omega arith) in
    wrote_as (wrote_more w (wrote_one {text = newline} p (omega (arith, h)))) (ap (λ m. ascii "refused " ++ decimal m ++ newline) e)

-- Lines in front

-- text written from the first byte on stands in front
line_front : {before text after : List ℕ} {end : ℕ} → Wrote before 0 text after end → take end after ≡ text
line_front {end = end} w = put_front {n = end} record { wrote = w; few = omega arith }

-- and is as long as it was written
pub line_length_lem : {before text after : List ℕ} {end : ℕ} → Wrote before 0 text after end → end ≡ length (take end after)
line_length_lem {end = end} w = put_front_length {n = end} record { wrote = w; few = omega arith }

pub line_as : {a b before after : List ℕ} {end : ℕ} → a ≡ b → Line a before after end → Line b before after end
line_as {before = before} {after} {end} e l = subst (λ (x : List ℕ). Line x before after end) e l

-- the line is put whole
pub line_put : {zeros text line : List ℕ} {n : ℕ} (before : List ℕ) {after : List ℕ} {end : ℕ} → Wrote zeros 0 text line n
    → (end ≡ put_end before 0 (take n line)) × (after ≡ put_in before 0 (take n line)) → Line text before after end
line_put before w p = line_as (line_front w) record { next = p.0; out = p.1 }
