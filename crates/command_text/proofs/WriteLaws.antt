-- A command written, and what was expected written. Assumes nothing.
use mathlib.Core.Path.{◌≡◌, refl, sym, ap, ap₂, ◌∙◌}
use mathlib.Core.List.{List, [], ◌∷◌, ◌++◌, append_assoc}
use Prim.Native.Nat.{ℕ, ◌+◌, ◌^◌, ◌≤◌, ◌<◌}
use native.Mathlib.Omega.{arith}
use lib.ListN.{length, take, drop, length-append}
use lib.Seq.{take_at}
use Rattle.text.specs.Text.{ascii, decimal, spaced, placed, put_in, put_end}
use Rattle.text.specs.Wrote.{Wrote}
use Rattle.text.proofs.DecimalLaws.{decimal_length}
use Rattle.text.proofs.PutLaws.{placed_front}
use Rattle.text.proofs.WroteLaws.{wrote_one, wrote_put, wrote_more, wrote_length}
use Rattle.text.proofs.RowLaws.{wrote_as}
use Rattle.command.specs.declared.Trouble.{Trouble}
use Rattle.command.specs.declared.Trouble.TheVariants as Trouble
use Rattle.command_table.specs.Commands.{name_at, usage_at}
use Rattle.command_table.proofs.TableLaws.{usage_short}
use Rattle.command_text.specs.Written.{number_line, expected, trouble_text}

-- A command

-- a text after a text, each left out where it does not fit
pub put_after : {mid after : List ℕ} {e end : ℕ} (out : List ℕ) (at : ℕ) (a b : List ℕ) → (e ≡ put_end out at a) × (mid ≡ put_in out at a)
    → (end ≡ put_end mid e b) × (after ≡ put_in mid e b)
    → (end ≡ put_end (put_in out at a) (put_end out at a) b) × (after ≡ put_in (put_in out at a) (put_end out at a) b)
put_after out at a b p q =
    (q.0 ∙ ap₂ (λ (m : List ℕ) (k : ℕ). put_end m k b) p.1 p.0, q.1 ∙ ap₂ (λ (m : List ℕ) (k : ℕ). put_in m k b) p.1 p.0)

-- where there is room for the whole, the line that says the command is put
pub command_written : (out : List ℕ) (at : ℕ) (row : ℕ) (numbers : List ℕ) → at + length (number_line row numbers) ≤ length out
    → (put_in (put_in out at (name_at row)) (put_end out at (name_at row)) (spaced numbers) ≡ placed out at (number_line row numbers))
    × (put_end (put_in out at (name_at row)) (put_end out at (name_at row)) (spaced numbers) ≡ at + length (number_line row numbers))
command_written out at row numbers h =
    let name : List ℕ = name_at row in
    let l : length (name ++ spaced numbers) ≡ length name + length (spaced numbers) = length-append name (spaced numbers) in
    let w : Wrote out at name (put_in out at name) (put_end out at name) = wrote_one (refl, refl) (omega arith) in
    let v = wrote_put (spaced numbers) w (refl, refl) (omega arith) in
    (v.bytes, v.next)

-- What was expected

expected_short : (trouble : Trouble) → length (expected trouble) ≤ 54
expected_short Trouble.TooLong = omega arith
expected_short Trouble.NoCommand = omega arith
expected_short (Trouble.Usage row) = omega (arith, length-append (ascii "expected ") (usage_at row), usage_short row)

pub usage_wrote : {out a after : List ℕ} {at d end : ℕ} (row : ℕ) → (d ≡ put_end out at (ascii "expected ")) × (a ≡ put_in out at (ascii "expected "))
    → (end ≡ put_end a d (usage_at row)) × (after ≡ put_in a d (usage_at row)) → at + 54 ≤ length out → Wrote out at (expected (Trouble.Usage row)) after end
usage_wrote row p q h = wrote_put (usage_at row) (wrote_one p (omega arith)) q (omega (arith, usage_short row))

-- the whole line: what stands before what was expected, and all of it
pub trouble_head : {line a b d : List ℕ} {i j k : ℕ} (n : ℕ) → n < 2 ^ 32 → (i ≡ put_end line 0 (ascii "line ")) × (a ≡ put_in line 0 (ascii "line "))
    → (j ≡ put_end a i (decimal n)) × (b ≡ put_in a i (decimal n)) → (k ≡ put_end b j (ascii ": ")) × (d ≡ put_in b j (ascii ": ")) → 72 ≤ length line
    → Wrote line 0 ((ascii "line " ++ decimal n) ++ ascii ": ") d k
trouble_head n s p q r h =
    let l = length-append (ascii "line ") (decimal n) in
    let m : length (decimal n) ≤ 10 = decimal_length n 10 (omega arith) (omega arith) in
    wrote_put (ascii ": ") (wrote_put (decimal n) (wrote_one p (omega arith)) q (omega arith)) r (omega (arith, l))

head_short : (n : ℕ) → n < 2 ^ 32 → length ((ascii "line " ++ decimal n) ++ ascii ": ") ≤ 17
head_short n s =
    omega (arith, length-append (ascii "line " ++ decimal n) (ascii ": "), length-append (ascii "line ") (decimal n), decimal_length n 10 (omega arith) (omega arith))

pub trouble_room : {line d : List ℕ} {k : ℕ} (n : ℕ) → n < 2 ^ 32 → Wrote line 0 ((ascii "line " ++ decimal n) ++ ascii ": ") d k → 72 ≤ length line
    → k + 54 ≤ length d
trouble_room n s w h = omega (arith, w.next, head_short n s, wrote_length w)

pub trouble_wrote : {line d f after : List ℕ} {k m end : ℕ} (n : ℕ) (trouble : Trouble) → n < 2 ^ 32
    → Wrote line 0 ((ascii "line " ++ decimal n) ++ ascii ": ") d k → Wrote d k (expected trouble) f m
    → (end ≡ put_end f m (10 ∷ [])) × (after ≡ put_in f m (10 ∷ [])) → 72 ≤ length line → Wrote line 0 (trouble_text n trouble) after end
unfolding trouble_text
trouble_wrote n trouble s w v p h =
    let head : List ℕ = (ascii "line " ++ decimal n) ++ ascii ": " in
    let l : length (head ++ expected trouble) ≡ length head + length (expected trouble) = length-append head (expected trouble) in
    wrote_as (wrote_put (10 ∷ []) (wrote_more w v) p (omega (arith, head_short n s, expected_short trouble))) (simp append_assoc)

-- text that was put in front
pub front_text : {before text after : List ℕ} {end : ℕ} → Wrote before 0 text after end → take end after ≡ text
front_text {before} {text} {after} {end} w =
    ap (take end) (w.bytes ∙ placed_front before text) ∙ take_at text (drop (length text) before) end (omega (arith, w.next))

pub front_length : {before text after : List ℕ} {end : ℕ} → Wrote before 0 text after end → end ≡ length (take end after)
front_length w = let e = ap length (front_text w) in omega (arith, w.next)
