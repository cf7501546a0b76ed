-- The lines of a bank and of a plan, put together part by part. Assumes nothing.
use mathlib.Core.Path.{◌≡◌}
use mathlib.Core.List.{List, ◌++◌, append_assoc}
use Prim.Native.Nat.{ℕ, ◌+◌, ◌*◌, ◌^◌, ◌≤◌, ◌<◌}
use native.Mathlib.Omega.{arith}
use lib.ListN.{length, get_or, take}
use Rattle.text.specs.Text.{ascii, decimal, spaced, put_in, put_end}
use Rattle.text.specs.Wrote.{Wrote}
use Rattle.text.proofs.WroteLaws.{wrote_more, wrote_one}
use Rattle.text.proofs.RowLaws.{wrote_as, spaced_most}
use Rattle.unit.specs.declared.Plan.{Plan}
use Rattle.listing.specs.Lines.{newline}
use Rattle.session.proofs.LineLaws.{decimal_most, room_left}
use Rattle.console.specs.Turns.{plan_line, bank_line}

-- A bank

registers : (s a b c d n : List ℕ) → a ++ (s ++ b) ++ (s ++ c) ++ (s ++ d) ++ n ≡ a ++ (s ++ (b ++ (s ++ (c ++ (s ++ (d ++ n))))))
registers s a b c d n = simp append_assoc

module _ (before : List ℕ) {a : List ℕ} {i : ℕ} (r1 : ℕ) (room : 64 ≤ length before) (p : (i ≡ put_end before 0 (decimal r1)) × (a ≡ put_in before 0 (decimal r1))) where
  first_wrote : Wrote before 0 (decimal r1) a i
  first_wrote = wrote_one p (omega (arith, decimal_most r1))

  pub bank_room_1 : i + 54 ≤ length a
  bank_room_1 = room_left 10 54 first_wrote (decimal_most r1) (omega arith)

  module _ {b : List ℕ} {j : ℕ} (r2 : ℕ) (v : Wrote a i (ascii " " ++ decimal r2) b j) where
    pub bank_room_2 : j + 43 ≤ length b
    bank_room_2 = room_left 11 43 v (omega (arith, decimal_most r2)) (omega (arith, bank_room_1))

    module _ {c : List ℕ} {k : ℕ} (r3 : ℕ) (w : Wrote b j (ascii " " ++ decimal r3) c k) where
      pub bank_room_3 : k + 32 ≤ length c
      bank_room_3 = room_left 11 32 w (omega (arith, decimal_most r3)) (omega (arith, bank_room_2))

      pub bank_wrote : {d : List ℕ} {l : ℕ} {after : List ℕ} {end : ℕ} (r4 : ℕ) → Wrote c k (ascii " " ++ decimal r4) d l
          → (end ≡ put_end d l newline) × (after ≡ put_in d l newline) → Wrote before 0 (bank_line record { r1 = r1; r2 = r2; r3 = r3; r4 = r4 }) after end
      unfolding bank_line
      bank_wrote r4 x q =
          let h = room_left 11 21 x (omega (arith, decimal_most r4)) (omega (arith, bank_room_3)) in
          let all = wrote_more (wrote_more (wrote_more first_wrote v) w) x in
          wrote_as (wrote_more all (wrote_one {text = newline} q (omega (arith, h))))
          (registers (ascii " ") (decimal r1) (decimal r2) (decimal r3) (decimal r4) newline)

-- A plan

cycle_text : (w c s d n : List ℕ) → w ++ c ++ (s ++ d) ++ n ≡ w ++ (c ++ (s ++ (d ++ n)))
cycle_text w c s d n = simp append_assoc

module _ (before : List ℕ) (at : ℕ) {a : List ℕ} {i : ℕ} {b : List ℕ} {j : ℕ} (cycle : List ℕ) (small : (i : ℕ) → i < length cycle → get_or cycle i 0 < 10 ^ 3) (room : at + 4 * length cycle + 22 ≤ length before)
    (p : (i ≡ put_end before at (ascii " cycle")) × (a ≡ put_in before at (ascii " cycle")))
    (q : (j ≡ put_end a i (spaced cycle)) × (b ≡ put_in a i (spaced cycle))) where
  word_wrote : Wrote before at (ascii " cycle") a i
  word_wrote = wrote_one p (omega arith)

  cycle_most : length (spaced cycle) ≤ 4 * length cycle
  cycle_most = spaced_most cycle 3 (omega arith) small

  word_room : i + (4 * length cycle + 16) ≤ length a
  word_room = room_left 6 (4 * length cycle + 16) word_wrote (omega arith) (omega arith)

  latencies_wrote : Wrote a i (spaced cycle) b j
  latencies_wrote = wrote_one q (omega (arith, word_room, cycle_most))

  pub cycle_room : j + 16 ≤ length b
  cycle_room = room_left (4 * length cycle) 16 latencies_wrote cycle_most word_room

  pub cycle_wrote : {c : List ℕ} {k : ℕ} {after : List ℕ} {end : ℕ} (sum : ℕ) → Wrote b j (ascii " sum " ++ decimal sum) c k
      → (end ≡ put_end c k newline) × (after ≡ put_in c k newline)
      → Wrote before at (ascii " cycle" ++ (spaced cycle ++ (ascii " sum " ++ (decimal sum ++ newline)))) after end
  cycle_wrote sum v l =
      let h = room_left 15 1 v (omega (arith, decimal_most sum)) cycle_room in
      wrote_as (wrote_more (wrote_more (wrote_more word_wrote latencies_wrote) v) (wrote_one {text = newline} l (omega (arith, h))))
      (cycle_text (ascii " cycle") (spaced cycle) (ascii " sum ") (decimal sum) newline)

-- the room for the cycle, after the tag
pub tag_room : {before a : List ℕ} {i n : ℕ} (tag : ℕ) → 2048 ≤ length before → n ≤ 256 → Wrote before 0 (ascii "plan " ++ decimal tag) a i
    → i + 4 * n + 22 ≤ length a
tag_room tag room few w = omega (arith, room_left 15 2033 w (omega (arith, decimal_most tag)) (omega arith))

pub plan_wrote : {before a : List ℕ} {i : ℕ} {after : List ℕ} {end : ℕ} (p : Plan) → Wrote before 0 (ascii "plan " ++ decimal p.tag) a i
    → Wrote a i (ascii " cycle" ++ (spaced (take p.count p.latencies) ++ (ascii " sum " ++ (decimal p.sum ++ newline)))) after end
    → Wrote before 0 (plan_line p) after end
unfolding plan_line
plan_wrote p w v = wrote_as (wrote_more w v) (append_assoc (ascii "plan ") (decimal p.tag) _)
