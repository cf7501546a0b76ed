-- What the two readers show. Assumes nothing.
use Rattle.std.proofs.Common.{Result, Ok, Err}
use Prim.Native.Nat.{ℕ, ◌+◌, ◌-◌, ◌≤◌}
use mathlib.Core.Path.{◌≡◌, sym, ap, ◌∙◌}
use mathlib.Core.Bool.{Bool, true, false}
use mathlib.Core.List.{List, []}
use native.Mathlib.Omega.{arith}
use lib.ListN.{length, take, drop, length-drop}
use lib.Seq.{take_all}
use Rattle.words.proofs.Tests.{nowhere}
use Rattle.unit.specs.declared.Refusal.{Refusal}
use Rattle.unit.specs.declared.Refusal.TheVariants.{BadRecord}
use Rattle.plan_record.specs.Read.{count_in, sum_in, list_in, ring_in, is_record, record_answer, report_answer, report_list, load_answer, load_ring}

-- A number that is shown is one number, and no refusal

abbrev number_in : Result ℕ Refusal → ℕ
number_in (Ok n) = n
number_in (Err why) = 0

abbrev is_number : Result ℕ Refusal → Bool
is_number (Ok n) = true
is_number (Err why) = false

pub number_shown : {m n : ℕ} → ◌≡◌ {A = Result ℕ Refusal} (Ok m) (Ok n) → m ≡ n
number_shown e = ap number_in e

pub number_not : {A : Type 0} {n : ℕ} {why : Refusal} → ◌≡◌ {A = Result ℕ Refusal} (Ok n) (Err why) → A
number_not e = nowhere (ap is_number (sym e))

-- By the test

accepts : (b : List ℕ) → is_record b ≡ true → record_answer b ≡ Ok tt
unfolding record_answer
accepts b e = rw e

refuses : (b : List ℕ) → is_record b ≡ false → record_answer b ≡ Err BadRecord
unfolding record_answer
refuses b e = rw e

module _ (b : List ℕ) where
  pub report_refused : is_record b ≡ false → Err BadRecord ≡ report_answer b
  unfolding report_answer
  report_refused e = rw (refuses b e)

  pub load_refused : is_record b ≡ false → Err BadRecord ≡ load_answer b
  unfolding load_answer
  load_refused e = rw (refuses b e)

  pub list_refused : is_record b ≡ false → [] ≡ report_list b
  unfolding report_list
  list_refused e = rw (refuses b e)

  pub ring_refused : is_record b ≡ false → [] ≡ load_ring b
  unfolding load_ring
  ring_refused e = rw (refuses b e)

  pub report_shown : (r : ℕ) → is_record b ≡ true → r ≡ count_in b → Ok r ≡ report_answer b
  unfolding report_answer
  report_shown r e v = rw (accepts b e) (ap Ok v)

  pub load_shown : (r : ℕ) → is_record b ≡ true → r ≡ sum_in b → Ok r ≡ load_answer b
  unfolding load_answer
  load_shown r e v = rw (accepts b e) (ap Ok v)

  pub list_is : is_record b ≡ true → report_list b ≡ list_in b
  unfolding report_list
  list_is e = rw (accepts b e)

  pub ring_is : is_record b ≡ true → load_ring b ≡ ring_in b
  unfolding load_ring
  ring_is e = rw (accepts b e)

  -- the parts that are handed out
  pub list_shown : (r : ℕ) → is_record b ≡ true → r ≡ count_in b → take (8 + r - 8) (drop 8 b) ≡ report_list b
  list_shown r e v = let k : 8 + r - 8 ≡ count_in b = omega arith in ap (λ i. take i (drop 8 b)) k ∙ sym (list_is e)

  pub ring_shown : (r : ℕ) → is_record b ≡ true → r ≡ count_in b → take (length b - (8 + r)) (drop (8 + r) b) ≡ load_ring b
  ring_shown r e v =
      let n : length (drop (8 + r) b) ≤ length b - (8 + r) = omega (arith, length-drop (8 + r) b) in
      take_all (length b - (8 + r)) (drop (8 + r) b) n ∙ ap (λ i. drop (8 + i) b) v ∙ sym (ring_is e)
