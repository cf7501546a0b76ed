-- The tests by which bytes are found to be a record, or not. Assumes nothing.
use Prim.Native.Nat.{ℕ, ◌+◌, ◌-◌, ◌/◌, ◌≤◌}
use mathlib.Core.Path.{◌≡◌, sym, ap, ap₂, ◌∙◌, subst}
use mathlib.Core.Bool.{Bool, false, cond}
use mathlib.Core.List.{List}
use native.Mathlib.Omega.{arith}
use lib.ListN.{length, take, drop, length-drop}
use lib.Seq.{take_all}
use Rattle.words.specs.Below.{list_below}
use Rattle.words.proofs.Tests.{nowhere, same_test}
use Rattle.collision.specs.Pipeline.{total}
use Rattle.unit_file.specs.Read.{word16}
use Rattle.text.specs.Text.{same}
use Rattle.plan_record.specs.Record.{Recordable, recordable, ring_byte}
use Rattle.plan_record.specs.Read.{count_in, sum_in, list_in, ring_in, is_record}
use Rattle.plan_record.proofs.CycleLaws.{recordable_facts, recordable_of, total_most, summed_cycle, summed_none}
use Rattle.text.proofs.SameLaws.{same_eq, same_of}
use Rattle.plan_record.proofs.RecordLaws.{Heads, fits, no_record_lem, fits_record}

-- K, S and the offset of the ring are in hand
module _ (b : List ℕ) (k s at : ℕ) (ek : k ≡ count_in b) (es : s ≡ sum_in b) (er : at ≡ 8 + k) where
  pub part_list : take (at - 8) (drop 8 b) ≡ list_in b
  part_list = let e : at - 8 ≡ count_in b = omega arith in ap (λ i. take i (drop 8 b)) e

  pub part_ring : take (length b - at) (drop at b) ≡ ring_in b
  part_ring =
      let n : length (drop at b) ≤ length b - at = omega (arith, length-drop at b) in
      take_all (length b - at) (drop at b) n ∙ ap (λ i. drop i b) (er ∙ ap (λ i. 8 + i) ek)

  -- and so is the sum of the list, or 0
  module _ (adds : ℕ) (ea : adds ≡ cond (recordable (take (at - 8) (drop 8 b))) (total (take (at - 8) (drop 8 b))) 0) where
    summed : adds ≡ cond (recordable (list_in b)) (total (list_in b)) 0
    summed = ea ∙ ap (λ (l : List ℕ). cond (recordable l) (total l) 0) part_list

    pub no_cycle : adds ≡ 0 → is_record b ≡ false
    no_cycle z = no_record_lem b (λ f. nowhere (sym (summed_none (list_in b) adds summed z) ∙ recordable_of (list_in b) f.cycle))

    pub no_sum : (adds ≡ s → ⊥) → is_record b ≡ false
    no_sum n = no_record_lem b (λ f. n (summed ∙ (rw (recordable_of (list_in b) f.cycle) (f.sum ∙ sym es))))

    module _ (some : adds ≡ 0 → ⊥) where
      cycle : Recordable (list_in b)
      cycle = recordable_facts (list_in b) (summed_cycle (list_in b) adds summed some).0

      pub part_cycle : Recordable (take (at - 8) (drop 8 b))
      part_cycle = subst (λ (l : List ℕ). Recordable l) (sym part_list) cycle

      pub part_short : adds ≡ s → length b ≡ at + (s + 7) / 8 → length (take (length b - at) (drop at b)) ≤ 1024
      part_short e size =
          let t : adds ≡ total (list_in b) = (summed_cycle (list_in b) adds summed some).1 in
          let n : length (take (length b - at) (drop at b)) ≡ length b - (8 + count_in b) = ap length part_ring ∙ length-drop (8 + count_in b) b in
          omega (arith, total_most (list_in b) cycle)

      -- the ring decides
      pub ring_decides : (r : Bool) → Heads b → 8 ≤ length b → word16 b 4 ≡ 8 → word16 b 6 ≡ at → at ≤ length b → adds ≡ s → length b ≡ at + (s + 7) / 8
          → r ≡ same (take (length b - at) (drop at b)) (list_below (length (take (length b - at) (drop at b))) (ring_byte (take (at - 8) (drop 8 b))))
          → r ≡ is_record b
      ring_decides r h long l4 l6 inside e size d =
          d ∙ ap₂ (λ (x y : List ℕ). same x (list_below (length x) (ring_byte y))) part_ring part_list
          ∙ same_test (same (ring_in b) (list_below (length (ring_in b)) (ring_byte (list_in b)))) (is_record b)
          (λ t. fits_record b h (record {
            long = long;
            list_at = l4;
            ring_at = l6 ∙ er ∙ ap (λ i. 8 + i) ek;
            inside = omega arith;
            cycle = cycle;
            sum = sym (summed_cycle (list_in b) adds summed some).1 ∙ e ∙ es;
            size = size ∙ ap₂ (λ (i j : ℕ). i + (j + 7) / 8) (er ∙ ap (λ i. 8 + i) ek) es;
            ring = same_eq _ _ t;
          }))
          (λ t. same_of _ _ (fits b t).ring)
