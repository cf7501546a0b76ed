-- Plans that hold a cycle, and how writing one ends. Assumes nothing.
use Rattle.std.proofs.Common.{Ok, Err}
use Prim.Native.Nat.{ℕ, ◌+◌, ◌-◌, ◌/◌, ◌≤◌, ◌<◌}
use mathlib.Core.Path.{◌≡◌, sym, ap, ap₂, ◌∙◌}
use mathlib.Core.Bool.{true, false, not}
use mathlib.Core.List.{List, ◌++◌, append_assoc}
use native.Mathlib.Omega.{arith}
use borrow.Author.Tests.{eqb-true, eqb-false, eq-eqb, ne_eqb, le-leb, lt-leb, not-true}
use lib.Dec.{eqb}
use lib.ListN.{length, take, drop, replicate, length-append, length-drop, take-append-drop}
use lib.Seq.{length-take-le, take_all}
use Rattle.words.specs.Below.{list_below}
use Rattle.words.proofs.Tests.{and_left, and_right, not_passed}
use Rattle.text.specs.Text.{same, placed, put_in}
use Rattle.text.proofs.PutLaws.{put_fits, placed_length, placed_placed, placed_front}
use Rattle.unit.specs.declared.Plan.{Plan}
use Rattle.unit.specs.declared.Refusal.TheVariants.{BadRecord, ShortOutput}
use Rattle.collision.specs.Pipeline.{total}
use Rattle.plan_record.specs.Record.{Recordable, recordable, ring_byte, ring_length, ring_of, fields, record_of}
use Rattle.plan_record.specs.Write.{Holds, cycle_in, holds_cycle, writable, write_refusal, write_answer, write_out}
use Rattle.plan_record.proofs.CycleLaws.{recordable_facts, total_most}
use Rattle.plan_record.proofs.RingLaws.{ring_length_lem}
use Rattle.plan_record.proofs.RecordLaws.{record_length}
use Rattle.text.proofs.SameLaws.{same_eq, same_behind}

-- The test as facts

pub record Held (p : Plan) : Type 0 where
  pub cycle : Recordable (cycle_in p)
  pub holds : Holds p (cycle_in p)

pub held : (p : Plan) → holds_cycle p ≡ true → Held p
unfolding holds_cycle
held p e =
    let r = and_right (recordable (cycle_in p)) _ e in
    let s = and_right (eqb p.count (length (cycle_in p))) _ r in
    let n = eqb-true p.count (length (cycle_in p)) (and_left (eqb p.count (length (cycle_in p))) _ r) in
    record {
      cycle = recordable_facts (cycle_in p) (and_left (recordable (cycle_in p)) _ e);
      holds = record {
        count = n;
        sum = eqb-true p.sum (total (cycle_in p)) (and_left (eqb p.sum (total (cycle_in p))) _ s);
        latencies = same_eq _ _ (and_right (eqb p.sum (total (cycle_in p))) _ s) ∙ ap (λ k. cycle_in p ++ replicate (256 - k) 0) n;
      };
    }

pub no_held : (p : Plan) → (Held p → ⊥) → holds_cycle p ≡ false
no_held p f = not_passed (holds_cycle p) (λ e. f (held p e))

-- the part from K on
pub zero_part : (k : ℕ) (b : List ℕ) → length b ≡ 256
    → same (take (256 - k) (drop k b)) (replicate (length (take (256 - k) (drop k b))) 0) ≡ same (drop k b) (replicate (length (drop k b)) 0)
zero_part k b n =
    let m : length (drop k b) ≤ 256 - k = omega (arith, length-drop k b) in
    ap (λ x. same x (replicate (length x) 0)) (take_all (256 - k) (drop k b) m)

-- where the cycle, K and S are right, the rest of the bytes decides
pub held_rest : (p : Plan) → length p.latencies ≡ 256 → p.count ≤ 256 → recordable (cycle_in p) ≡ true → p.sum ≡ total (cycle_in p)
    → holds_cycle p ≡ same (drop p.count p.latencies) (replicate (length (drop p.count p.latencies)) 0)
unfolding holds_cycle
held_rest p n few r s =
    let k : p.count ≡ length (cycle_in p) = sym (length-take-le p.count p.latencies (omega arith)) in
    let rest : 256 - p.count ≡ length (drop p.count p.latencies) = omega (arith, length-drop p.count p.latencies) in
    rw (r, eq-eqb p.count (length (cycle_in p)) k, eq-eqb p.sum (total (cycle_in p)) s)
    (ap (λ x. same x (cycle_in p ++ replicate (256 - p.count) 0)) (sym (take-append-drop p.count p.latencies))
    ∙ same_behind (cycle_in p) (drop p.count p.latencies) (replicate (256 - p.count) 0)
    ∙ ap (λ k. same (drop p.count p.latencies) (replicate k 0)) rest)

-- The record's parts, one behind the other

pub record_placed : (l b b1 b2 b3 : List ℕ) → length (record_of l) ≤ length b → b1 ≡ put_in b 0 (fields (length l) (total l)) → b2 ≡ put_in b1 8 l
    → b3 ≡ placed b2 (8 + length l) (ring_of l) → b3 ≡ placed b 0 (record_of l)
unfolding record_of
record_placed l b b1 b2 b3 room e1 e2 e3 =
    let head : List ℕ = fields (length l) (total l) in
    let n = record_length l in
    let r = ring_length_lem l in
    let p1 : b1 ≡ placed b 0 head = e1 ∙ put_fits b 0 head (omega arith) in
    let n1 : length b1 ≡ length b = ap length p1 ∙ placed_length b 0 head (omega arith) in
    let m : length (head ++ l) ≡ 8 + length l = length-append head l in
    let p2 : b2 ≡ placed b 0 (head ++ l) =
    e2 ∙ put_fits b1 8 l (omega arith) ∙ ap (λ x. placed x 8 l) p1 ∙ placed_placed b 0 head l (omega arith) in
    let whole : length ((head ++ l) ++ ring_of l) ≡ length (head ++ l) + length (ring_of l) = length-append (head ++ l) (ring_of l) in
    let at : 8 + length l ≡ 0 + length (head ++ l) = omega arith in
    e3 ∙ ap₂ (λ (x : List ℕ) (i : ℕ). placed x i (ring_of l)) p2 at ∙ placed_placed b 0 (head ++ l) (ring_of l) (omega arith)
    ∙ ap (placed b 0) (append_assoc head l (ring_of l))

-- the same by the plan's numbers
pub plan_placed : (p : Plan) (head b b1 b2 b3 : List ℕ) → holds_cycle p ≡ true → length (record_of (cycle_in p)) ≤ length b → head ≡ fields p.count p.sum
    → b1 ≡ put_in b 0 head → b2 ≡ put_in b1 8 (cycle_in p) → b3 ≡ placed b2 (8 + p.count) (list_below ((p.sum + 7) / 8) (ring_byte (cycle_in p)))
    → b3 ≡ placed b 0 (record_of (cycle_in p))
unfolding ring_of
plan_placed p head b b1 b2 b3 e room f e1 e2 e3 =
    let h = (held p e).holds in
    record_placed (cycle_in p) b b1 b2 b3 room (e1 ∙ ap (put_in b 0) (f ∙ ap₂ fields h.count h.sum)) e2
    (e3 ∙ ap₂ (λ (i j : ℕ). placed b2 (8 + i) (list_below (ring_length j) (ring_byte (cycle_in p)))) h.count h.sum)

-- room for the ring, and how long it is
pub ring_room : (p : Plan) (room : ℕ) → holds_cycle p ≡ true → length (record_of (cycle_in p)) ≤ room
    → ((p.sum + 7) / 8 ≤ 1024) × (8 + p.count + (p.sum + 7) / 8 ≤ room)
ring_room p room e h =
    let k = held p e in (
      omega (arith, total_most (cycle_in p) k.cycle, k.holds.sum),
      omega (arith, record_length (cycle_in p), k.holds.count, ap (λ s. (s + 7) / 8) k.holds.sum),
    )

-- Which plans can be written

module _ (p : Plan) where
  pub writable_none : p.tag ≡ 0 → writable p ≡ false
  unfolding writable
  writable_none z = simp (eq-eqb p.tag 0 z)

  pub writable_held : (p.tag ≡ 0 → ⊥) → writable p ≡ holds_cycle p
  unfolding writable
  writable_held n = rw (ne_eqb p.tag 0 n)

  pub writable_tag : writable p ≡ true → p.tag ≡ 0 → ⊥
  unfolding writable
  writable_tag e = eqb-false p.tag 0 (not-true (eqb p.tag 0) (and_left (not (eqb p.tag 0)) _ e))

  pub writable_holds : writable p ≡ true → holds_cycle p ≡ true
  unfolding writable
  writable_holds e = and_right (not (eqb p.tag 0)) (holds_cycle p) e

-- How a call ends

module _ (p : Plan) (b : List ℕ) where
  pub ends_bad : writable p ≡ false → (Err BadRecord ≡ write_answer p (length b)) × (b ≡ write_out p b)
  unfolding write_answer write_out write_refusal
  ends_bad e = (simp e, simp e)

  module _ (e : writable p ≡ true) (size : ℕ) (s : size ≡ 8 + p.count + (p.sum + 7) / 8) where
    whole : length (record_of (cycle_in p)) ≡ size
    whole =
        let h = (held p (writable_holds p e)).holds in
        record_length (cycle_in p) ∙ ap₂ (λ (i j : ℕ). 8 + i + (j + 7) / 8) (sym h.count) (sym h.sum) ∙ sym s

    pub write_room : size ≤ length b → length (record_of (cycle_in p)) ≤ length b
    write_room h = omega (arith, whole)

    pub ends_short : length b < size → (Err ShortOutput ≡ write_answer p (length b)) × (b ≡ write_out p b)
    unfolding write_answer write_out write_refusal
    ends_short h = let l = lt-leb (length (record_of (cycle_in p))) (length b) (omega (arith, whole)) in (simp (e, l), simp (e, l))

    pub ends_written : (out : List ℕ) → size ≤ length b → out ≡ placed b 0 (record_of (cycle_in p))
        → (Ok size ≡ write_answer p (length b)) × (out ≡ write_out p b)
    unfolding write_answer write_out write_refusal
    ends_written out h w =
        let l = le-leb (length (record_of (cycle_in p))) (length b) (omega (arith, whole)) in
        (rw (e, l) (ap Ok (sym whole)), rw (e, l) (w ∙ placed_front b (record_of (cycle_in p))))
