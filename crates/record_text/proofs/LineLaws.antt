-- The lines that show a record. Assumes nothing.
use Rattle.std.proofs.Common.{Result, Ok, Err}
use mathlib.Core.Path.{◌≡◌, sym, ap, ◌∙◌}
use mathlib.Core.Bool.{true, false, cond}
use mathlib.Core.List.{List}
use Prim.Native.Nat.{ℕ, ◌+◌, ◌*◌, ◌≤◌}
use native.Mathlib.Omega.{arith}
use lib.ListN.{length}
use Rattle.words.specs.Below.{list_below}
use Rattle.words.proofs.ListLaws.{list_length}
use Rattle.text.specs.Text.{digit, placed}
use Rattle.text.specs.Wrote.{Wrote}
use Rattle.unit.specs.declared.Refusal.{Refusal}
use Rattle.collision.specs.Pipeline.{total}
use Rattle.listing.specs.Lines.{refused_line}
use Rattle.session.specs.Sessions.{Line}
use Rattle.session.proofs.LineLaws.{line_as}
use Rattle.plan_record.specs.Record.{ring_bit}
use Rattle.plan_record.specs.Read.{report_answer, report_list, load_answer, load_ring}
use Rattle.plan_record.proofs.CycleLaws.{total_most}
use Rattle.plan_record.proofs.RingLaws.{ring_length_lem}
use Rattle.plan_record.proofs.ReadLaws.{number_shown}
use Rattle.plan_record.proofs.Claims.{accepted_exactly}
use Rattle.record_text.specs.Lines.{list_line, bit_text, bits_text, ring_line, shown_line, report_line, load_line}

-- What is shown is not too long

pub list_few : (file : List ℕ) (K : ℕ) → report_answer file ≡ Ok K → length (report_list file) ≤ 256
list_few file K e =
    let a = accepted_exactly file in
    let g = a.report.0 (record { number = K; shows = e }) in
    omega (arith, ap length (a.shown g).list, g.recordable.few)

pub ring_fits : (file : List ℕ) (S : ℕ) → load_answer file ≡ Ok S → (S ≤ 8192) × (S ≤ 8 * length (load_ring file))
ring_fits file S e =
    let a = accepted_exactly file in
    let g = a.load.0 (record { number = S; shows = e }) in
    let sum : S ≡ total g.cycle = number_shown (sym e ∙ (a.shown g).sum) in
    let size = ap length (a.shown g).ring ∙ ring_length_lem g.cycle in
    (omega (arith, total_most g.cycle g.recordable), omega arith)

-- The bits, one after the other

pub bit_one : (ring : List ℕ) (i : ℕ) → ring_bit ring i ≡ true → 49 ≡ bit_text ring i
bit_one ring i e = ap (λ t. digit (cond t 1 0)) (sym e)

pub bit_none : (ring : List ℕ) (i : ℕ) → ring_bit ring i ≡ false → 48 ≡ bit_text ring i
bit_none ring i e = ap (λ t. digit (cond t 1 0)) (sym e)

-- all of them stand in the line
pub bits_wrote : (before after : List ℕ) (at count : ℕ) (ring : List ℕ) → at + count ≤ length before → after ≡ placed before at (list_below count (bit_text ring))
    → Wrote before at (bits_text count ring) after (at + count)
unfolding bits_text
bits_wrote before after at count ring h e =
    let n = list_length count (bit_text ring) in record { bytes = e; next = omega arith; room = omega arith }

pub bits_length : (count : ℕ) (ring : List ℕ) → length (bits_text count ring) ≡ count
unfolding bits_text
bits_length count ring = list_length count (bit_text ring)

-- What is told of a file

module _ (file before after : List ℕ) (end : ℕ) where
  pub report_refused : (why : Refusal) → report_answer file ≡ Err why → Line (refused_line why) before after end → Line (report_line file) before after end
  unfolding report_line
  report_refused why e l = line_as (ap (λ (x : Result ℕ Refusal). shown_line x (λ K. list_line K (report_list file))) (sym e)) l

  pub report_shown : (K : ℕ) → report_answer file ≡ Ok K → Line (list_line K (report_list file)) before after end → Line (report_line file) before after end
  unfolding report_line
  report_shown K e l = line_as (ap (λ (x : Result ℕ Refusal). shown_line x (λ K. list_line K (report_list file))) (sym e)) l

  pub load_refused : (why : Refusal) → load_answer file ≡ Err why → Line (refused_line why) before after end → Line (load_line file) before after end
  unfolding load_line
  load_refused why e l = line_as (ap (λ (x : Result ℕ Refusal). shown_line x (λ S. ring_line S (load_ring file))) (sym e)) l

  pub load_shown : (S : ℕ) → load_answer file ≡ Ok S → Line (ring_line S (load_ring file)) before after end → Line (load_line file) before after end
  unfolding load_line
  load_shown S e l = line_as (ap (λ (x : Result ℕ Refusal). shown_line x (λ S. ring_line S (load_ring file))) (sym e)) l
