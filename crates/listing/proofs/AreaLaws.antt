-- Text handed over in a lent area. Assumes nothing.
use Rattle.std.proofs.Common.{Result, Ok, Err}
use Prim.Native.Nat.{ℕ, ◌≤◌, ◌<◌}
use mathlib.Core.Path.{◌≡◌, sym, ap, ◌∙◌, subst}
use mathlib.Core.Bool.{true, false}
use mathlib.Core.List.{List, []}
use native.Mathlib.Nat.{zero-add}
use native.Mathlib.Omega.{arith}
use borrow.Author.Tests.{le-leb, lt-leb}
use lib.ListN.{length, take, drop}
use lib.Seq.{take_at}
use Rattle.words.proofs.Tests.{nowhere}
use Rattle.text.specs.Text.{put_in}
use Rattle.text.proofs.PutLaws.{put_fits, placed_front}
use Rattle.unit.specs.declared.FunctionUnit.{FunctionUnit}
use Rattle.unit.specs.declared.Refusal.TheVariants.{NotSound, ShortOutput}
use Rattle.unit.specs.Unit.{sound_of}
use Rattle.listing.specs.Lines.{unit_text}
use Rattle.listing.specs.Listing.{room_answer, Printed, unit_refusal, UnitListed}
use Rattle.text.specs.Wrote.{Put}
use Rattle.listing.specs.Inner.{ToldAll}
use Rattle.listing.proofs.UnitLaws.{functions_few}
use Rattle.unit.specs.declared.Refusal.{Refusal}

-- An area with and without the room

pub area_short : (words before : List ℕ) → length before < length words
    → Printed (room_answer words (length before)) words before before (Err ShortOutput)
area_short words before h = let t = lt-leb (length words) (length before) h in record { says = rw t; area = rw t }

pub area_written : (words before : List ℕ) {after : List ℕ} → length words ≤ length before → after ≡ put_in before 0 words
    → Printed (room_answer words (length before)) words before after (Ok (length words))
area_written words before h e =
    let t = le-leb (length words) (length before) h in
    record {
      says = rw t;
      area = rw t (e ∙ put_fits before 0 words (rw (zero-add (length words)) h) ∙ placed_front before words);
    }

-- What was put together first

-- text written from the first byte on stands in front
pub put_front : {n : ℕ} {before text after : List ℕ} {end : ℕ} → Put n before 0 text after end → take end after ≡ text
put_front {before = before} {text} {end = end} p =
    ap (take end) (p.wrote.bytes ∙ placed_front before text) ∙ take_at text (drop (length text) before) end (sym (p.wrote.next ∙ zero-add (length text)))

-- and is as long as it was written
pub put_front_length : {n : ℕ} {before text after : List ℕ} {end : ℕ} → Put n before 0 text after end → end ≡ length (take end after)
put_front_length {text = text} p = p.wrote.next ∙ zero-add (length text) ∙ ap length (sym (put_front p))

pub printed_as : {a b before after : List ℕ} {answer : (Result ℕ Refusal)} → a ≡ b → Printed (room_answer a (length before)) a before after answer
    → Printed (room_answer b (length before)) b before after answer
printed_as {before = before} {after} {answer} e p = subst (λ (x : List ℕ). Printed (room_answer x (length before)) x before after answer) e p

-- The listing of a unit

pub unit_unsound : {u : FunctionUnit} {before : List ℕ} → sound_of u ≡ false → UnitListed u before before (Err NotSound)
unfolding unit_refusal
unit_unsound e = record {
  best = λ q. [];
  bests = λ s. nowhere (sym e ∙ s);
  suffices = λ s. nowhere (sym e ∙ s);
  printed = record { says = rw e; area = rw e };
}

module _ {u : FunctionUnit} {zeros all : List ℕ} {end : ℕ} (s : sound_of u ≡ true) (t : ToldAll u u.functions zeros all end) where
  pub unit_most : end ≤ 8888
  unit_most = omega (arith, t.put.few, functions_few u s)

  pub unit_listed : {before after : List ℕ} {answer : (Result ℕ Refusal)} → Printed (room_answer (take end all) (length before)) (take end all) before after answer
      → UnitListed u before after answer
  unfolding unit_text unit_refusal
  unit_listed {before} {after} {answer} p = record {
    best = t.cycles;
    bests = λ s. t.best;
    suffices = λ s. omega (arith, unit_most, put_front_length t.put, ap length (put_front t.put));
    printed = rw s (printed_as (put_front t.put) p);
  }
