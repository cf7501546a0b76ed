-- A tick and a start for the unit of a unit file: what is answered, and the words that are left. Assumes nothing.
use Rattle.std.proofs.Common.{Ok, Err}
use Prim.Native.Nat.{ℕ}
use mathlib.Core.Path.{◌≡◌, refl, sym, ap, ap₂, ◌∙◌}
use mathlib.Core.Bool.{true}
use mathlib.Core.List.{List}
use lib.Dec.{leb}
use lib.ListN.{length}
use Rattle.words.specs.Bytes.{narrow}
use Rattle.unit.specs.declared.FunctionUnit.{FunctionUnit}
use Rattle.unit.specs.declared.Outcome.{Outcome}
use Rattle.unit.specs.declared.Tag.{Tag}
use Rattle.unit.specs.declared.Refusal.TheVariants.{NotSound, ShortOutput, NotGranted}
use Rattle.unit.specs.Answers.{Answer}
use Rattle.unit.specs.Numbers.{number_in}
use Rattle.unit.specs.Unit.{sound_of}
use Rattle.unit.specs.Calls.{check, and_then, handed, tag_answer}
use Rattle.unit_file.specs.Read.{read_answer, read_of, unit_in}
use Rattle.unit_file.proofs.AcceptedLaws.{accepted, read_answer_lem}
use Rattle.controller.specs.declared.Event.TheVariants.{Tick, Start}
use Rattle.controller.specs.Bank.{shifted, started, granted, event_answer, moved}
use Rattle.controller.proofs.StepLaws.{start_tried}
use Rattle.file_issue.specs.Issue.{bank_in, bank_over, tick_refusal, start_refusal}
use Rattle.file_issue.specs.Inner.{step_refusal, step_words}
use Rattle.file_issue.proofs.WordLaws.{StepEnds}

-- A tick

abbrev pub TickEnds : List ℕ → List ℕ → List ℕ → ℕ → Type 0
TickEnds file words after r =
    (r ≡ number_in (tick_refusal file (length words)))
    × (after ≡ handed (tick_refusal file (length words)) (bank_over (shifted (bank_in words)) words) words)

-- the unit of an accepted file is sound
sound_in : (file : List ℕ) → read_answer file ≡ Ok tt → sound_of (unit_in file) ≡ true
sound_in file e = let a = accepted file e in ap (λ (o : Outcome). sound_of o.unit) a.unit ∙ a.sound

-- a sound unit refuses no tick
tick_tried : (file words : List ℕ) (back : Outcome) → back ≡ read_of file → step_refusal back.answer back.unit words Tick ≡ tick_refusal file (length words)
unfolding step_refusal tick_refusal event_answer
tick_tried file words back read =
    ap₂ (λ a ok. and_then a (check (leb 4 (length words)) ShortOutput (check ok NotSound (Ok tt))))
    (ap (λ (o : Outcome). o.answer) read ∙ read_answer_lem file) (ap (λ (o : Outcome). sound_of o.unit) read)
    ∙ go (read_answer file) refl
  where
    go : (a : Answer) → read_answer file ≡ a
        → and_then a (check (leb 4 (length words)) ShortOutput (check (sound_of (unit_in file)) NotSound (Ok tt))) ≡ and_then a (check (leb 4 (length words)) ShortOutput (Ok tt))
    go (Ok _) e = ap (λ ok. check (leb 4 (length words)) ShortOutput (check ok NotSound (Ok tt))) (sound_in file e)
    go (Err why) e = refl

pub tick_ends : (file words : List ℕ) (back : Outcome) (after : List ℕ) (r : ℕ) → back ≡ read_of file
    → StepEnds back.answer back.unit Tick words after r → TickEnds file words after r
unfolding step_words moved
tick_ends file words back after r read h =
    let e = tick_tried file words back read in
    (h.0 ∙ ap number_in e, h.1 ∙ ap (λ x. handed x (bank_over (shifted (bank_in words)) words) words) e)

-- A start

abbrev pub StartEnds : List ℕ → ℕ → List ℕ → List ℕ → ℕ → Type 0
StartEnds file q words after r =
    (r ≡ number_in (start_refusal file q words))
    × (after ≡ handed (start_refusal file q words) (bank_over (started (unit_in file) (narrow q) (bank_in words)) words) words)

-- where the tag is tried before, the registers alone decide
start_words : (read tagged : Answer) (u : FunctionUnit) (words : List ℕ) (t : Tag) → tagged ≡ tag_answer u t.0
    → step_refusal (and_then read tagged) u words (Start t)
    ≡ and_then read (and_then tagged (check (leb 4 (length words)) ShortOutput (check (granted (bank_in words) t.0) NotGranted (Ok tt))))
unfolding step_refusal
start_words (Err why) tagged u words t e = refl
start_words (Ok _) (Err why) u words t e = refl
start_words (Ok _) (Ok _) u words t e = ap (check (leb 4 (length words)) ShortOutput) (start_tried u (bank_in words) t (sym e))

module _ (file : List ℕ) (q : ℕ) (words : List ℕ) (back : Outcome) (t : Tag) (tagged tried : Answer) (read : back ≡ read_of file) (tag : t.0 ≡ narrow q)
    (looked : tagged ≡ tag_answer back.unit t.0) (both : tried ≡ and_then back.answer tagged) where
  start_tries : step_refusal tried back.unit words (Start t) ≡ start_refusal file q words
  unfolding start_refusal
  start_tries =
      ap (λ a. step_refusal a back.unit words (Start t)) both ∙ start_words back.answer tagged back.unit words t looked
      ∙ ap (λ a. and_then back.answer (and_then a (check (leb 4 (length words)) ShortOutput (check (granted (bank_in words) t.0) NotGranted (Ok tt))))) looked
      ∙ ap₂ (λ (o : Outcome) s. and_then o.answer (and_then (tag_answer o.unit s) (check (leb 4 (length words)) ShortOutput (check (granted (bank_in words) s) NotGranted (Ok tt))))) read tag
      ∙ ap (λ a. and_then a (and_then (tag_answer (unit_in file) (narrow q)) (check (leb 4 (length words)) ShortOutput (check (granted (bank_in words) (narrow q)) NotGranted (Ok tt)))))
      (read_answer_lem file)

  pub start_ends : (after : List ℕ) (r : ℕ) → StepEnds tried back.unit (Start t) words after r → StartEnds file q words after r
  unfolding step_words moved
  start_ends after r h = (
    h.0 ∙ ap number_in start_tries,
    h.1
        ∙ ap (λ x. handed x (bank_over (started back.unit t.0 (bank_in words)) words) words) start_tries
        ∙ ap₂ (λ (o : Outcome) s. handed (start_refusal file q words) (bank_over (started o.unit s (bank_in words)) words) words) read tag,
  )
