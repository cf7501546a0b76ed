-- Words in front of an area as calls hand them over, and the line of the states. Assumes nothing.
use Rattle.std.proofs.Common.{Result, Ok, Err}
use mathlib.Core.Path.{◌≡◌, refl, sym, ap, ◌∙◌}
use mathlib.Core.Bool.{Bool, true, false}
use mathlib.Core.List.{List, ◌++◌}
use Prim.Native.Nat.{ℕ, ◌≤◌}
use native.Mathlib.Omega.{arith}
use lib.Dec.{leb}
use lib.ListN.{length, take, drop, length-append}
use lib.Seq.{take_at}
use borrow.Author.Tests.{leb-true}
use Rattle.text.specs.Text.{ascii, decimal, spaced}
use Rattle.unit.specs.declared.FunctionUnit.{FunctionUnit}
use Rattle.unit.specs.declared.Refusal.{Refusal}
use Rattle.unit.specs.declared.Refusal.TheVariants.{TooManyStates}
use Rattle.unit.specs.Answers.{Answer}
use Rattle.unit.specs.Unit.{marked}
use Rattle.unit.specs.Calls.{check, and_then, tag_answer}
use Rattle.collision.specs.Answers.{answering}
use Rattle.diagram.specs.Answers.{states_of, states_refusal, states_answer, written, states_out}
use Rattle.listing.specs.Lines.{newline, refused_line}
use Rattle.questions.specs.Replies.{states_reply}
use Rattle.questions.proofs.ReplyLaws.{numbered_refused, numbered_value}

-- A list in front of an area

-- a list of at most 256 numbers is the first `count` of the area
pub record Front (list area : List ℕ) (count : ℕ) : Type 0 where
  pub counts : count ≡ length list
  pub few : length list ≤ 256
  pub front : take count area ≡ list
  pub room : count ≤ length area

pub front_written : (list words : List ℕ) {area : List ℕ} {count : ℕ} → count ≡ length list → length list ≤ 256 → area ≡ written (Ok tt) list words
    → Front list area count
front_written list words {count = count} c f w = record {
  counts = c;
  few = f;
  front = rw w (take_at list (drop (length list) words) count (sym c));
  room = rw w (omega (arith, length-append list (drop (length list) words)));
}

pub front_part : {list area : List ℕ} {count : ℕ} → Front list area count → count ≡ length (take count area)
front_part f = f.counts ∙ ap length (sym f.front)

-- What is not refused

pub then_done : (a b : Answer) → and_then a b ≡ Ok tt → b ≡ Ok tt
then_done (Ok _) b e = e
then_done (Err why) b e = let z : ◌≡◌ {A = ℕ} 0 1 = cc in absurd (omega arith)

pub few_done : (n : ℕ) → check (leb n 256) TooManyStates (Ok tt) ≡ Ok tt → n ≤ 256
few_done n e = go (leb n 256) refl e
  where
    go : (b : Bool) → leb n 256 ≡ b → check b TooManyStates (Ok tt) ≡ Ok tt → n ≤ 256
    go true p e = leb-true n 256 p
    go false p e = let z : ◌≡◌ {A = ℕ} 0 1 = cc in absurd (omega arith)

-- The states

-- the line of a number of states and a list
abbrev pub states_line : List ℕ → ℕ → List ℕ
states_line list n = ascii "states " ++ decimal n ++ ascii ":" ++ spaced list ++ newline

module _ (u : FunctionUnit) (q : ℕ) where
  states_few : states_refusal u q 256 ≡ Ok tt → length (states_of 1 (marked u) q) ≤ 256
  unfolding states_refusal
  states_few e = few_done (length (states_of 1 (marked u) q)) (then_done (tag_answer u q) _ e)

  -- they stand in front of the words
  pub states_front : (words : List ℕ) {asked : (Result ℕ Refusal)} {n : ℕ} {area : List ℕ} → length words ≡ 256 → asked ≡ states_answer u q 256
      → area ≡ states_out u q words → asked ≡ Ok n → Front (states_of 1 (marked u) q) area n
  unfolding states_answer states_out
  states_front words {n = n} {area} l a w t =
      go (states_refusal u q 256) refl (sym t ∙ a) (w ∙ ap (λ k. written (states_refusal u q k) (states_of 1 (marked u) q) words) l)
    where
      go : (r : Answer) → states_refusal u q 256 ≡ r → Ok n ≡ answering r (length (states_of 1 (marked u) q))
          → area ≡ written r (states_of 1 (marked u) q) words → Front (states_of 1 (marked u) q) area n
      go (Ok _) p e w = let c : n ≡ length (states_of 1 (marked u) q) = cc in front_written (states_of 1 (marked u) q) words c (states_few p) w
      go (Err why) p e w = let z : ◌≡◌ {A = ℕ} 0 1 = cc in absurd (omega arith)

  pub states_refused : {asked : (Result ℕ Refusal)} {why : Refusal} → asked ≡ states_answer u q 256 → asked ≡ Err why → refused_line why ≡ states_reply u q
  unfolding states_reply
  states_refused a t = numbered_refused (states_line (states_of 1 (marked u) q)) (sym a ∙ t)

  pub states_shown : {asked : (Result ℕ Refusal)} {n : ℕ} {list : List ℕ} → asked ≡ states_answer u q 256 → asked ≡ Ok n → list ≡ states_of 1 (marked u) q
      → states_line list n ≡ states_reply u q
  unfolding states_reply
  states_shown {n = n} a t e = ap (λ l. states_line l n) e ∙ numbered_value (states_line (states_of 1 (marked u) q)) (sym a ∙ t)
