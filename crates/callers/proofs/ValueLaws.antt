-- What is found on the records of a port as a value. Assumes nothing.
use Rattle.std.proofs.Common.{Ok, Err}
use Prim.Native.Nat.{ℕ, ◌-◌}
use mathlib.Core.Path.{◌≡◌, refl, ap, ◌∙◌, sym}
use mathlib.Core.Bool.{false}
use lib.ListN.{length}
use lib.Seq.{set-get_or}
use Rattle.unit.specs.declared.FunctionUnit.{FunctionUnit}
use Rattle.unit.specs.Answers.{Answer}
use Rattle.unit.specs.declared.Refusal.{Refusal}
use Rattle.unit.specs.declared.Refusal.TheVariants.{NotSound, NoSuchCaller}
use Rattle.unit.specs.Unit.{inside, sound_of}
use Rattle.unit.specs.Calls.{check}
use Rattle.words.proofs.Tests.{by_test}
use Rattle.controller.specs.declared.Bank.{Bank}
use Rattle.queue.specs.declared.Waiting.{Waiting}
use Rattle.queue.specs.Calls.{count_then, list_then}
use Rattle.callers.specs.declared.ArrivalOn.{ArrivalOn}
use Rattle.callers.specs.declared.UnitOn.{UnitOn}
use Rattle.callers.specs.declared.Shared.{Shared}
use Rattle.callers.specs.Queues.{queue_of, with_queue, count_of, with_count}
use Rattle.callers.specs.Calls.{one_of, caller_first, arrival_at, arrival_of, arrival_list, caller_of, turned_by, unit_of, list_by, unit_list, call_of, taken_of}
use Rattle.callers.specs.Parts.{arrival_in, arrival_on_by, unit_in, unit_on_by}
use Rattle.callers.proofs.PartLaws.{parts}
use Rattle.callers.proofs.TestedLaws.{none_of, first_refused}
use Rattle.callers.proofs.SameLaws.{arrival_same, passed_same}

-- A time unit

module _ (u : FunctionUnit) (b : Bank) (s : Shared) (n : ℕ) (full : n ≡ length s.list) (on : UnitOn)
    (e : on ≡ unit_on_by u b s.callers s.turn s.list s.counts.each (unit_in u s.callers s.turn n s.list s.counts.each)) where
  found : on ≡ unit_on_by u b s.callers s.turn s.list s.counts.each (unit_in u s.callers s.turn (length s.list) s.list s.counts.each)
  found = e ∙ ap (λ (k : ℕ). unit_on_by u b s.callers s.turn s.list s.counts.each (unit_in u s.callers s.turn k s.list s.counts.each)) full

  abbrev caller : ℕ
  caller = caller_of s.callers s.turn s.counts.each

  turned : on.turned ≡ unit_of u b s.callers s.turn s.list s.counts.each
  unfolding unit_of
  turned =
      ap (λ (x : UnitOn). x.turned) found
      ∙ ap (turned_by u b s.callers s.turn s.counts.each caller) (passed_same u s.callers s.turn s.list s.list s.counts.each (λ c l i h. refl) b)

  left : on.records.list ≡ unit_list u b s.callers s.turn s.list s.counts.each
  unfolding unit_list
  left =
      ap (λ (x : UnitOn). x.records.list) found
      ∙ ap (list_by s.list s.counts.each caller) (passed_same u s.callers s.turn s.list s.list s.counts.each (λ c l i h. refl) b)

  pub takes : record {
    answer = on.turned.answer;
    bank = on.turned.bank;
    shared = record { callers = s.callers; turn = on.turned.turn; list = on.records.list; counts = on.turned.counts };
  } ≡ taken_of u b s
  takes = λ i. record {
    answer = (turned i).answer;
    bank = (turned i).bank;
    shared = record { callers = s.callers; turn = (turned i).turn; list = left i; counts = (turned i).counts };
  }

-- An arrival

module _ (u : FunctionUnit) (s : Shared) (i : ℕ) (w : Waiting) where
  abbrev own : ℕ
  own = count_of s.counts.each i

  abbrev told : Answer
  told = arrival_at u s.callers i (queue_of s.list i) own w

  -- refused by what is tried first, and all is as before
  pub stays : (why : Refusal) → caller_first u s.callers i (Ok tt) ≡ Err why → record { answer = Err why; shared = s } ≡ call_of u s i w
  unfolding arrival_of arrival_list arrival_at
  stays why e =
      let a : told ≡ Err why = first_refused u s.callers i _ why e in
      λ j. record {
        answer = sym a j;
        shared = record {
          callers = s.callers;
          turn = s.turn;
          list = sym (ap (λ (x : Answer). with_queue s.list i (list_then x (queue_of s.list i) own w)) a ∙ parts s.list i) j;
          counts = record {
            each = sym (ap (λ (x : Answer). with_count s.counts.each i (count_then x own)) a ∙ set-get_or s.counts.each (i - 1) 0) j;
          };
        };
      }

  first : (why : Refusal) → caller_first u s.callers i (Ok tt) ≡ Err why → record { answer = caller_first u s.callers i (Ok tt); shared = s } ≡ call_of u s i w
  first why e = (λ j. record { answer = e j; shared = s }) ∙ stays why e

  -- what is none of 4 is refused, whatever the unit
  pub strays : inside i 4 ≡ false → record { answer = caller_first u s.callers i (Ok tt); shared = s } ≡ call_of u s i w
  strays e =
      by_test (sound_of u)
      (λ t. first NoSuchCaller (ap (λ b. check b NotSound (check (one_of s.callers i) NoSuchCaller (Ok tt))) t ∙ ap (λ b. check b NoSuchCaller (Ok tt)) (none_of s.callers i e)))
      (λ f. first NotSound (ap (λ b. check b NotSound (check (one_of s.callers i) NoSuchCaller (Ok tt))) f))

  pub calls : (n : ℕ) → n ≡ length s.list → (on : ArrivalOn) → on ≡ arrival_on_by i s.list own w (arrival_in u s.callers i n s.list own w.tag)
      → record {
        answer = on.arrival.answer;
        shared = record {
          callers = s.callers;
          turn = s.turn;
          list = on.records.list;
          counts = record { each = with_count s.counts.each i on.arrival.count };
        };
      } ≡ call_of u s i w
  unfolding arrival_of arrival_list
  calls n full on e =
      let f : on ≡ arrival_on_by i s.list own w told =
      e
      ∙ ap (λ (k : ℕ). arrival_on_by i s.list own w (arrival_in u s.callers i k s.list own w.tag)) full
      ∙ ap (arrival_on_by i s.list own w) (arrival_same u s.callers i s.list s.list (λ o l. refl) own w) in
      λ j. record {
        answer = (f j).arrival.answer;
        shared = record {
          callers = s.callers;
          turn = s.turn;
          list = (f j).records.list;
          counts = record { each = with_count s.counts.each i (f j).arrival.count };
        };
      }
