-- What an arrival and a time unit leave at a shared port, case by case. Assumes nothing.
use Rattle.std.proofs.Common.{Err, Ok, None}
use Prim.Native.Nat.{ℕ}
use mathlib.Core.Path.{◌≡◌, ap, ◌∙◌}
use mathlib.Core.Bool.{true, not}
use mathlib.Core.List.{List}
use lib.Dec.{eqb}
use Rattle.unit.specs.declared.FunctionUnit.{FunctionUnit}
use Rattle.unit.specs.declared.Refusal.{Refusal}
use Rattle.unit.specs.Answers.{Answer}
use Rattle.unit.specs.Unit.{inside}
use Rattle.unit.proofs.Laws.{within}
use Rattle.controller.specs.declared.Event.TheVariants.{Tick}
use Rattle.controller.specs.Bank.{step_of}
use Rattle.queue.specs.declared.Waiting.{Waiting}
use Rattle.queue.specs.Passed.{Passed}
use Rattle.queue.specs.Calls.{count_then, list_then, bank_then, fewer}
use Rattle.callers.specs.Queues.{queue_of, with_queue, count_of, with_count, has_work}
use Rattle.callers.specs.Calls.{arrival_of, arrival_list, counts_then, turn_then, list_by, unit_of, unit_list}
use Rattle.callers.proofs.PartLaws.{parts}
use Rattle.callers.proofs.RoundLaws.{now_inside}
use Rattle.caller_claims.specs.Runs.{Port, after, arrived_at}
use Rattle.caller_claims.specs.Runs.Call.{arrival, unit}
use Rattle.caller_claims.specs.Tasks.{caller_in, passed_in}
use Rattle.caller_claims.proofs.PartLaws.{count_other, count_kept}

-- whose turn it is in a time unit
pub caller_inside : (C : ℕ) (p : Port) → inside p.turn C ≡ true → inside (caller_in C p) C ≡ true
caller_inside C p i = now_inside C (has_work p.counts) p.turn i

-- Arrivals

-- the port after an arrival of w at caller i that was answered so
abbrev pub arrived_by : Port → ℕ → Waiting → Answer → Port
arrived_by p i w a = record {
  bank = p.bank;
  turn = p.turn;
  list = with_queue p.list i (list_then a (queue_of p.list i) (count_of p.counts i) w);
  counts = with_count p.counts i (count_then a (count_of p.counts i));
}

module _ (u : FunctionUnit) (C : ℕ) (p : Port) (i : ℕ) (w : Waiting) where
  pub arrival_port : (a : Answer) → arrived_at u C p i w ≡ a → after u C p (arrival i w) ≡ arrived_by p i w a
  unfolding after arrival_of arrival_list
  arrival_port a e = ap (arrived_by p i w) e

  pub arrival_refused : (why : Refusal) → arrived_at u C p i w ≡ Err why → after u C p (arrival i w) ≡ p
  arrival_refused why e =
      arrival_port (Err why) e
      ∙ λ k. record { bank = p.bank; turn = p.turn; list = parts p.list i k; counts = count_kept p.counts i k }

-- Time units

-- the port after a time unit in which caller i had its turn and this was done
abbrev pub left_by : FunctionUnit → ℕ → Port → ℕ → Passed → Port
left_by u C p i a = record {
  bank = bank_then u a p.bank;
  turn = turn_then C a (counts_then a p.counts i) i p.turn;
  list = list_by p.list p.counts i a;
  counts = counts_then a p.counts i;
}

module _ (u : FunctionUnit) (C : ℕ) (p : Port) where
  pub unit_port : (a : Passed) → passed_in u C p ≡ a → after u C p unit ≡ left_by u C p (caller_in C p) a
  unfolding after unit_of unit_list
  unit_port a e = ap (left_by u C p (caller_in C p)) e

  pub unit_refused : (why : Refusal) → passed_in u C p ≡ Err why → after u C p unit ≡ p
  unit_refused why e =
      unit_port (Err why) e
      ∙ λ k. record { bank = p.bank; turn = p.turn; list = parts p.list (caller_in C p) k; counts = count_kept p.counts (caller_in C p) k }

  pub unit_idle : passed_in u C p ≡ Ok None
      → after u C p unit ≡ record { bank = (step_of u p.bank Tick).bank; turn = caller_in C p; list = p.list; counts = p.counts }
  unit_idle e =
      unit_port (Ok None) e
      ∙ λ k. record {
        bank = (step_of u p.bank Tick).bank;
        turn = caller_in C p;
        list = parts p.list (caller_in C p) k;
        counts = count_kept p.counts (caller_in C p) k;
      }

-- a caller that did not start has as much work as before
pub work_other : (C : ℕ) (counts : List ℕ) (c : ℕ) (a : Passed) (j : ℕ) → inside c C ≡ true → inside j C ≡ true → (j ≡ c → ⊥)
    → has_work counts j ≡ true → has_work (counts_then a counts c) j ≡ true
work_other C counts c a j ic ij n e =
    ap (λ k. not (eqb k 0)) (count_other counts c j (fewer a (count_of counts c)) (within c C ic).least (within j C ij).least n) ∙ e
