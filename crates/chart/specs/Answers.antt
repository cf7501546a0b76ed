-- What the calls that draw a chart answer, and the lent text area afterwards.
use Rattle.std.specs.Prelude.{ℕ, zero, suc, List, leb, length, Result, Ok, Err}
use Rattle.unit.specs.declared.Plan.{Plan}
use Rattle.unit.specs.declared.FunctionUnit.{FunctionUnit}
use Rattle.unit.specs.declared.Refusal.TheVariants.{ShortOutput, BadRecord}
use Rattle.unit.specs.Answers.{Answer}
use Rattle.unit.specs.Calls.{check, and_then, tag_answer}
use Rattle.diagram.specs.Answers.{written}
use Rattle.plan_record.specs.Write.{holds_cycle}
use Rattle.simulator.specs.Play.{unit_after}
use Rattle.function_plan.specs.Own.{own_answer}
use Rattle.chart.specs.Text.{chart_of}
use Rattle.unit.specs.declared.Refusal.{Refusal}

-- 1, 2 and 15 for the unit, the plan's tag and the plan
unfoldable pub plan_answer : FunctionUnit → Plan → Answer
plan_answer u p = and_then (tag_answer u p.tag) (check (holds_cycle p) BadRecord (Ok tt))

-- the first refusal among the steps of n units (`TenAlone`, crate chart_claims: where the plan is good, that is 10)
unfoldable pub units_answer : FunctionUnit → Plan → ℕ → Answer
units_answer u p zero = Ok tt
units_answer u p (suc n) = and_then (units_answer u p n) (unit_after u p n).answer

-- the length of the text, where nothing is refused
abbrev pub charted : Answer → List ℕ → Result ℕ Refusal
charted (Ok _) text = Ok (length text)
charted (Err why) text = Err why

-- 1, 2 and 15, then 6 where the area is too short for the text, and then 10
unfoldable pub chart_refusal : FunctionUnit → Plan → ℕ → ℕ → Answer
chart_refusal u p n room = and_then (plan_answer u p) (check (leb (length (chart_of u p n)) room) ShortOutput (units_answer u p n))

unfoldable pub chart_answer : FunctionUnit → Plan → ℕ → ℕ → Result ℕ Refusal
chart_answer u p n room = charted (chart_refusal u p n room) (chart_of u p n)

-- the text fills the front of the lent bytes, the others stay as before; a refused call changes none
unfoldable pub chart_out : FunctionUnit → Plan → ℕ → List ℕ → List ℕ
chart_out u p n bytes = written (chart_refusal u p n (length bytes)) (chart_of u p n) bytes

-- the chart of a function's own plan: before that 1, 2 and 8
unfoldable pub simulate_refusal : FunctionUnit → ℕ → ℕ → ℕ → Answer
simulate_refusal u q n room = and_then (own_answer u q) (chart_refusal u u.plan n room)

unfoldable pub simulate_answer : FunctionUnit → ℕ → ℕ → ℕ → Result ℕ Refusal
simulate_answer u q n room = charted (simulate_refusal u q n room) (chart_of u u.plan n)

unfoldable pub simulate_out : FunctionUnit → ℕ → ℕ → List ℕ → List ℕ
simulate_out u q n bytes = written (simulate_refusal u q n (length bytes)) (chart_of u u.plan n) bytes

-- room for every chart of up to 8,192 units
abbrev pub chart_area : ℕ
chart_area = 147858
