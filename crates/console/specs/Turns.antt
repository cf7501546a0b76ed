-- The commands on a session with a unit: what each is answered, and what it leaves.
use Rattle.std.specs.Prelude.{◌≡◌, Bool, true, false, cond, List, [], ◌++◌, ℕ, take, Ok, Err}
use Rattle.text.specs.Text.{ascii, decimal, spaced, put_in, put_end}
use Rattle.unit.specs.declared.Plan.{Plan}
use Rattle.unit.specs.declared.Outcome.{Outcome}
use Rattle.unit.specs.declared.Refusal.{Refusal}
use Rattle.unit.specs.Answers.{Answer}
use Rattle.unit.specs.Calls.{mark_of, unmark_of}
use Rattle.controller.specs.declared.Bank.{Bank}
use Rattle.controller.specs.declared.Event.{Event}
use Rattle.controller.specs.declared.Event.TheVariants as Event
use Rattle.controller.specs.Bank.{step_of}
use Rattle.planner.specs.Plans.{search_answer, Found, read_answer}
use Rattle.listing.specs.Lines.{newline}
use Rattle.questions.specs.declared.Question.{Question}
use Rattle.questions.specs.declared.Question.TheVariants as Question
use Rattle.questions.specs.Replies.{answered, reply_to}
use Rattle.command_table.specs.declared.Act.{Act}
use Rattle.command_table.specs.declared.Act.TheVariants as Act
use Rattle.command_table.specs.declared.Ask.{Ask}
use Rattle.command_table.specs.declared.Ask.TheVariants as Ask
use Rattle.command_table.specs.declared.Verb.{Verb}
use Rattle.command_table.specs.declared.Verb.TheVariants as Verb
use Rattle.command.specs.declared.Request.{Request}
use Rattle.command.specs.Lines.{latencies_in}
use Rattle.session.specs.declared.Session.{Session}
use Rattle.session.specs.declared.Reply.{Reply}
use Rattle.session.specs.Sessions.{taken, with_port, one, two, three, tag, answer_line}
use Rattle.queue_text.specs.Told.{issue_reply, issue_next}
use Rattle.caller_text.specs.Told.{share_reply, share_next}

-- Sessions

abbrev pub with_bank : Session → Bank → Session
with_bank s b = with_port s b s.queue s.shared

-- Lines

abbrev pub no_unit : List ℕ
no_unit = ascii "no unit\n"

-- the plan's tag, its cycle and its sum
unfoldable pub plan_line : Plan → List ℕ
plan_line p =
    ascii "plan "
    ++ (decimal p.tag ++ (ascii " cycle" ++ (spaced (take p.count p.latencies) ++ (ascii " sum " ++ (decimal p.sum ++ newline)))))

-- the four registers
unfoldable pub bank_line : Bank → List ℕ
bank_line b =
    decimal b.r1 ++ (ascii " " ++ (decimal b.r2 ++ (ascii " " ++ (decimal b.r3 ++ (ascii " " ++ (decimal b.r4 ++ newline))))))

-- Calls

abbrev pub event_asked : Session → Event → Answer
event_asked s e = (step_of s.unit s.bank e).answer

abbrev pub question : Session → Question → List ℕ → List ℕ
question s asked line = reply_to s.unit asked (latencies_in line)

-- what is asked of a function, by its tag
abbrev pub question_of : Ask → Request → Question
question_of Ask.Vector r = Question.Vector (tag (one r))
question_of Ask.Row r = Question.Row (tag (one r)) (tag (two r))
question_of Ask.States r = Question.States (tag (one r))
question_of Ask.Greedy r = Question.Greedy (tag (one r))
question_of Ask.Bound r = Question.Bound (tag (one r))
question_of Ask.Upper r = Question.Upper (tag (one r))
question_of Ask.Constant r = Question.Constant (tag (one r))
question_of Ask.Judge r = Question.Judge (tag (one r))

abbrev pub marking : Session → Request → Outcome
marking s r = mark_of s.unit (one r) (two r) (three r)

abbrev pub unmarking : Session → Request → Outcome
unmarking s r = unmark_of s.unit (one r) (two r) (three r)

-- what is done with the unit and the bank
abbrev pub act_reply : Act → Session → Request → List ℕ
act_reply Act.Mark s r = answer_line (marking s r).answer
act_reply Act.Unmark s r = answer_line (unmarking s r).answer
act_reply Act.Search s r = answer_line (search_answer s.unit (one r) 16000)
act_reply Act.Read s r = answered (read_answer s.unit) (plan_line s.unit.plan)
act_reply Act.Tick s r = answer_line (event_asked s Event.Tick)
act_reply Act.Start s r = answer_line (event_asked s (Event.Start (tag (one r))))
act_reply Act.Bank s r = bank_line s.bank

-- What a session with a unit answers to a command. The commands that make a unit or tell the totals of small tables, and those that write or show a file,
-- list or draw, are answered elsewhere, and here by nothing.
unfoldable pub unit_reply : Verb → Session → Request → List ℕ → List ℕ
unit_reply Verb.Fresh s r line = []
unit_reply Verb.Load s r line = []
unit_reply (Verb.Act a) s r line = act_reply a s r
unit_reply (Verb.Ask a) s r line = question s (question_of a r) line
unit_reply (Verb.Issue a) s r line = issue_reply a s r
unit_reply (Verb.Share a) s r line = share_reply a s r
unit_reply (Verb.Show a) s r line = []
unit_reply (Verb.View a) s r line = []
unit_reply Verb.Small s r line = []

-- as long as there is no unit whatever is asked here is answered `no unit`
unfoldable pub turn_reply : Session → Request → List ℕ → List ℕ
turn_reply s r line = cond s.present (unit_reply r.verb s r line) no_unit

-- What a command leaves

-- Free is which of several cycles of least average a search finds (`Found`, crate planner).
pub record Sought (s : Session) (q : ℕ) (after : Session) : Type 0 where
  pub present : after.present ≡ s.present
  pub bank : after.bank ≡ s.bank
  pub queue : after.queue ≡ s.queue
  pub shared : after.shared ≡ s.shared
  pub kept : (why : Refusal) → search_answer s.unit q 16000 ≡ Err why → after.unit ≡ s.unit
  pub found : search_answer s.unit q 16000 ≡ Ok tt → Found s.unit q after.unit

-- an accepted mark or unmark leaves another unit, an empty bank and empty queues, an event another bank; a refused call leaves what was there
abbrev pub ActNext : Act → Session → Request → Session → Type 0
ActNext Act.Mark s r after = after ≡ taken s (marking s r).answer (marking s r).unit
ActNext Act.Unmark s r after = after ≡ taken s (unmarking s r).answer (unmarking s r).unit
ActNext Act.Search s r after = Sought s (one r) after
ActNext Act.Read s r after = after ≡ s
ActNext Act.Tick s r after = after ≡ with_bank s (step_of s.unit s.bank Event.Tick).bank
ActNext Act.Start s r after = after ≡ with_bank s (step_of s.unit s.bank (Event.Start (tag (one r)))).bank
ActNext Act.Bank s r after = after ≡ s

-- what is done at the issue port leaves another queue, another bank or another turn; every other command leaves the session as it is
unfoldable pub UnitNext : Verb → Session → Request → Session → Type 0
UnitNext Verb.Fresh s r after = after ≡ s
UnitNext Verb.Load s r after = after ≡ s
UnitNext (Verb.Act a) s r after = ActNext a s r after
UnitNext (Verb.Ask a) s r after = after ≡ s
UnitNext (Verb.Issue a) s r after = after ≡ issue_next a s r
UnitNext (Verb.Share a) s r after = after ≡ share_next a s r
UnitNext (Verb.Show a) s r after = after ≡ s
UnitNext (Verb.View a) s r after = after ≡ s
UnitNext Verb.Small s r after = after ≡ s

-- without a unit nothing changes
abbrev pub Next : Bool → Verb → Session → Request → Session → Type 0
Next true v s r after = UnitNext v s r after
Next false v s r after = after ≡ s

-- one command: the line stands in front of the lent bytes, if there is room for it, and the session goes on
pub record Turned (s : Session) (r : Request) (line before after : List ℕ) (t : Reply) : Type 0 where
  pub out : after ≡ put_in before 0 (turn_reply s r line)
  pub end : t.end ≡ put_end before 0 (turn_reply s r line)
  pub next : Next s.present r.verb s r t.session
