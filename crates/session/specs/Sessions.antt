-- A designer's session: the unit, the bank, the queue and the callers' queues that the commands work on, how it begins, and a unit that is taken into it.
use Rattle.std.specs.Prelude.{◌≡◌, true, false, List, ℕ, Ok, Err}
use Rattle.words.specs.Bytes.{narrow}
use Rattle.text.specs.Text.{ascii, put_in, put_end}
use Rattle.unit.specs.declared.FunctionUnit.{FunctionUnit}
use Rattle.unit.specs.declared.Outcome.{Outcome}
use Rattle.unit.specs.declared.Tag.{Tag}
use Rattle.unit.specs.Answers.{Answer}
use Rattle.unit.specs.Calls.{blank, fresh_of}
use Rattle.controller.specs.declared.Bank.{Bank}
use Rattle.controller.specs.Bank.{empty}
use Rattle.queue.specs.declared.Queue.{Queue}
use Rattle.queue.specs.Calls.{empty_queue}
use Rattle.callers.specs.declared.Shared.{Shared}
use Rattle.callers.specs.Calls.{empty_shared}
use Rattle.listing.specs.Lines.{refused_line}
use Rattle.command.specs.declared.Request.{Request}
use Rattle.session.specs.declared.Session.{Session}
use Rattle.session.specs.declared.Reply.{Reply}

-- at first there is no unit, and no caller
abbrev pub opening : Session
opening = record { present = false; unit = blank 0 0 0; bank = empty; queue = empty_queue; shared = empty_shared 0 }

-- the session with this at its unit's issue port: the bank, the queue, and the port that callers share
abbrev pub with_port : Session → Bank → Queue → Shared → Session
with_port s b q p = record { present = s.present; unit = s.unit; bank = b; queue = q; shared = p }

-- a unit that was made, loaded or edited, with an empty bank and empty queues, for as many callers as before; a refused one keeps the session
-- as it was
abbrev pub taken : Session → Answer → FunctionUnit → Session
taken s (Ok _) u = record { present = true; unit = u; bank = empty; queue = empty_queue; shared = empty_shared s.shared.callers }
taken s (Err why) u = s

-- Numbers of a request as tags: a number too large for a byte is taken for 0, which is no count, no tag, no segment and no column

abbrev pub one : Request → ℕ
one r = narrow r.first

abbrev pub two : Request → ℕ
two r = narrow r.second

abbrev pub three : Request → ℕ
three r = narrow r.third

abbrev pub tag : ℕ → Tag
tag n = record { 0 = n }

-- Lines

-- `ok`, or `refused` and the number
abbrev pub answer_line : Answer → List ℕ
answer_line (Ok _) = ascii "ok\n"
answer_line (Err why) = refused_line why

-- a line stands in front of the lent bytes, if there is room for it
pub record Line (text before after : List ℕ) (end : ℕ) : Type 0 where
  pub next : end ≡ put_end before 0 text
  pub out : after ≡ put_in before 0 text

-- Units that are made

abbrev pub fresh_asked : Request → Outcome
fresh_asked r = fresh_of (one r) (two r) (three r)

-- a unit was made: by a fresh, from a file, by the number of a small table, or by an edit
pub record Made (s : Session) (made : Outcome) (before after : List ℕ) (t : Reply) : Type 0 where
  pub out : after ≡ put_in before 0 (answer_line made.answer)
  pub end : t.end ≡ put_end before 0 (answer_line made.answer)
  pub next : t.session ≡ taken s made.answer made.unit
