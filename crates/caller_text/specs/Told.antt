-- What a designer is told at a port that callers share, and what the session is then.
use Rattle.std.specs.Prelude.{◌≡◌, List, ◌++◌, ℕ, Ok, Err, Some, None}
use Rattle.text.specs.Text.{ascii, decimal, put_in, put_end}
use Rattle.unit.specs.Answers.{Answer}
use Rattle.unit.specs.declared.Refusal.TheVariants.{NoSuchCaller}
use Rattle.unit.specs.Unit.{inside}
use Rattle.unit.specs.Calls.{check}
use Rattle.listing.specs.Lines.{newline}
use Rattle.queue.specs.declared.Waiting.{Waiting}
use Rattle.callers.specs.declared.Shared.{Shared}
use Rattle.callers.specs.declared.Called.{Called}
use Rattle.callers.specs.declared.Taken.{Taken}
use Rattle.callers.specs.Served.{Served}
use Rattle.callers.specs.Calls.{empty_shared, call_of, taken_of}
use Rattle.command_table.specs.declared.Share.{Share}
use Rattle.command_table.specs.declared.Share.TheVariants as Share
use Rattle.command.specs.declared.Request.{Request}
use Rattle.session.specs.declared.Session.{Session}
use Rattle.session.specs.declared.Reply.{Reply}
use Rattle.session.specs.Sessions.{with_port, one, two, answer_line}

-- The calls

-- so many callers: 1 to 4
abbrev pub opened : Request → Answer
opened r = check (inside (one r) 4) NoSuchCaller (Ok tt)

-- the record of tag and ticket that a designer offers for a caller
abbrev pub offered : Request → Waiting
offered r = record { tag = two r; ticket = r.third }

abbrev pub called : Session → Request → Called
called s r = call_of s.unit s.shared (one r) (offered r)

abbrev pub turned : Session → Taken
turned s = taken_of s.unit s.bank s.shared

-- Lines

-- the caller and the record that were started: its tag and its ticket
abbrev pub started_line : ℕ → Waiting → List ℕ
started_line i w = ascii "started " ++ decimal i ++ ascii " " ++ decimal w.tag ++ ascii " " ++ decimal w.ticket ++ newline

-- or that none was
abbrev pub served_line : Served → List ℕ
served_line (Ok (Some (i, w))) = started_line i w
served_line (Ok None) = ascii "none\n"
served_line (Err why) = answer_line (Err why)

-- Commands

abbrev pub share_reply : Share → Session → Request → List ℕ
share_reply Share.Callers s r = answer_line (opened r)
share_reply Share.Call s r = answer_line (called s r).answer
share_reply Share.Turn s r = served_line (turned s).answer

-- an accepted number of callers leaves empty queues for them, and the turn at the first; a refused one leaves what was there
abbrev pub shared_then : Answer → ℕ → Shared → Shared
shared_then (Ok _) n before = empty_shared n
shared_then (Err why) n before = before

-- a call leaves another queue, a turn another bank, another queue and another turn
abbrev pub share_next : Share → Session → Request → Session
share_next Share.Callers s r = with_port s s.bank s.queue (shared_then (opened r) (one r) s.shared)
share_next Share.Call s r = with_port s s.bank s.queue (called s r).shared
share_next Share.Turn s r = with_port s (turned s).bank s.queue (turned s).shared

-- one command: the line stands in front of the lent bytes, if there is room for it, and the session goes on
pub record SharedOn (what : Share) (s : Session) (r : Request) (before after : List ℕ) (t : Reply) : Type 0 where
  pub out : after ≡ put_in before 0 (share_reply what s r)
  pub end : t.end ≡ put_end before 0 (share_reply what s r)
  pub next : t.session ≡ share_next what s r
