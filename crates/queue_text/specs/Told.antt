-- What a designer is told at the issue port, and what the session is then.
use Rattle.std.specs.Prelude.{◌≡◌, List, [], ◌∷◌, ◌++◌, ℕ, length, take, Err, Ok, Some, None}
use Rattle.text.specs.Text.{ascii, decimal, spaced, put_in, put_end}
use Rattle.listing.specs.Lines.{newline}
use Rattle.queue.specs.declared.Waiting.{Waiting}
use Rattle.queue.specs.declared.Queue.{Queue}
use Rattle.queue.specs.declared.Joined.{Joined}
use Rattle.queue.specs.declared.Advanced.{Advanced}
use Rattle.queue.specs.Passed.{Passed}
use Rattle.queue.specs.Calls.{join_of, advance_of}
use Rattle.command_table.specs.declared.Issue.{Issue}
use Rattle.command_table.specs.declared.Issue.TheVariants as Issue
use Rattle.command.specs.declared.Request.{Request}
use Rattle.session.specs.declared.Session.{Session}
use Rattle.session.specs.declared.Reply.{Reply}
use Rattle.session.specs.Sessions.{with_port, one, answer_line}

-- The calls

-- the record of tag and ticket that a designer offers
abbrev pub offered : Request → Waiting
offered r = record { tag = one r; ticket = r.second }

abbrev pub arrived : Session → Request → Joined
arrived s r = join_of s.unit s.queue (offered r)

abbrev pub passed : Session → Advanced
passed s = advance_of s.unit s.bank s.queue

-- Lines

-- the record that was started: its tag and its ticket
abbrev pub started_line : Waiting → List ℕ
started_line w = ascii "started " ++ decimal w.tag ++ ascii " " ++ decimal w.ticket ++ newline

-- or that none was
abbrev pub passed_line : Passed → List ℕ
passed_line (Ok (Some w)) = started_line w
passed_line (Ok None) = ascii "none\n"
passed_line (Err why) = answer_line (Err why)

-- the tags and tickets of records, one after the other
unfoldable pub flat : List Waiting → List ℕ
flat [] = []
flat (w ∷ line) = w.tag ∷ w.ticket ∷ flat line

-- the records that wait: how many there are, and the tag and the ticket of each, the oldest first
abbrev pub line_of : List Waiting → List ℕ
line_of line = ascii "queue " ++ decimal (length line) ++ ascii ":" ++ spaced (flat line) ++ newline

abbrev pub queue_line : Queue → List ℕ
queue_line q = line_of (take q.count q.list)

-- Commands

abbrev pub issue_reply : Issue → Session → Request → List ℕ
issue_reply Issue.Arrive s r = answer_line (arrived s r).answer
issue_reply Issue.Pass s r = passed_line (passed s).answer
issue_reply Issue.Queue s r = queue_line s.queue

-- an arrival leaves another queue, a time unit another bank and another queue
abbrev pub issue_next : Issue → Session → Request → Session
issue_next Issue.Arrive s r = with_port s s.bank (arrived s r).queue s.shared
issue_next Issue.Pass s r = with_port s (passed s).bank (passed s).queue s.shared
issue_next Issue.Queue s r = s

-- one command: the line stands in front of the lent bytes, if there is room for it, and the session goes on
pub record Issued (what : Issue) (s : Session) (r : Request) (before after : List ℕ) (t : Reply) : Type 0 where
  pub out : after ≡ put_in before 0 (issue_reply what s r)
  pub end : t.end ≡ put_end before 0 (issue_reply what s r)
  pub next : t.session ≡ issue_next what s r
