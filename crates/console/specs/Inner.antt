-- What the private functions answer and leave. No public contract cites this file.
use Rattle.std.specs.Prelude.{List, ℕ}
use Rattle.session.specs.declared.Session.{Session}
use Rattle.session.specs.declared.Reply.{Reply}
use Rattle.session.specs.Sessions.{Line}

-- a line was given, and a session of which a fact holds
pub record Gives (text : List ℕ) (Next : Session → Type 0) (before after : List ℕ) (t : Reply) : Type 0 where
  pub line : Line text before after t.end
  pub next : Next t.session
