-- Calls and replies as bytes, and a list of calls played on a fresh unit.
use Rattle.std.specs.Prelude.{ℕ, zero, suc, ◌+◌, ◌*◌, ◌/◌, ◌%◌, ◌≤◌, min, ◌≡◌, Bool, true, false, cond, List, [], ◌∷◌, ◌++◌, eqb, length, get_or, take, drop, replicate}
use Rattle.unit.specs.declared.Plan.{Plan}
use Rattle.unit.specs.Calls.{fresh_of}
use Rattle.planner.specs.Sheet.{Call, Reply, Run}
use Rattle.planner.specs.Sheet.Call.{Mark, Unmark, Search, Read}
use Rattle.planner.specs.Sheet.Reply.{accepted, refused, handed}

-- A call

-- four bytes: kind, tag, segment, column; kind 0 is a mark, 1 an unmark, 2 a search with that many working words, any other a read
abbrev pub call_of : ℕ → ℕ → ℕ → ℕ → ℕ → Call
call_of room kind tag segment column =
    cond (eqb kind 0) (Mark tag segment column)
    (cond (eqb kind 1) (Unmark tag segment column)
    (cond (eqb kind 2) (Search tag room) Read))

abbrev pub call_at : ℕ → List ℕ → ℕ → Call
call_at room bytes n = call_of room (get_or bytes (n * 4) 0) (get_or bytes (n * 4 + 1) 0) (get_or bytes (n * 4 + 2) 0) (get_or bytes (n * 4 + 3) 0)

-- the first n calls, in order
unfoldable pub calls_of : ℕ → List ℕ → ℕ → List Call
calls_of room bytes zero = []
calls_of room bytes (suc n) = calls_of room bytes n ++ call_at room bytes n ∷ []

-- A reply

-- two bytes, low first
abbrev pub two_bytes : ℕ → List ℕ
two_bytes x = x % 256 ∷ x / 256 ∷ []

-- 261 bytes: tag, K, S and the plan's 256 bytes
unfoldable pub plan_bytes : Plan → List ℕ
plan_bytes p = p.tag ∷ two_bytes p.count ++ two_bytes p.sum ++ p.latencies

-- 262 bytes: the refusal's number or 0, and then the plan that was handed out, or zeros
unfoldable pub reply_bytes : Reply → List ℕ
reply_bytes accepted = 0 ∷ replicate 261 0
reply_bytes (refused n) = n ∷ replicate 261 0
reply_bytes (handed p) = 0 ∷ plan_bytes p

-- the replies one after the other
unfoldable pub replies_bytes : List Reply → List ℕ
replies_bytes [] = []
replies_bytes (a ∷ replies) = reply_bytes a ++ replies_bytes replies

-- The working words

-- whether a call may use them: a search that is accepted, or refused by 7 (none is told a plan)
abbrev pub may_use : Call → Reply → Bool
may_use (Mark q s c) a = false
may_use (Unmark q s c) a = false
may_use (Search q room) accepted = true
may_use (Search q room) (refused n) = eqb n 7
may_use (Search q room) (handed p) = true
may_use Read a = false

-- none of the calls may
abbrev pub NoneMayUse : List Call → List Reply → Type 0
NoneMayUse [] replies = Unit {0}
NoneMayUse (k ∷ calls) [] = Unit {0}
NoneMayUse (k ∷ calls) (a ∷ replies) = (may_use k a ≡ false) × NoneMayUse calls replies

-- The claim

-- As many calls as there are, or as have room for their replies, were played in turn from the fresh unit of the three counts, and what
-- was written are the replies of a run. Free are the first 2,048 working words, if a call may use them.
-- Laws (proofs/PlayedLaws.antt): the replies are what the sheet says (`played_right`), or 1 where the counts are refused (`played_refused`).
pub record Played (f s c : ℕ) (calls before after work words : List ℕ) (n : ℕ) : Type 0 where
  pub count : n ≡ min (length calls / 4) (length before / 262)
  pub replies : List Reply
  pub run : Run (fresh_of f s c).unit (calls_of (length work) calls n) replies
  pub wrote : take (n * 262) after ≡ replies_bytes replies
  pub rest : drop (n * 262) after ≡ drop (n * 262) before
  pub size : length after ≡ length before
  pub room : length words ≡ length work
  pub beyond : (i : ℕ) → 2048 ≤ i → get_or words i 0 ≡ get_or work i 0
  pub kept : NoneMayUse (calls_of (length work) calls n) replies → words ≡ work
