-- Some lines at a shared port, worked out by hand. Assumes nothing.
use Rattle.std.proofs.Common.{Ok, Err, Some, None}
use Prim.Native.Nat.{ℕ}
use mathlib.Core.Path.{◌≡◌, refl, ap}
use mathlib.Core.List.{List}
use native.Mathlib.Omega.{arith}
use lib.ListN.{get_or}
use Rattle.text.specs.Text.{ascii, digits, decimal}
use Rattle.unit.specs.declared.Refusal.TheVariants.{NoSuchCaller}
use Rattle.queue.specs.declared.Waiting.{Waiting}
use Rattle.callers.specs.Calls.{empty_shared}
use Rattle.command_table.specs.declared.Share.TheVariants as Share
use Rattle.command_table.specs.declared.Verb.TheVariants as Verb
use Rattle.command.specs.declared.Request.{Request}
use Rattle.caller_text.specs.Told.{opened, offered, served_line, shared_then}

abbrev b : Waiting
b = record { tag = 2; ticket = 4294967295 }

-- caller, tag and ticket
pub one_starts : served_line (Ok (Some (3, b))) ≡ ascii "started 3 2 4294967295\n"
unfolding digits decimal
one_starts = refl

-- the tag is not told first
pub not_tag_first : served_line (Ok (Some (3, b))) ≡ ascii "started 2 3 4294967295\n" → ⊥
unfolding digits decimal
not_tag_first e = let z : ◌≡◌ {A = ℕ} 51 50 = ap (λ (l : List ℕ). get_or l 8 0) e in omega arith

pub none_starts : served_line (Ok None) ≡ ascii "none\n"
none_starts = refl

pub no_caller : served_line (Err NoSuchCaller) ≡ ascii "refused 18\n"
unfolding digits decimal
no_caller = refl

-- the numbers of a command

abbrev asked : ℕ → ℕ → ℕ → Request
asked x y z = record { verb = Verb.Share Share.Call; count = 0; first = x; second = y; third = z }

pub four : opened (asked 4 0 0) ≡ Ok tt
four = refl

pub five : opened (asked 5 0 0) ≡ Err NoSuchCaller
five = refl

-- 257 is not taken for 1
pub many : opened (asked 257 0 0) ≡ Err NoSuchCaller
many = refl

-- a refused number of callers leaves the port
pub kept : shared_then (opened (asked 5 0 0)) 5 (empty_shared 2) ≡ empty_shared 2
kept = refl

pub offers : offered (asked 3 2 4294967295) ≡ b
offers = refl
