-- `callers::turned_to` meets its contract: the turn names a caller, and what it may start is tried. Assumes nothing.
use mathlib.Core.Path.{◌≡◌, ap, ◌∙◌, sym, subst}
use mathlib.Core.Bool.{true}
use native.Mathlib.Omega.{arith}
use Prim.Native.Nat.{ℕ}
use Rattle.queue.specs.Calls.{oldest}
use Rattle.callers.specs.Queues.{waiting_of}
use mathlib.Core.List.{List}
use Rattle.callers.specs.Calls.{one_of, caller_of}
use Rattle.callers.specs.Parts.{on_by}
use Rattle.callers.specs.Inner.{Among}
use Rattle.callers.proofs.TestedLaws.{one_of_lem}
use Rattle.callers.proofs.TryLaws.{caller_there, nothing_starts, may_start, any_turn}
use Rattle.callers.proofs.turned_to.Goals as goal

of_four : (C i : ℕ) → Among C i → Among 4 i
of_four C i o = record { few = omega arith; least = o.least; most = omega (arith, o.few, o.most) }

there : (C turn : ℕ) (counts : List ℕ) → one_of C turn ≡ true → {i : ℕ} → i ≡ caller_of C turn counts → Among C i
there C turn counts e s = subst (Among C) (sym s) (caller_there C turn counts (one_of_lem C turn e))

pub turn_now-caller-requires : goal.turn_now-caller-requires
turn_now-caller-requires c = one_of_lem c.args.callers c.args.turn c.requires.turn_there

pub has_work-requires : goal.has_work-requires
has_work-requires c =
    let a = c.args in
    of_four a.callers _ (there a.callers a.turn a.counts.each c.requires.turn_there c.turn_now-caller.ensures)

pub tried-requires : goal.tried-requires
tried-requires c =
    let a = c.args in
    may_start a.u a.callers a.turn a.records.list a.counts.each c.turn_now-caller.result c.requires
    (there a.callers a.turn a.counts.each c.requires.turn_there c.turn_now-caller.ensures) (sym c.has_work.ensures ∙ c.if-has_work.true)

pub returns-then-has_work : goal.returns-then-has_work
returns-then-has_work c =
    let a = c.args in
    c.tried.ensures
    ∙ any_turn a.u a.bank a.callers 0 a.turn a.records.list a.counts.each c.turn_now-caller.result _
    ∙ ap (λ (i : ℕ). on_by a.u a.bank a.callers a.turn a.records.list a.counts.each i (oldest a.bank (waiting_of a.records.list a.counts.each i)))
    c.turn_now-caller.ensures

pub idled-requires : goal.idled-requires
idled-requires c =
    let a = c.args in
    of_four a.callers _ (there a.callers a.turn a.counts.each c.requires.turn_there c.turn_now-caller.ensures)

pub returns : goal.returns
returns c =
    let a = c.args in
    c.idled.ensures
    ∙ ap (on_by a.u a.bank a.callers a.turn a.records.list a.counts.each c.turn_now-caller.result)
    (nothing_starts a.bank a.records.list a.counts.each c.turn_now-caller.result (sym c.has_work.ensures ∙ c.if-has_work.false))
    ∙ ap (λ (k : ℕ). on_by a.u a.bank a.callers a.turn a.records.list a.counts.each k (oldest a.bank (waiting_of a.records.list a.counts.each k)))
    c.turn_now-caller.ensures
