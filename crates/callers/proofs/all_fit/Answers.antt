-- `callers::all_fit` meets its contract. Assumes nothing.
use Prim.Native.Nat.{ℕ, ◌+◌, ◌-◌, ◌*◌, ◌<◌}
use mathlib.Core.Path.{◌≡◌, sym, ap, subst, ◌∙◌}
use mathlib.Core.Bool.{Bool}
use mathlib.Core.List.{List}
use native.Mathlib.Omega.{arith}
use borrow.Author.Tests.{leb-true}
use borrow.Author.Rules.{rules}
use lib.Dec.{leb}
use lib.ListN.{length, get_or, take, drop, length-take}
use lib.Seq.{get_or-take}
use Rattle.unit.proofs.Laws.{inside_of}
use Rattle.queue.specs.declared.Waiting.{Waiting}
use Rattle.queue.specs.Line.{tags_inside}
use Rattle.callers.specs.Queues.{room, place_of, count_of}
use Rattle.callers.proofs.EachLaws.{Upto, each_upto, each_false, each_at}
use Rattle.callers.proofs.all_fit.Goals as goal

abbrev fits_at : ℕ → List Waiting → List ℕ → ℕ → Bool
fits_at f list counts i = tags_inside f (take (count_of counts i) (drop (place_of i) list))

-- the count at a place is that of its caller
count_at : (counts : List ℕ) (C p : ℕ) → p < C → get_or (take C counts) p 0 ≡ count_of counts (p + 1)
count_at counts C p h = get_or-take C counts p 0 h ∙ ap (λ (k : ℕ). get_or counts k 0) (omega arith)

-- so are its records
same_place : (f : ℕ) (list : List Waiting) (counts : List ℕ) (C p : ℕ) → p < C → {b : Bool} → b ≡ tags_inside f (take (get_or (take C counts) p 0) (drop (8 * p) list)) → fits_at f list counts (p + 1) ≡ b
same_place f list counts C p h e =
    let s : p + 1 - 1 ≡ p = omega arith in
    ap (λ (k : ℕ). tags_inside f (take (count_of counts (p + 1)) (drop (8 * k) list))) s
    ∙ ap (λ (n : ℕ). tags_inside f (take n (drop (8 * p) list))) (sym (count_at counts C p h)) ∙ sym e

pub fits_from-requires : goal.fits_from-requires
fits_from-requires c =
    let a = c.args in
    let p = c.loop-place.place in
    let h : p < a.callers = omega (arith, length-take a.callers a.counts) in
    let e = each_at a.callers (λ i. leb (count_of a.counts i) room) (p + 1) c.requires.each (inside_of (p + 1) a.callers (omega arith) (omega arith)) in
    omega (arith, leb-true _ _ e, count_at a.counts a.callers p h, c.requires.few)

pub returns-then-not-fits_from : goal.returns-then-not-fits_from
returns-then-not-fits_from c =
    let a = c.args in
    let h : c.loop-place.place < a.callers = omega (arith, length-take a.callers a.counts) in
    sym (each_false a.callers (fits_at a.functions a.list a.counts) c.loop-place.place h
    (same_place a.functions a.list a.counts a.callers c.loop-place.place h (sym c.if-not-fits_from.true ∙ c.fits_from.ensures)))

pub returns : goal.returns
returns c =
    let a = c.args in
    let n : length a.counts ≡ 4 = search rules in
    let e : c.loop-place.place ≡ a.callers = omega (arith, length-take a.callers a.counts, c.requires.few) in
    sym (each_upto a.callers (fits_at a.functions a.list a.counts) (subst (Upto (fits_at a.functions a.list a.counts)) e c.loop-place.invariant))
