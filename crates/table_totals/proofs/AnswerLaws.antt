-- What the call answers. Assumes nothing.
use Rattle.std.proofs.Common.{Ok, Err}
use Prim.Native.Nat.{ℕ, ◌*◌, ◌≤◌, ◌<◌}
use mathlib.Core.Path.{◌≡◌, refl, sym, ◌∙◌}
use mathlib.Core.Bool.{Bool, true, false, cond}
use mathlib.Core.List.{List}
use native.Mathlib.Omega.{arith}
use lib.ListN.{length}
use lib.Pow.{pow_pos}
use borrow.Author.Tests.{le-leb, lt-leb}
use Rattle.unit.specs.declared.Refusal.{Refusal}
use Rattle.unit.specs.declared.Refusal.TheVariants.{NoSmallTable, ShortWork}
use Rattle.unit.proofs.Laws.{never_done}
use Rattle.table_numbers.specs.Tables.{small_size, table_count, count_answer}
use Rattle.table_totals.specs.declared.SizeTotals.{SizeTotals}
use Rattle.table_totals.specs.Totals.{totals_answer, TotalsPromise}
use Rattle.table_totals.specs.Inner.{Prepared, TotalsFound}

-- The size

counted : (s c : ℕ) {n : ℕ} → n ≡ count_answer s c → (n ≡ 0 → ⊥) → (small_size s c ≡ true) × (n ≡ table_count s c)
counted s c {n} e ne = go (small_size s c) refl e
  where
    go : (b : Bool) → small_size s c ≡ b → n ≡ cond b (table_count s c) 0 → (small_size s c ≡ true) × (n ≡ table_count s c)
    go true h e = (h, e)
    go false h e = absurd (ne e)

no_size : (s c : ℕ) {n : ℕ} → n ≡ count_answer s c → n ≡ 0 → small_size s c ≡ false
no_size s c {n} e z = go (small_size s c) refl e
  where
    go : (b : Bool) → small_size s c ≡ b → n ≡ cond b (table_count s c) 0 → small_size s c ≡ false
    go true h e = absurd (omega (arith, pow_pos (s * c)))
    go false h e = h

-- The ways that the call ends

refused_as : {s c : ℕ} {words : List ℕ} {why : Refusal} → totals_answer s c (length words) ≡ Err why → TotalsPromise s c words words (Err why)
refused_as h = record {
  answers = record { refused = λ other e. cc; found = λ e. never_done (sym h ∙ e) };
  work = record { size = refl; beyond = λ i l. refl; kept = λ other e l. refl };
}

pub promise_size : {s c n : ℕ} {words : List ℕ} → n ≡ count_answer s c → n ≡ 0 → TotalsPromise s c words words (Err NoSmallTable)
unfolding totals_answer
promise_size {s} {c} e z = refused_as (simp (no_size s c e z))

pub promise_short : {s c n : ℕ} {words : List ℕ} → n ≡ count_answer s c → (n ≡ 0 → ⊥) → length words < 16000
    → TotalsPromise s c words words (Err ShortWork)
unfolding totals_answer
promise_short {s} {c} {words = words} e ne l = refused_as (simp ((counted s c e ne).0, lt-leb 16000 (length words) l))

pub ready : {s c n : ℕ} {room : ℕ} → n ≡ count_answer s c → (n ≡ 0 → ⊥) → 16000 ≤ room → Prepared s c n room
ready {s} {c} e ne l = let d = counted s c e ne in record { size = d.0; count = d.1; words = l }

pub promise_done : {s c n : ℕ} {before words : List ℕ} {t : SizeTotals} → n ≡ count_answer s c → (n ≡ 0 → ⊥) → 16000 ≤ length before
    → TotalsFound s c before words t → TotalsPromise s c before words (Ok t)
unfolding totals_answer
promise_done {s} {c} {before = before} {t = t} e ne l f =
    let h : totals_answer s c (length before) ≡ Ok tt = simp ((counted s c e ne).0, le-leb 16000 (length before) l) in
    record {
      answers = record { refused = λ why x. never_done (sym x ∙ h); found = λ x. record { totals = t; of_size = f.totals; told = refl } };
      work = record { size = f.used.size; beyond = f.used.beyond; kept = λ why x y. never_done (sym x ∙ h) };
    }
