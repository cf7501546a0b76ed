-- `mean_cycle::least_table_cycle` meets its contract: each answer is a law of Tables. Assumes nothing.
use native.Mathlib.Omega.{arith}
use borrow.Author.Tests.{not-true, not-false}
use Rattle.mean_cycle.proofs.Tables.{table_listing, table_no, table_found}
use Rattle.mean_cycle.proofs.least_table_cycle.Goals as goal

pub returns-then-work-lt9984 : goal.returns-then-work-lt9984
returns-then-work-lt9984 c = table_no _ _ _ (λ g. omega (arith, g.room, c.if-work-lt9984.true))

pub returns-then-nodes-lt1 : goal.returns-then-nodes-lt1
returns-then-nodes-lt1 c = table_no _ _ _ (λ g. omega (arith, g.some, c.if-nodes-lt1.true))

pub returns-then-nodes-gt256 : goal.returns-then-nodes-gt256
returns-then-nodes-gt256 c = table_no _ _ _ (λ g. omega (arith, g.few, c.if-nodes-gt256.true))

pub returns-then-width-gt31 : goal.returns-then-width-gt31
returns-then-width-gt31 c = table_no _ _ _ (λ g. omega (arith, g.slim, c.if-width-gt31.true))

pub returns-then-not-narrow_words : goal.returns-then-not-narrow_words
returns-then-not-narrow_words c = table_no _ _ _ (λ g. c.narrow_words.ensures.wrong (not-true _ c.if-not-narrow_words.true-raw) g.narrow)

pub returns-then-not-targets_inside : goal.returns-then-not-targets_inside
returns-then-not-targets_inside c = table_no _ _ _ (λ g. c.targets_inside.ensures.wrong (not-true _ c.if-not-targets_inside.true-raw) g.targets)

pub search_listed-requires : goal.search_listed-requires
search_listed-requires c =
    table_listing
    record {
      some = omega (arith, c.if-nodes-lt1.false);
      few = omega (arith, c.if-nodes-gt256.false);
      room = omega (arith, c.if-work-lt9984.false);
      slim = omega (arith, c.if-width-gt31.false);
      narrow = c.narrow_words.ensures.right (not-false _ c.if-not-narrow_words.false-raw);
      targets = c.targets_inside.ensures.right (not-false _ c.if-not-targets_inside.false-raw);
    }

pub returns : goal.returns
returns c =
    table_found _ _ _ _ _
    record {
      some = omega (arith, c.if-nodes-lt1.false);
      few = omega (arith, c.if-nodes-gt256.false);
      room = omega (arith, c.if-work-lt9984.false);
      slim = omega (arith, c.if-width-gt31.false);
      narrow = c.narrow_words.ensures.right (not-false _ c.if-not-narrow_words.false-raw);
      targets = c.targets_inside.ensures.right (not-false _ c.if-not-targets_inside.false-raw);
    }
    c.search_listed.ensures
