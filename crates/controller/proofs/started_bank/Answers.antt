-- `controller::started_bank` meets its contract. Assumes nothing.
use Rattle.controller.proofs.started_bank.Goals as goal

pub returns : goal.returns
returns c =
    simp (
      c.joined.ensures,
      c.joined-2.ensures,
      c.joined-3.ensures,
      c.joined-4.ensures,
      c.row_for-row1.ensures,
      c.row_for-row2.ensures,
      c.row_for-row3.ensures,
      c.row_for-row4.ensures,
    )
