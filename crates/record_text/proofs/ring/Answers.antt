-- `record_text::ring` meets its contract. Assumes nothing.
use mathlib.Core.Path.{sym, ap, ◌∙◌}
use native.Mathlib.Omega.{arith}
use lib.ListN.{length}
use Rattle.session.proofs.LineLaws.{line_as}
use Rattle.record_text.specs.Lines.{ring_line}
use Rattle.record_text.proofs.LineLaws.{ring_fits, load_refused, load_shown}
use Rattle.record_text.proofs.ring.Goals as goal

pub put_ring-requires : goal.put_ring-requires
put_ring-requires c =
    let f = ring_fits _ _ (sym c.load-shown.ensures ∙ c.in-Ok.is) in
    (f.0, omega (arith, ap length c.load_ring-ring.ensures, f.1))

pub returns-in-Err : goal.returns-in-Err
returns-in-Err c = load_refused _ _ _ _ _ (sym c.load-shown.ensures ∙ c.in-Err.is) c.put_answer.ensures

pub returns-in-Ok : goal.returns-in-Ok
returns-in-Ok c = load_shown _ _ _ _ _ (sym c.load-shown.ensures ∙ c.in-Ok.is) (line_as (ap (ring_line _) c.load_ring-ring.ensures) c.put_ring.ensures)
