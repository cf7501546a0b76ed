-- `listing::list_file` meets its contract: a file that is read is listed as its unit, a refused one by its number. Assumes nothing.
use Rattle.listing.proofs.FileLaws.{file_refused, file_accepted}
use Rattle.listing.proofs.list_file.Goals as goal

pub returns-in-Err : goal.returns-in-Err
returns-in-Err c =
    file_refused c.read-outcome.ensures c.in-Err.is c.list_refusal.ensures

pub returns-in-Ok : goal.returns-in-Ok
returns-in-Ok c =
    file_accepted c.read-outcome.ensures c.in-Ok.is c.list_unit.ensures
