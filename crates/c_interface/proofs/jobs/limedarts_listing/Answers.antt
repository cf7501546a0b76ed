-- `c_interface::jobs::limedarts_listing` meets its contract: the listing's answer becomes numbers. Assumes nothing.
use Rattle.c_interface.proofs.JobLaws.{listing_handed, listing_refused}
use Rattle.c_interface.proofs.jobs.limedarts_listing.Goals as goal

pub returns-in-Ok : goal.returns-in-Ok
returns-in-Ok c = listing_handed c.list_file-listed.ensures c.in-Ok.is

pub returns-in-Err : goal.returns-in-Err
returns-in-Err c =
    listing_refused c.list_file-listed.ensures c.in-Err.is c.from.ensures
