-- What is read of a list and of a table. Assumes nothing.
use Rattle.lists.proofs.Records.{length-flows, flow_is}
use Rattle.tables.proofs.Records.{length-grants, count_small, grant_is}
use Rattle.checking.proofs.Turns.{grant-start}

-- how many flows and grants there are, and each of them
pub ruleset reads = (length-flows, flow_is, length-grants, count_small, grant_is, grant-start)
