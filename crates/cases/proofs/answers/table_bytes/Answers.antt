use Rattle.std.proofs.Common.{◌<◌, arith}
use Rattle.tables.proofs.Records.{count_small}
use Rattle.cases.proofs.answers.table_bytes.Goals as goal
use Rattle.cases.proofs.answers.table_bytes.Goals.{After-count}

-- the count is a field of 16 bits
small : (c : After-count) → c.count.result < 65536
small c = rw c.count.ensures (count_small c.args.room.now)

pub overflow_mul-result : goal.overflow_mul-result
overflow_mul-result c = omega (arith, small (goal.at.overflow_mul-result c).After-count)

pub overflow_add-result : goal.overflow_add-result
overflow_add-result c = omega (arith, small (goal.at.overflow_add-result c).After-count)
