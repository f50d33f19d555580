use Rattle.std.proofs.Common.{arith}
use Rattle.gated_log.proofs.LogForce.{few_records}
use Rattle.gated_log.proofs.log.Log.records.Goals as goal

pub overflow_add-result : goal.overflow_add-result
overflow_add-result c = omega (arith, few_records c.args.self.now)
