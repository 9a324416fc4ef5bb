use Rattle.std.proofs.Common.{arith}
use Rattle.std.proofs.lemmas.Grind.{common_steps}
use Rattle.kr_records.proofs.Waking.{leaves_keys, frees_nobody, keys_left, blocks_nobody, quiet_is, leaves_is}
use Rattle.std.proofs.Common.{ap}
use Rattle.kr_model.specs.Run.{is_committed}
use Rattle.kr_records.proofs.wakes.change_of.Goals as goal

pub returns-in-Committed-clause-locks : goal.returns-in-Committed-clause-locks
returns-in-Committed-clause-locks c = λ _. blocks_nobody c.args.reply.now (ap is_committed c.in-Committed.is)

pub returns-in-Committed-clause-keys : goal.returns-in-Committed-clause-keys
returns-in-Committed-clause-keys c = λ _. keys_left c.args.reply.now (ap leaves_keys c.in-Committed.is)

pub returns-in-Found-clause-nothing : goal.returns-in-Found-clause-nothing
returns-in-Found-clause-nothing c = λ _. frees_nobody c.args.reply.now (quiet_is c.args.reply.now c.in-Found.is)

pub returns-in-Found-clause-keys : goal.returns-in-Found-clause-keys
returns-in-Found-clause-keys c = λ _. keys_left c.args.reply.now (leaves_is c.args.reply.now c.in-Found.is)

pub returns-in-Found-2-clause-nothing : goal.returns-in-Found-2-clause-nothing
returns-in-Found-2-clause-nothing c = λ _. frees_nobody c.args.reply.now (quiet_is c.args.reply.now c.in-Found.is)

pub returns-in-Found-2-clause-keys : goal.returns-in-Found-2-clause-keys
returns-in-Found-2-clause-keys c = λ _. keys_left c.args.reply.now (leaves_is c.args.reply.now c.in-Found.is)

pub returns-in-Found-3-clause-nothing : goal.returns-in-Found-3-clause-nothing
returns-in-Found-3-clause-nothing c = λ _. frees_nobody c.args.reply.now (quiet_is c.args.reply.now c.in-Found.is)

pub returns-in-Found-3-clause-keys : goal.returns-in-Found-3-clause-keys
returns-in-Found-3-clause-keys c = λ _. keys_left c.args.reply.now (leaves_is c.args.reply.now c.in-Found.is)

pub returns-in-Found-4-clause-nothing : goal.returns-in-Found-4-clause-nothing
returns-in-Found-4-clause-nothing c = λ _. frees_nobody c.args.reply.now (quiet_is c.args.reply.now c.in-Found.is)

pub returns-in-Found-4-clause-keys : goal.returns-in-Found-4-clause-keys
returns-in-Found-4-clause-keys c = λ _. keys_left c.args.reply.now (leaves_is c.args.reply.now c.in-Found.is)

pub returns-in-Found-5-clause-nothing : goal.returns-in-Found-5-clause-nothing
returns-in-Found-5-clause-nothing c = λ _. frees_nobody c.args.reply.now (quiet_is c.args.reply.now c.in-Found.is)

pub returns-in-Found-5-clause-keys : goal.returns-in-Found-5-clause-keys
returns-in-Found-5-clause-keys c = λ _. keys_left c.args.reply.now (leaves_is c.args.reply.now c.in-Found.is)

pub returns-in-Found-6-clause-nothing : goal.returns-in-Found-6-clause-nothing
returns-in-Found-6-clause-nothing c = λ _. frees_nobody c.args.reply.now (quiet_is c.args.reply.now c.in-Found.is)

pub returns-in-Found-6-clause-keys : goal.returns-in-Found-6-clause-keys
returns-in-Found-6-clause-keys c = λ _. keys_left c.args.reply.now (leaves_is c.args.reply.now c.in-Found.is)

pub returns-in-Found-7-clause-nothing : goal.returns-in-Found-7-clause-nothing
returns-in-Found-7-clause-nothing c = λ _. frees_nobody c.args.reply.now (quiet_is c.args.reply.now c.in-Found.is)

pub returns-in-Found-7-clause-keys : goal.returns-in-Found-7-clause-keys
returns-in-Found-7-clause-keys c = λ _. keys_left c.args.reply.now (leaves_is c.args.reply.now c.in-Found.is)

pub returns-in-Found-8-clause-nothing : goal.returns-in-Found-8-clause-nothing
returns-in-Found-8-clause-nothing c = λ _. frees_nobody c.args.reply.now (quiet_is c.args.reply.now c.in-Found.is)

pub returns-in-Found-8-clause-keys : goal.returns-in-Found-8-clause-keys
returns-in-Found-8-clause-keys c = λ _. keys_left c.args.reply.now (leaves_is c.args.reply.now c.in-Found.is)

pub returns-in-Found-9-clause-nothing : goal.returns-in-Found-9-clause-nothing
returns-in-Found-9-clause-nothing c = λ _. frees_nobody c.args.reply.now (quiet_is c.args.reply.now c.in-Found.is)

pub returns-in-Found-9-clause-keys : goal.returns-in-Found-9-clause-keys
returns-in-Found-9-clause-keys c = λ _. keys_left c.args.reply.now (leaves_is c.args.reply.now c.in-Found.is)

pub returns-in-Aborted-clause-locks : goal.returns-in-Aborted-clause-locks
returns-in-Aborted-clause-locks c = grind (arith, common_steps)

pub returns-in-Aborted-clause-keys : goal.returns-in-Aborted-clause-keys
returns-in-Aborted-clause-keys c = grind (arith, common_steps)

pub returns-in-Aborted-2-clause-locks : goal.returns-in-Aborted-2-clause-locks
returns-in-Aborted-2-clause-locks c = grind (arith, common_steps)

pub returns-in-Aborted-2-clause-keys : goal.returns-in-Aborted-2-clause-keys
returns-in-Aborted-2-clause-keys c = grind (arith, common_steps)

pub returns-in-Aborted-3-clause-locks : goal.returns-in-Aborted-3-clause-locks
returns-in-Aborted-3-clause-locks c = grind (arith, common_steps)

pub returns-in-Aborted-3-clause-keys : goal.returns-in-Aborted-3-clause-keys
returns-in-Aborted-3-clause-keys c = grind (arith, common_steps)

pub returns-in-Aborted-4-clause-locks : goal.returns-in-Aborted-4-clause-locks
returns-in-Aborted-4-clause-locks c = grind (arith, common_steps)

pub returns-in-Aborted-4-clause-keys : goal.returns-in-Aborted-4-clause-keys
returns-in-Aborted-4-clause-keys c = grind (arith, common_steps)

pub returns-in-Committed-clause-nothing : goal.returns-in-Committed-clause-nothing
returns-in-Committed-clause-nothing c = grind (arith, common_steps)
