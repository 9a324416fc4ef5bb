use Rattle.kr_ghost_table.specs.Shown.{data_of}
use Rattle.kr_ghost_table.proofs.Laws.{asks_of, leaves_of}
use Rattle.kr_ghost_table.proofs.table.GhostTable.new.Goals as goal

pub invariant_of-result : goal.invariant_of-result
invariant_of-result c =
    let x = data_of c.args.table c.args.revive c.args.revive_next c.args.vain c.args.heirs in
    record { sound = c.requires; asks = asks_of x c.requires; leaves = leaves_of x c.requires }
