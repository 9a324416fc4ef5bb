use Rattle.std.proofs.Common.{◌≡◌, ◌∙◌, sym, true}
use Rattle.kr_change.specs.GhostChanges.{changed_ghosts, is_index_change}
use Rattle.kr_change.proofs.GhostLawful.{allowed_of, asks_modes, ghosts_lawful, table_lawful}
use Rattle.kr_change.proofs.changed.Changed.new.Goals as goal

-- the change passed the test, so the table with it keeps the laws
pub invariant_of-result : goal.invariant_of-result
invariant_of-result g c =
    let base = c.args.base.now in
    let i = g.P.IndexProtocol.index base in
    let t = g.P.Protocol.table base in
    let ghosts = g.P.GhostProtocol.ghosts base in
    let same = g.met.P.GhostProtocol.tables base in
    let is : is_index_change i c.args.change ≡ true = sym c.is_index_change.ensures ∙ c.if-is_index_change.true in
    let allowed = allowed_of i t ghosts (g.met.P.IndexProtocol.has_tables base) same c.args.change is in
    record {
      allowed = is;
      lawful = table_lawful t ghosts c.args.change same (g.met.P.Protocol.lawful base) allowed;
      asks = asks_modes (changed_ghosts ghosts c.args.change) (ghosts_lawful ghosts c.args.change (g.met.P.GhostProtocol.lawful_ghosts base) allowed);
    }
