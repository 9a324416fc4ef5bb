use Rattle.kr_relax_core.proofs.Finding.{finding_none}
use Rattle.kr_relax_core.proofs.finder.Finder.new.Goals as goal

-- nothing has been seen
pub returns : goal.returns
returns g c = finding_none (g.P.IndexProtocol.index c.args.protocol.now) _ c.new-spots.ensures.items (let h = c.in_ok-seen.ensures in h.items_if_clones_equal (λ y e. e))
