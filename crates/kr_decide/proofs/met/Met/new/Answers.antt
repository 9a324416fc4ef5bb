use Rattle.kr_decide.proofs.Marked.{sound_none}
use Rattle.kr_decide.proofs.met.Met.new.Goals as goal

pub returns : goal.returns
returns g c = sound_none (g.P.Protocol.table c.args.protocol.now) _ (let h = c.in_ok-vec.ensures in h.items_if_clones_equal (λ y e. e)) (let h = c.in_ok-vec-2.ensures in h.items_if_clones_equal (λ y e. e))
