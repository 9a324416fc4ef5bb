use Rattle.std.proofs.Common.{List, [], ◌∷◌, ◌++◌, ◌∙◌, Bool, false, set, ap}
use Rattle.kr_relax_core.specs.declared.twins.Twin.{Twin}
use Rattle.kr_relax_core.specs.Twins.{twin_of}
use Rattle.kr_relax_core.proofs.Growing.{found_first}
use Rattle.kr_relax_core.proofs.twins.Twins.new.Goals as goal

pub returns : goal.returns
returns g c =
    found_first (g.P.IndexProtocol.index c.args.base.now) (g.Q.IndexProtocol.index c.args.other.now) _
    (c.in_ok-push.ensures.items ∙ ap (λ (l : List Twin). l ++ twin_of 0 0 ∷ []) c.new-twins.ensures.items)
    (ap (λ (l : List Bool). set l 0 false) (let h = c.in_ok-unseen.ensures in h.items_if_clones_equal (λ y e. e)))
