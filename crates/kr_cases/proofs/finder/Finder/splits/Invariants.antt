use Rattle.std.proofs.Common.{◌≡◌, [], ◌∷◌, ◌++◌, take}
use Rattle.std.specs.List.{flat_map}
use Rattle.kr_model.specs.declared.Cover.TheVariants.{ReadGap, DeletedGap}
use Rattle.kr_model.specs.Covers.{splits_of}
use Rattle.kr_cases.specs.Cases.{failures}
use Rattle.kr_cases.proofs.finder.Finder.splits.Given as goal

-- the failed ones of the cases so far stand behind those of before
abbrev pub invariant-loop-cover : goal.invariant-loop-cover
invariant-loop-cover g l =
    let p = g.P.Protocol.table l.self.protocol.now in
    l.failed.items ≡ l.fn.failed.items ++ failures p (flat_map (splits_of p) (take l.cover-index (ReadGap ∷ DeletedGap ∷ [])))
