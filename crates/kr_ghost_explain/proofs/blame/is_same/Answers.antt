use denote.Enum.Bare.{same_true}
use Rattle.std.proofs.Common.{◌≡◌, true, rules, sym, ◌∙◌}
use Rattle.kr_ghost.specs.contracts.cases.Rule.{the_type}
use Rattle.kr_ghost_explain.specs.declared.blame.GhostBlame.{GhostBlame}
use Rattle.kr_ghost_explain.specs.declared.blame.GhostBlame.TheVariants.{Void, Request, NewKey, Heir, Conversion, Pair}
use Rattle.kr_ghost_explain.specs.contracts.blame.GhostBlamePartialEq.TheImpl.{ghosts}
use Rattle.kr_ghost_explain.proofs.blame.is_same.Goals as goal

-- what compares as equal is the same, by what is blamed first: there are too many pairs of rules for one search
same : (x y : GhostBlame) → ghosts.eq x y ≡ true → x ≡ y
same (Void a) y h = search rules
same (Request r q) y h = search (rules, same_true the_type (search rules))
same (NewKey m) y h = search rules
same (Heir m) y h = search rules
same (Conversion a b c) y h = search rules
same (Pair a b) y h = search rules

pub returns : goal.returns
returns c = λ t. same c.args.first c.args.second (sym c.eq.ensures ∙ t)
