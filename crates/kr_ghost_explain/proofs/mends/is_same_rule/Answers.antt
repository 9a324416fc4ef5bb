use denote.Enum.Bare.{same_true, true_same}
use Rattle.std.proofs.Common.{rules, sym, ◌∙◌}
use Rattle.kr_ghost.specs.contracts.cases.Rule.{the_type}
use Rattle.kr_ghost_explain.proofs.mends.is_same_rule.Goals as goal

-- there are too many pairs of rules for a search
pub returns : goal.returns
returns c = (λ t. same_true the_type (search rules) c.args.rule c.args.other (sym c.eq.ensures ∙ t), λ e. c.eq.ensures ∙ true_same the_type c.args.rule c.args.other e)
