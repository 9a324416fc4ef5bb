use Rattle.std.proofs.Common.{rules, tests}
use Rattle.std.proofs.lemmas.Grind.{common_steps}
use Rattle.toml.specs.declared.value.Value.TheFolds.{the_lemmas}
use Rattle.kr_ghost_table.proofs.writing.document_of.Goals as goal

pub returns : goal.returns
returns c = search (tests, rules, the_lemmas, common_steps)
