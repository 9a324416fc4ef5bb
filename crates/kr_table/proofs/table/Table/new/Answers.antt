use Rattle.kr_table.specs.Shown.{data_of}
use Rattle.kr_table.proofs.Laws.{lawful_of, named_of}
use Rattle.kr_table.proofs.table.Table.new.Goals as goal

pub invariant_of-result : goal.invariant_of-result
invariant_of-result c = record {
  sound = c.requires;
  lawful = lawful_of (data_of c.args.parts) c.requires;
  named = named_of (data_of c.args.parts) c.requires;
}
