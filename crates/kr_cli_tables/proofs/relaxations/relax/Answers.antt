use Rattle.std.specs.Prelude.{map, string_bytes}
use Rattle.std.proofs.Common.{rules}
use Rattle.kr_cli_tables.proofs.RelaxEnded.{writing_answers, writing_ends, no_table}
use Rattle.kr_cli_tables.proofs.relaxations.relax.Goals as goal

pub returns-clause-answers : goal.returns-clause-answers
returns-clause-answers g c =
    writing_answers (g.F.Files.may_give c.args.files.now) (map string_bytes c.args.words.now) c.in_ok-asked.asked.table.now c.in_ok-asked.asked.wanted c.in_ok-asked.ensures.words c.in_ok-asked.ensures.asked (g.W.Sink.taken c.args.out.now) (g.W.Sink.taken c.write_named.new.out) c.in_ok-named.named c.write_named.result c.in_ok-named.ensures.table c.write_named.ensures.writes

pub returns-clause-err : goal.returns-clause-err
returns-clause-err g c =
    writing_ends (g.F.Files.may_give c.args.files.now) (map string_bytes c.args.words.now) c.in_ok-asked.asked.table.now c.in_ok-asked.asked.wanted c.in_ok-asked.ensures.words c.in_ok-asked.ensures.asked c.in_ok-named.named c.write_named.result c.in_ok-named.ensures.table c.write_named.ensures.err

pub returns-clause-unknown : goal.returns-clause-unknown
returns-clause-unknown g c unknown = absurd (unknown c.in_ok-asked.asked.table.now c.in_ok-asked.asked.wanted c.in_ok-asked.ensures.asked c.in_ok-asked.ensures.words)

pub returns-in_err-named-clause-err : goal.returns-in_err-named-clause-err
returns-in_err-named-clause-err g c =
    let explained = no_table (g.F.Files.may_give c.args.files.now) (map string_bytes c.args.words.now) c.in_ok-asked.asked.table.now c.in_ok-asked.asked.wanted c.in_ok-asked.ensures.words c.in_ok-asked.ensures.asked _ c.in_err-named.ensures.fault in
    search rules
