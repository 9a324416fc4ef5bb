use Rattle.std.proofs.Common.{◌≡◌, ◌≤◌, subst, sym, true, false, string_bytes}
use Rattle.std.specs.Prelude.{IfOk}
use Rattle.toml.specs.Data.{table, members_depth, members_have_valid_dates}
use Rattle.toml.specs.Text.{IsDocumentText}
use Rattle.kr_ghost_table.specs.Answer.{ghost_data}
use Rattle.kr_ghost_table.specs.Reading.{judged, reading}
use Rattle.kr_ghost_table.proofs.Written.{written_reads_back}
use Rattle.kr_ghost_table.proofs.WrittenForm.{written_form}
use Rattle.kr_ghost_table.proofs.writing.write.Goals as goal

pub printed-requires-clause-depth : goal.printed-requires-clause-depth
printed-requires-clause-depth c = subst (λ ms. members_depth ms ≤ 80) (sym c.in-Ok.ensures) (written_form (ghost_data c.args.table.now) c.args.table.now.sound).0

pub printed-requires-clause-dates : goal.printed-requires-clause-dates
printed-requires-clause-dates c = subst (λ ms. members_have_valid_dates ms ≡ true) (sym c.in-Ok.ensures) (written_form (ghost_data c.args.table.now) c.args.table.now.sound).1

pub returns-in-Ok-clause-text : goal.returns-in-Ok-clause-text
returns-in-Ok-clause-text c = subst (λ ms. IfOk c.printed.result (λ s. IsDocumentText false ms (string_bytes s))) c.in-Ok.ensures c.printed.ensures.text

pub returns-in-Ok-clause-reads_back : goal.returns-in-Ok-clause-reads_back
returns-in-Ok-clause-reads_back c =
    let back = written_reads_back (ghost_data c.args.table.now) c.args.table.now.sound in
    let seen = subst (λ ms. IfOk c.printed.result (λ s. reading (string_bytes s) ≡ judged (table ms))) c.in-Ok.ensures c.printed.ensures.reads_back in
    subst (λ r. IfOk c.printed.result (λ s. reading (string_bytes s) ≡ r)) back seen
