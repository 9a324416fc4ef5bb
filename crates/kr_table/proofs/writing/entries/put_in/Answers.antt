use Rattle.std.proofs.Common.{ap, ◌∙◌}
use Rattle.toml.specs.View.{view, members_view}
use Rattle.kr_table.specs.Writing.{put}
use Rattle.kr_table.proofs.Puts.{members_view-insert_entry}
use Rattle.kr_table.proofs.writing.entries.put_in.Goals as goal

pub returns : goal.returns
returns c =
    let es = c.args.table.now.entries in
    ap members_view c.in_ok-insert.ensures.entries
    ∙ members_view-insert_entry es c.in_ok-from_str.field-0 c.args.value
    ∙ ap (λ name. put name (view c.args.value) (members_view es)) c.in_ok-from_str.ensures.ok
