use Rattle.toml.specs.View.{view}
use Rattle.kr_table.proofs.Made.{made}
use Rattle.kr_table.proofs.making.parts_of.Goals as goal

pub returns : goal.returns
returns c =
    made c.args.updates (record { modes = c.in_ok-modes.modes; fetch_hit = c.asked_at-fetch_hit.result; fetch_miss = c.asked_at-fetch_miss.result; scan_key = c.asked_at-scan_key.result; scan_stop = c.asked_at-scan_stop.result; insert_current = c.in_ok-insert_current.insert_current; insert_next = c.in_ok-insert_next.insert_next; delete_current = c.in_ok-delete_current.delete_current; delete_next = c.in_ok-delete_next.delete_next; update = c.update_at-update.result })
    c.args.names.items c.as_slice-list.result.now (view c.args.compatible.now) (view c.args.convert.now) (view c.args.rules.now) c.as_slice-list.ensures.value
    c.in_ok-modes.ensures c.asked_at-fetch_hit.ensures c.asked_at-fetch_miss.ensures c.asked_at-scan_key.ensures c.asked_at-scan_stop.ensures
    c.in_ok-insert_current.ensures c.in_ok-insert_next.ensures c.in_ok-delete_current.ensures c.in_ok-delete_next.ensures c.update_at-update.ensures
