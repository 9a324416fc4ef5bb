-- What the parts of a table in memory show.
use Rattle.kr_table.specs.declared.table.Parts.{Parts}
use Rattle.kr_table.specs.Tables.{TableData}

-- The modes and requests, as they are kept.
abbrev pub data_of : Parts → TableData
data_of p = record {
  modes = p.modes;
  fetch_hit = p.fetch_hit;
  fetch_miss = p.fetch_miss;
  scan_key = p.scan_key;
  scan_stop = p.scan_stop;
  insert_current = p.insert_current.items;
  insert_next = p.insert_next.items;
  delete_current = p.delete_current.items;
  delete_next = p.delete_next.items;
  update = p.update;
}
