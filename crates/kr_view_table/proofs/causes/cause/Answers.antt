use Rattle.std.proofs.Common.{string_bytes}
use Rattle.kr_view_table.proofs.Whole.{block_written}
use Rattle.kr_view_table.proofs.causes.cause.Goals as goal

pub returns : goal.returns
returns g c =
    record {
      title = string_bytes c.in_ok-title.title;
      telling = c.as_str-told.result.now;
      schedule = string_bytes c.in_ok-schedule.schedule;
      is_title = c.in_ok-title.ensures;
      telling_made = c.as_str-told.ensures.parts;
      is_drawn = c.in_ok-schedule.ensures;
      written = block_written c.args.number (string_bytes c.in_ok-shown.shown) (string_bytes c.in_ok-title.title) c.as_str.result.now c.as_str-told.result.now (string_bytes c.in_ok-schedule.schedule) (string_bytes c.in_ok-text.text) c.in_ok-shown.ensures.written c.as_str.ensures.value c.in_ok-text.ensures.ok;
    }
