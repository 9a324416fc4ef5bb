use Rattle.std.specs.Prelude.{string_bytes}
use Rattle.kr_cli_diagnosis.proofs.Heads.{placed_lines}
use Rattle.kr_cli_diagnosis.proofs.help.push_placed.Goals as goal

pub returns : goal.returns
returns c =
    placed_lines c.args.word.now c.args.text.now c.args.what.now
    (string_bytes c.args.lines.now) (string_bytes c.push_place.new.lines) (string_bytes c.push_quote.new.lines) (string_bytes c.push_line.new.lines)
    (string_bytes c.in_ok-quote.quote.before) (string_bytes c.in_ok-quote.quote.after)
    c.as_str.result.now c.as_str-2.result.now c.as_str-4.result.now c.args.offset c.place_at-place.result
    c.requires c.place_at-place.ensures c.in_ok-quote.ensures c.as_str.ensures.value c.as_str-2.ensures.value
    c.in_ok-push_place.ensures c.in_ok-push_quote.ensures c.in_ok-push_line.ensures
