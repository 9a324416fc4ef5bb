use Rattle.std.proofs.Common.{string_bytes, ◌∙◌}
use Rattle.kr_explain_text.proofs.Listed.{word_more, words_all}
use Rattle.kr_explain_text.proofs.lists.modes_chosen.Goals as goal

pub loop-at-preserved : goal.loop-at-preserved
loop-at-preserved g c = word_more (g.P.Protocol.names c.args.protocol.now) c.args.is_quoted c.args.modes.now c.loop-at.at 0 (string_bytes c.loop-at.out) c.as_str.result.now (string_bytes c.write_item.new.out) _ c.loop-at-test.true (c.as_str.ensures.value ∙ c.in_ok-word.ensures) c.in_ok-write_item.ensures c.loop-at.invariant

pub returns : goal.returns
returns g c = words_all (g.P.Protocol.names c.args.protocol.now) c.args.is_quoted c.args.modes.now c.loop-at.at (string_bytes c.loop-at.out) c.loop-at-test.false c.loop-at.invariant
