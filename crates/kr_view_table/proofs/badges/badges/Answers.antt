use Rattle.std.proofs.Common.{string_bytes}
use Rattle.kr_view_table.proofs.Badged.{badges_at, badges_all}
use Rattle.kr_view_table.proofs.badges.badges.Goals as goal

pub loop-at-preserved : goal.loop-at-preserved
loop-at-preserved c = badges_at c.args.entry c.args.causes.now c.loop-at.at _ (string_bytes c.loop-at.out) (string_bytes c.in_ok-piece.piece) c.as_str.result.now (string_bytes c.push_str.new.self) c.loop-at-test.true c.index-causes-at.is c.loop-at.invariant c.as_str.ensures.value c.in_ok-piece.ensures c.in_ok-push_str.ensures.bytes

pub returns : goal.returns
returns c = badges_all c.args.entry c.args.causes.now c.loop-at.at (string_bytes c.loop-at.out) c.loop-at-test.false c.loop-at.invariant
