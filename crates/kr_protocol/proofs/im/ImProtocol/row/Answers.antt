use Rattle.kr_protocol.proofs.ImRows.{im_rows}
use Rattle.kr_protocol.proofs.im.ImProtocol.row.Goals as goal

pub returns : goal.returns
returns c = im_rows c.args.requested c.requires
