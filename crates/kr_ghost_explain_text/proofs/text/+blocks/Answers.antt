use Rattle.std.specs.Prelude.{string_bytes}
use Rattle.std.proofs.lemmas.Result.{IfOk-weaker}
use Rattle.kr_ghost_explain_text.proofs.Titled.{block_next}
use Rattle.kr_ghost_explain_text.proofs.text.+blocks.Goals as goal

-- one cause before the others
pub returns-in_ok-rest-in-len1-up : goal.returns-in_ok-rest-in-len1-up
returns-in_ok-rest-in-len1-up g t c =
    IfOk-weaker c.format.result _ _ (λ text told. block_next (g.P.Protocol.names c.args.protocol.now) c.args.is_harmless c.args.number c.args.causes.now c.cause-item.result (string_bytes c.in_ok-block-in-len1-up.block) (string_bytes c.in_ok-rest-in-len1-up.rest) (string_bytes text) c.in-len1-up.len_at_least c.cause-item.is c.in_ok-block-in-len1-up.ensures c.in_ok-rest-in-len1-up.ensures told) c.format.ensures.ok
