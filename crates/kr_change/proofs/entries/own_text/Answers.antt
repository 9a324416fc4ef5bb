use Rattle.std.proofs.Common.{◌≡◌, ◌+◌, ◌++◌, ◌∙◌, ap, string_bytes, subst, arith}
use Rattle.std.specs.List.{flat_map}
use Rattle.kr_model.specs.Covers.{count_up}
use Rattle.kr_change.proofs.Listed.{all_modes_or_none, before-more, list_more}
use Rattle.kr_change.specs.ChangeNames.{own_word}
use Rattle.kr_change.proofs.entries.own_text.Goals as goal

-- one own mode more
pub loop-own-preserved : goal.loop-own-preserved
loop-own-preserved g c =
    let own = c.loop-own.own in
    let words = own_word (g.P.Protocol.names c.args.protocol.now) c.args.modes in
    list_more words c.args.head.now (string_bytes c.loop-own.out) (string_bytes c.push_str.new.self) (count_up 0 own) (count_up 0 (own + 1)) own (before-more own) c.loop-own.invariant
    (c.in_ok-push_str.ensures.bytes ∙ ap (λ t. string_bytes c.loop-own.out ++ t) (c.as_str.ensures.value ∙ c.in_ok-text.ensures))

-- all own modes
pub returns : goal.returns
returns g c =
    let p = g.P.Protocol.table c.args.protocol.now in
    let words = own_word (g.P.Protocol.names c.args.protocol.now) c.args.modes in
    subst (λ ks. string_bytes c.loop-own.out ≡ c.args.head.now ++ flat_map words ks) (all_modes_or_none p c.loop-own.own (omega arith)) c.loop-own.invariant
