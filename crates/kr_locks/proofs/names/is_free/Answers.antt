use Rattle.std.proofs.Common.{◌≡◌, ◌∙◌, ap, sym, subst, refl, Some, None, [], filter}
use Rattle.std.specs.Prelude.{unwrap_or}
use Rattle.std.specs.FinMap.{find}
use Rattle.std.specs.Ordering.{nat_cmp}
use Rattle.kr_locks.specs.Buckets.{holder_conflicts}
use Rattle.kr_locks.proofs.NameLaws.{holders_found}
use Rattle.kr_locks.proofs.BucketLaws.{IsRequest, mode_within, held_within, all_within, free_is}
use Rattle.kr_locks.proofs.names.is_free.Goals as goal

pub convert-converted-requires-clause-held_is_mode : goal.convert-converted-requires-clause-held_is_mode
convert-converted-requires-clause-held_is_mode g c =
    let a : IsRequest (g.P.Protocol.table c.args.protocol.now) c.args.names.now.entries c.args.txn c.args.name c.args.mode c.in-Some.bucket.now = record { laws = g.met.P.Protocol.lawful c.args.protocol.now; names = c.requires.in_order; within = c.requires.held; few = c.requires.asked; holders = holders_found c.args.names.now c.args.name c.key_of.result (Some c.in-Some.bucket.now) c.key_of.ensures c.in-Some.ensures.value; in_order = c.own.ensures.in_order } in
    rw c.own.ensures.mode (held_within _ _ _ _ _ _ a)

pub is_free-requires-clause-asked : goal.is_free-requires-clause-asked
is_free-requires-clause-asked g c =
    let a : IsRequest (g.P.Protocol.table c.args.protocol.now) c.args.names.now.entries c.args.txn c.args.name c.args.mode c.in-Some.bucket.now = record { laws = g.met.P.Protocol.lawful c.args.protocol.now; names = c.requires.in_order; within = c.requires.held; few = c.requires.asked; holders = holders_found c.args.names.now c.args.name c.key_of.result (Some c.in-Some.bucket.now) c.key_of.ensures c.in-Some.ensures.value; in_order = c.own.ensures.in_order } in
    rw (c.convert-converted.ensures, c.own.ensures.mode) (mode_within _ _ _ _ _ _ a)

pub is_free-requires-clause-held : goal.is_free-requires-clause-held
is_free-requires-clause-held g c =
    let a : IsRequest (g.P.Protocol.table c.args.protocol.now) c.args.names.now.entries c.args.txn c.args.name c.args.mode c.in-Some.bucket.now = record { laws = g.met.P.Protocol.lawful c.args.protocol.now; names = c.requires.in_order; within = c.requires.held; few = c.requires.asked; holders = holders_found c.args.names.now c.args.name c.key_of.result (Some c.in-Some.bucket.now) c.key_of.ensures c.in-Some.ensures.value; in_order = c.own.ensures.in_order } in
    all_within _ _ _ _ _ _ a

pub returns-in-Some : goal.returns-in-Some
returns-in-Some g c =
    let a : IsRequest (g.P.Protocol.table c.args.protocol.now) c.args.names.now.entries c.args.txn c.args.name c.args.mode c.in-Some.bucket.now = record { laws = g.met.P.Protocol.lawful c.args.protocol.now; names = c.requires.in_order; within = c.requires.held; few = c.requires.asked; holders = holders_found c.args.names.now c.args.name c.key_of.result (Some c.in-Some.bucket.now) c.key_of.ensures c.in-Some.ensures.value; in_order = c.own.ensures.in_order } in
    let f = free_is _ _ _ _ _ _ a in
    let p = g.P.Protocol.table c.args.protocol.now in
    let same : c.convert-converted.result ≡ p.convert (unwrap_or (find nat_cmp c.args.txn c.in-Some.bucket.now) 0) c.args.mode = c.convert-converted.ensures ∙ ap (λ x. p.convert x c.args.mode) c.own.ensures.mode in (
      λ free. f.0 (subst (λ m. filter (holder_conflicts p c.args.txn m) c.in-Some.bucket.now ≡ []) same (c.is_free.ensures.0 free)),
      λ none. c.is_free.ensures.1 (subst (λ m. filter (holder_conflicts p c.args.txn m) c.in-Some.bucket.now ≡ []) (sym same) (f.1 none)),
    )

pub returns-in-None : goal.returns-in-None
returns-in-None g c =
    let a : IsRequest (g.P.Protocol.table c.args.protocol.now) c.args.names.now.entries c.args.txn c.args.name c.args.mode [] = record { laws = g.met.P.Protocol.lawful c.args.protocol.now; names = c.requires.in_order; within = c.requires.held; few = c.requires.asked; holders = holders_found c.args.names.now c.args.name c.key_of.result None c.key_of.ensures c.in-None.ensures.value; in_order = refl } in
    (λ free. (free_is _ _ _ _ _ _ a).0 refl, λ none. refl)
