use Rattle.std.proofs.Common.{◌≡◌, ◌+◌, ◌++◌, ℕ, Option, Some, subst, arith}
use Rattle.std.specs.List.{flat_map}
use Rattle.kr_model.specs.declared.Span.{Span}
use Rattle.kr_model.specs.Covers.{count_up}
use Rattle.kr_change.specs.declared.every.Entry.{Entry}
use Rattle.kr_change.specs.Every.{entry_of, requests_to, requests_with}
use Rattle.kr_change.proofs.Listed.{before-more, all_modes_or_none, list_more}
use Rattle.kr_change.proofs.every.requests_by_own.Goals as goal

-- one own mode more
pub loop-own-preserved : goal.loop-own-preserved
loop-own-preserved g c =
    let p = g.P.Protocol.table c.args.protocol.now in
    let row = c.args.row in
    let side = c.args.side in
    let own = c.loop-own.own in
    let new = c.requests_to.new.changes.items in
    let asked : new ≡ c.loop-own.changes.items ++ requests_to p (entry_of row side (Some c.only.result) (p.ask row side own)) =
    subst (λ (r : Option (ℕ × Span)). new ≡ c.loop-own.changes.items ++ requests_to p (entry_of row side (Some c.only.result) r)) c.ask-now.ensures
    (subst (λ (e : Entry). new ≡ c.loop-own.changes.items ++ requests_to p e) c.entry_of-entry.ensures c.in_ok-requests_to.ensures) in
    let more : new ≡ c.loop-own.changes.items ++ requests_with p row side own =
    subst (λ (w : ℕ). new ≡ c.loop-own.changes.items ++ requests_to p (entry_of row side (Some w) (p.ask row side own))) c.only.ensures asked in
    list_more (requests_with p row side) c.args.changes.now.items c.loop-own.changes.items new (count_up 0 own) (count_up 0 (own + 1)) own (before-more own) c.loop-own.invariant more

-- all own modes
pub returns : goal.returns
returns g c =
    let p = g.P.Protocol.table c.args.protocol.now in
    subst (λ ks. c.loop-own.changes.items ≡ c.args.changes.now.items ++ flat_map (requests_with p c.args.row c.args.side) ks) (all_modes_or_none p c.loop-own.own (omega arith)) c.loop-own.invariant
