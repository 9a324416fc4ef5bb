use Rattle.std.proofs.Common.{◌≡◌, Some, None, ap, sym, ◌∙◌, subst, Ok, Err}
use Rattle.std.specs.Prelude.{unwrap_or, OnErr, Result}
use Rattle.std.specs.FinMap.{find, put}
use Rattle.std.specs.Ordering.{nat_cmp}
use Rattle.kr_model.specs.Locks.{own, keep}
use Rattle.kr_locks.specs.Buckets.{Holders, locks_of}
use Rattle.kr_locks.specs.Noted.{AreNoted}
use Rattle.kr_locks.proofs.BucketLaws.{IsRequest, held_within}
use Rattle.kr_locks.proofs.NameLaws.{IsChangedAt, holders_found, written_in, same_at, kept_at, find-locks_of}
use Rattle.kr_locks.proofs.NotedLaws.{AreNoted-kept, AreNoted-keep, noted_anyway}
use Rattle.kr_locks.proofs.buckets.raise_there.Goals as goal

on_err : {A E P : Type 0} (r : Result A E) → P → OnErr r P
on_err (Ok x) p = tt
on_err (Err e) p = p

pub convert-kept-requires-clause-held_is_mode : goal.convert-kept-requires-clause-held_is_mode
convert-kept-requires-clause-held_is_mode g c =
    let a : IsRequest (g.P.Protocol.table c.args.protocol.now) c.args.names.now.entries c.args.txn c.args.name c.args.mode c.in-Some.bucket.now = record { laws = g.met.P.Protocol.lawful c.args.protocol.now; names = c.requires.in_order; within = c.requires.within; few = c.requires.asked.1; holders = holders_found c.args.names.now c.args.name c.key_of.result (Some c.in-Some.bucket.now) c.key_of.ensures c.in-Some.ensures.value; in_order = c.own-was.ensures.in_order } in
    rw c.own-was.ensures.mode (held_within _ _ _ _ _ _ a)

pub returns-in_err-note_unless_held-clause-in_order : goal.returns-in_err-note_unless_held-clause-in_order
returns-in_err-note_unless_held-clause-in_order g c = (written_in c.args.names.now (c.get_mut.follows.lender c.in-Some.bucket.now) c.args.name c.key_of.result c.in-Some.bucket.now c.in-Some.bucket.now c.key_of.ensures c.requires.in_order c.in-Some.ensures.value (c.get_mut.follows.holds c.in-Some.bucket.now)).after

pub returns-in_err-note_unless_held-clause-all : goal.returns-in_err-note_unless_held-clause-all
returns-in_err-note_unless_held-clause-all g c =
    let es = c.args.names.now.entries in
    let found = holders_found c.args.names.now c.args.name c.key_of.result (Some c.in-Some.bucket.now) c.key_of.ensures c.in-Some.ensures.value in
    let same = same_at es _ c.args.name _ (written_in c.args.names.now (c.get_mut.follows.lender c.in-Some.bucket.now) c.args.name c.key_of.result c.in-Some.bucket.now c.in-Some.bucket.now c.key_of.ensures c.requires.in_order c.in-Some.ensures.value (c.get_mut.follows.holds c.in-Some.bucket.now)) (sym found) in
    subst (AreNoted c.note_unless_held.new.held) (sym same) (AreNoted-kept c.args.held.now c.note_unless_held.new.held (locks_of es) c.requires.all c.in_err-note_unless_held.ensures.kept)

pub returns-in_err-note_unless_held-clause-err : goal.returns-in_err-note_unless_held-clause-err
returns-in_err-note_unless_held-clause-err g c =
    let es = c.args.names.now.entries in
    let found = holders_found c.args.names.now c.args.name c.key_of.result (Some c.in-Some.bucket.now) c.key_of.ensures c.in-Some.ensures.value in
    on_err c.from_residual.result (same_at es _ c.args.name _ (written_in c.args.names.now (c.get_mut.follows.lender c.in-Some.bucket.now) c.args.name c.key_of.result c.in-Some.bucket.now c.in-Some.bucket.now c.key_of.ensures c.requires.in_order c.in-Some.ensures.value (c.get_mut.follows.holds c.in-Some.bucket.now)) (sym found))

pub returns-in_err-keep-clause-in_order : goal.returns-in_err-keep-clause-in_order
returns-in_err-keep-clause-in_order g c = (written_in c.args.names.now (c.get_mut.follows.lender c.keep.new.self) c.args.name c.key_of.result c.in-Some.bucket.now c.keep.new.self c.key_of.ensures c.requires.in_order c.in-Some.ensures.value (c.get_mut.follows.holds c.keep.new.self)).after

pub returns-in_err-keep-clause-all : goal.returns-in_err-keep-clause-all
returns-in_err-keep-clause-all g c =
    let es = c.args.names.now.entries in
    let found = holders_found c.args.names.now c.args.name c.key_of.result (Some c.in-Some.bucket.now) c.key_of.ensures c.in-Some.ensures.value in
    let same = same_at es _ c.args.name _ (written_in c.args.names.now (c.get_mut.follows.lender c.keep.new.self) c.args.name c.key_of.result c.in-Some.bucket.now c.keep.new.self c.key_of.ensures c.requires.in_order c.in-Some.ensures.value (c.get_mut.follows.holds c.keep.new.self)) (c.in_err-keep.ensures.err ∙ sym found) in
    subst (AreNoted c.note_unless_held.new.held) (sym same) (AreNoted-kept c.args.held.now c.note_unless_held.new.held (locks_of es) c.requires.all c.in_ok-note_unless_held.ensures.kept)

pub returns-in_err-keep-clause-err : goal.returns-in_err-keep-clause-err
returns-in_err-keep-clause-err g c =
    let es = c.args.names.now.entries in
    let found = holders_found c.args.names.now c.args.name c.key_of.result (Some c.in-Some.bucket.now) c.key_of.ensures c.in-Some.ensures.value in
    on_err c.from_residual-in_err-keep.result (same_at es _ c.args.name _ (written_in c.args.names.now (c.get_mut.follows.lender c.keep.new.self) c.args.name c.key_of.result c.in-Some.bucket.now c.keep.new.self c.key_of.ensures c.requires.in_order c.in-Some.ensures.value (c.get_mut.follows.holds c.keep.new.self)) (c.in_err-keep.ensures.err ∙ sym found))

pub returns-in-Some-clause-in_order : goal.returns-in-Some-clause-in_order
returns-in-Some-clause-in_order g c = (written_in c.args.names.now (c.get_mut.follows.lender c.keep.new.self) c.args.name c.key_of.result c.in-Some.bucket.now c.keep.new.self c.key_of.ensures c.requires.in_order c.in-Some.ensures.value (c.get_mut.follows.holds c.keep.new.self)).after

pub returns-in-Some-clause-was : goal.returns-in-Some-clause-was
returns-in-Some-clause-was g c =
    let es = c.args.names.now.entries in
    let found = holders_found c.args.names.now c.args.name c.key_of.result (Some c.in-Some.bucket.now) c.key_of.ensures c.in-Some.ensures.value in
    c.own-was.ensures.mode ∙ sym (ap (λ o. unwrap_or o 0) (find-locks_of es c.requires.in_order c.args.name c.args.txn ∙ ap (find nat_cmp c.args.txn) found))

pub returns-in-Some-clause-raised : goal.returns-in-Some-clause-raised
returns-in-Some-clause-raised g c =
    let es = c.args.names.now.entries in
    let found = holders_found c.args.names.now c.args.name c.key_of.result (Some c.in-Some.bucket.now) c.key_of.ensures c.in-Some.ensures.value in
    let changed = written_in c.args.names.now (c.get_mut.follows.lender c.keep.new.self) c.args.name c.key_of.result c.in-Some.bucket.now c.keep.new.self c.key_of.ensures c.requires.in_order c.in-Some.ensures.value (c.get_mut.follows.holds c.keep.new.self) in
    kept_at es _ c.args.name c.args.txn c.convert-kept.result (subst (λ (hs : Holders). IsChangedAt es (c.get_mut.follows.lender c.keep.new.self).entries c.args.name hs) (c.in_ok-keep.ensures.ok ∙ ap (put nat_cmp c.args.txn c.convert-kept.result) (sym found)) changed)
    ∙ ap (keep (locks_of es) c.args.txn c.args.name) c.convert-kept.ensures

pub returns-in-Some-clause-all : goal.returns-in-Some-clause-all
returns-in-Some-clause-all g c =
    let es = c.args.names.now.entries in
    let h = locks_of es in
    let m = c.args.held.now in
    let w = c.note_unless_held.new.held in
    let found = holders_found c.args.names.now c.args.name c.key_of.result (Some c.in-Some.bucket.now) c.key_of.ensures c.in-Some.ensures.value in
    let changed = written_in c.args.names.now (c.get_mut.follows.lender c.keep.new.self) c.args.name c.key_of.result c.in-Some.bucket.now c.keep.new.self c.key_of.ensures c.requires.in_order c.in-Some.ensures.value (c.get_mut.follows.holds c.keep.new.self) in
    let kept = kept_at es _ c.args.name c.args.txn c.convert-kept.result (subst (λ (hs : Holders). IsChangedAt es (c.get_mut.follows.lender c.keep.new.self).entries c.args.name hs) (c.in_ok-keep.ensures.ok ∙ ap (put nat_cmp c.args.txn c.convert-kept.result) (sym found)) changed) in
    let was : c.own-was.result ≡ own h c.args.txn c.args.name = c.own-was.ensures.mode ∙ sym (ap (λ o. unwrap_or o 0) (find-locks_of es c.requires.in_order c.args.name c.args.txn ∙ ap (find nat_cmp c.args.txn) found)) in
    subst (AreNoted w) (sym kept) (AreNoted-keep w h c.args.txn c.args.name c.convert-kept.result (AreNoted-kept m w h c.requires.all c.in_ok-note_unless_held.ensures.kept) (noted_anyway m w h c.args.txn c.args.name c.own-was.result c.requires.all c.in_ok-note_unless_held.ensures.kept was c.in_ok-note_unless_held.ensures.noted))

pub returns-clause-all : goal.returns-clause-all
returns-clause-all g c = subst (AreNoted c.args.held.now) (sym (ap (λ m. locks_of m.entries) c.get_mut.follows.holds-at-none)) c.requires.all

pub returns-clause-absent : goal.returns-clause-absent
returns-clause-absent g c = holders_found c.args.names.now c.args.name c.key_of.result None c.key_of.ensures c.in_default.ensures.value
