use Rattle.std.proofs.Common.{sym, subst, ap}
use Rattle.kr_locks.specs.Buckets.{locks_of}
use Rattle.kr_locks.specs.Noted.{AreNoted}
use Rattle.kr_locks.proofs.NotedLaws.{AreNoted-kept, AreNoted-keep}
use Rattle.kr_locks.proofs.buckets.raise_new.Goals as goal

pub returns-in_err-note-clause-all : goal.returns-in_err-note-clause-all
returns-in_err-note-clause-all c = AreNoted-kept c.args.held.now c.note.new.held (locks_of c.args.names.now.entries) c.requires.all c.in_err-note.ensures.kept

pub returns-in_err-store_new-clause-all : goal.returns-in_err-store_new-clause-all
returns-in_err-store_new-clause-all c =
    subst (AreNoted c.note.new.held) (sym (ap locks_of c.in_err-store_new.ensures.err)) (AreNoted-kept c.args.held.now c.note.new.held (locks_of c.args.names.now.entries) c.requires.all c.in_ok-note.ensures.kept)

pub returns-clause-all : goal.returns-clause-all
returns-clause-all c =
    let h = locks_of c.args.names.now.entries in
    subst (AreNoted c.note.new.held) (sym c.in_ok-store_new.ensures.ok) (AreNoted-keep c.note.new.held h c.args.txn c.args.name c.args.mode (AreNoted-kept c.args.held.now c.note.new.held h c.requires.all c.in_ok-note.ensures.kept) c.in_ok-note.ensures.noted)
