use Rattle.kr_locks.specs.Buckets.{locks_of}
use Rattle.kr_locks.proofs.NotedLaws.{AreNoted-kept}
use Rattle.kr_locks.proofs.buckets.note_new.Goals as goal

pub returns-in_err-note-clause-all : goal.returns-in_err-note-clause-all
returns-in_err-note-clause-all c = AreNoted-kept c.args.held.now c.note.new.held (locks_of c.args.names.now.entries) c.requires.all c.in_err-note.ensures.kept

pub returns-clause-all : goal.returns-clause-all
returns-clause-all c = AreNoted-kept c.args.held.now c.note.new.held (locks_of c.args.names.now.entries) c.requires.all c.in_ok-note.ensures.kept
