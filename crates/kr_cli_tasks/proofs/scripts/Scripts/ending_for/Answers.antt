use Rattle.std.proofs.Common.{rules}
use Rattle.kr_cli_tasks.proofs.Ended.{first_unreadable, first_faulty, faulty_within}
use Rattle.kr_cli_tasks.proofs.scripts.Scripts.ending_for.Goals as goal

pub returns-in-Unreadable-clause-ends : goal.returns-in-Unreadable-clause-ends
returns-in-Unreadable-clause-ends g c =
    let may_give = g.F.Files.may_give c.args.self.now.files.now in
    first_unreadable may_give (λ w. w.now) c.args.words.now c.in-Unreadable.at _ c.unreadable.result (rw c.in-Unreadable.is at c.requires) c.unreadable.ensures.line

pub returns-in-Script-clause-ends : goal.returns-in-Script-clause-ends
returns-in-Script-clause-ends g c =
    let may_give = g.F.Files.may_give c.args.self.now.files.now in
    first_faulty may_give (λ w. w.now) c.args.words.now c.in-Script.at _ c.in-Script.fault c.at_fault.result (rw c.in-Script.is at c.requires) c.at_fault.ensures.line

pub offset_bounds-words-at-in-Script : goal.offset_bounds-words-at-in-Script
offset_bounds-words-at-in-Script g c =
    let within = faulty_within (g.F.Files.may_give c.args.self.now.files.now) (λ w. w.now) c.args.words.now c.in-Script.at c.in-Script.fault (rw c.in-Script.is at c.requires) in
    search rules

pub bounds-words-at-in-Script : goal.bounds-words-at-in-Script
bounds-words-at-in-Script g c = faulty_within (g.F.Files.may_give c.args.self.now.files.now) (λ w. w.now) c.args.words.now c.in-Script.at c.in-Script.fault (rw c.in-Script.is at c.requires)
