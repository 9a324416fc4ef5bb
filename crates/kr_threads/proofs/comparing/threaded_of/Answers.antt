use Rattle.std.proofs.Common.{◌≡◌, ◌∙◌, map, ap, Vec}
use Rattle.kr_records.specs.declared.name.Entry.{Entry}
use Rattle.kr_threads.specs.Threaded.{answered}
use Rattle.kr_threads.proofs.Wholes.{threaded_whole, ran_of_closed}
use Rattle.kr_threads.proofs.comparing.threaded_of.Goals as goal

pub returns : goal.returns
returns c = λ p steps compared.
    let opening = c.args.opening.now in
    let h = c.args.history in
    let ran = c.in_ok-entries.ensures in
    let history : c.in_ok-history.history.items ≡ map answered h.entries.items = c.in_ok-history.ensures ∙ ap (λ (v : Vec Entry _). map answered v.items) ran.entries in
    threaded_whole p opening steps h _ compared history
    (ran_of_closed p opening h compared.shares c.in_ok-entries.ran compared.closed compared.ended ran.opening ran.replies ran.index ran.locks (ran.programs p opening compared.closed.state compared.closed.run) ran.unfinished)
