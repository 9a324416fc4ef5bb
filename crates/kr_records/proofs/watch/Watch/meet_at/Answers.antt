use Rattle.std.proofs.Common.{sym, ◌∙◌, arith}
use Rattle.kr_records.proofs.Watching.{named_at, known_there, view_length, agree_at}
use Rattle.kr_records.proofs.watch.Watch.meet_at.Goals as goal

pub lemma_agree-requires : goal.lemma_agree-requires
lemma_agree-requires g c =
    named_at c.other.inside.known.items g.K.EngineName.places c.args.place c.index-2.result.now c.other.invariant.1 c.requires c.index-2.ensures ∙ sym (named_at c.self.inside.known.items g.K.EngineName.places c.args.place c.index.result.now c.self.invariant.1 c.requires c.index.ensures)

pub returns : goal.returns
returns g c =
    let mine = view_length c.self.inside.known.items g.K.EngineName.places c.args.self.now c.self.invariant.1 c.self.view_is in
    let theirs = view_length c.other.inside.known.items g.K.EngineName.places c.args.other.now c.other.invariant.1 c.other.view_is in
    agree_at c.args.self.now c.args.other.now c.args.place c.index.result.now.known c.index-2.result.now.known
    (known_there c.self.inside.known.items c.args.self.now c.args.place c.index.result.now c.self.view_is (omega (arith, mine, c.requires)) c.index.ensures)
    (known_there c.other.inside.known.items c.args.other.now c.args.place c.index-2.result.now c.other.view_is (omega (arith, theirs, c.requires)) c.index-2.ensures)
    c.lemma_agree.ensures
