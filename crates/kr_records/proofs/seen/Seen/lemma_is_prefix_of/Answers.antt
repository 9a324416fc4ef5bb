use Rattle.std.proofs.Common.{ap, arith, length, List}
use Rattle.kr_records.specs.declared.name.Entry.{Entry}
use Rattle.kr_records.proofs.Knowing.{known_length, names_begin}
use Rattle.kr_records.proofs.seen.Seen.lemma_is_prefix_of.Goals as goal

pub lemma_agree-requires : goal.lemma_agree-requires
lemma_agree-requires g c =
    let names = g.K.EngineName.places in
    let mine = known_length c.self.inside.known.known c.self.inside.places names c.self.invariant.1 c.self.invariant.2 in
    let theirs = known_length c.other.inside.known.known c.other.inside.places names c.other.invariant.1 c.other.invariant.2 in
    let seen = ap (λ (l : List Entry). length l) c.self.view_is in
    let shown = ap (λ (l : List Entry). length l) c.other.view_is in
    names_begin c.self.inside.known.known c.other.inside.known.known c.self.inside.places c.other.inside.places names (omega (arith, mine, theirs, seen, shown, c.requires)) c.self.invariant.2 c.other.invariant.2
