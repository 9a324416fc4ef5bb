use Rattle.std.proofs.lemmas.Grind.{common_steps}
use Rattle.std.proofs.Common.{◌≡◌, ◌<◌, ℕ, List, length, Option, None, Some, sym, ap, ◌∙◌, arith, subst}
use Rattle.std.specs.Prelude.{MatchOption}
use Rattle.once_cell.specs.Once.{Agrees}
use Rattle.kr_records.specs.declared.name.Entry.{Entry}
use Rattle.kr_records.proofs.Watching.{named_at, view_length, names_stay, still_unseen, now_seen}
use Rattle.kr_records.proofs.watch.Watch.entry.Goals as goal

pub invariant_of-self : goal.invariant_of-self
invariant_of-self g c =
    let lt : c.args.place < length g.K.EngineName.places = omega (arith, c.if-place-len.false, c.len.ensures.length, ap (λ (l : List ℕ). length l) c.self.invariant.0) in
    let named = named_at c.self.inside.known.items g.K.EngineName.places c.args.place c.index.result.now c.self.invariant.1 lt c.index.ensures in
    let cell = c.of.ensures.1 ∙ c.get_as-found.ensures.cell ∙ c.inform.ensures.0 ∙ c.note-note.ensures.0 ∙ c.cell-cell.ensures ∙ ap (λ (l : List ℕ). Rattle.std.specs.Prelude.slice_index_or l c.args.place 0) c.self.invariant.0 in
    (c.self.invariant.0, names_stay c.self.inside.known.items c.args.place c.of.result g.K.EngineName.places lt cell c.self.invariant.1)

pub returns-clause-unseen : goal.returns-clause-unseen
returns-clause-unseen g c =
    let length_is = view_length c.self.inside.known.items g.K.EngineName.places c.args.self.now c.self.invariant.1 c.self.view_is in
    let lt : c.args.place < length c.args.self.now = omega (arith, length_is, c.if-place-len.false, c.len.ensures.length, ap (λ (l : List ℕ). length l) c.self.invariant.0) in
    still_unseen c.self.inside.known.items c.args.self.now c.args.place c.index.result.now c.of.result c.self.view_is lt c.index.ensures c.get_as-found.result
    (subst (λ (o : Option Entry × Option Entry). MatchOption c.get_as-found.result ((o.0 ≡ None) × (o.1 ≡ None)) (λ r. (o.1 ≡ Some r.now) × Agrees o.0 r.now)) (λ i. (c.inform.ensures.1 i, sym c.of.ensures.2 i)) c.get_as-found.ensures.value)

pub returns-clause-seen : goal.returns-clause-seen
returns-clause-seen g c =
    let length_is = view_length c.self.inside.known.items g.K.EngineName.places c.args.self.now c.self.invariant.1 c.self.view_is in
    let lt : c.args.place < length c.args.self.now = omega (arith, length_is, c.if-place-len.false, c.len.ensures.length, ap (λ (l : List ℕ). length l) c.self.invariant.0) in
    now_seen c.self.inside.known.items c.args.self.now c.args.place c.index.result.now c.of.result c.self.view_is lt c.index.ensures c.get_as-found.result
    (subst (λ (o : Option Entry × Option Entry). MatchOption c.get_as-found.result ((o.0 ≡ None) × (o.1 ≡ None)) (λ r. (o.1 ≡ Some r.now) × Agrees o.0 r.now)) (λ i. (c.inform.ensures.1 i, sym c.of.ensures.2 i)) c.get_as-found.ensures.value)

pub returns-then-place-len-clause-known : goal.returns-then-place-len-clause-known
returns-then-place-len-clause-known g c = grind (arith, common_steps)
