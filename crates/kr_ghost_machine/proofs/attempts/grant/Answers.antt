use Rattle.std.proofs.Common.{◌≡◌, ◌≤◌, ap, sym, ◌∙◌, subst, arith, unwrap_or}
use Rattle.std.specs.Prelude.{IsTrue}
use Rattle.std.specs.Vec.{vec_len}
use Rattle.std.specs.Ordering.{nat_cmp}
use Rattle.std.specs.FinMap.{find, is_sorted, put}
use Rattle.kr_model.specs.Locks.{kept}
use Rattle.kr_model.specs.Plan.{requests}
use Rattle.kr_model.specs.State.{idle, standing}
use Rattle.kr_txn.specs.Numbered.{without_txn}
use Rattle.kr_txn.specs.Standings.{active_of, entries}
use Rattle.kr_txn.proofs.Lists.{find-without, put-rest}
use Rattle.kr_touch.specs.Pins.{all_changes_of}
use Rattle.kr_touch.proofs.Pins.{noted-put}
use Rattle.kr_ghost_machine.specs.Deeds.{effect_of, ghosts_after}
use Rattle.kr_ghost_machine.specs.Machine.{AreHeld, shown}
use Rattle.kr_ghost_machine.proofs.Attempted.{granted_as}
use Rattle.kr_ghost_machine.proofs.Resting.{held-put, put_rest}
use Rattle.kr_ghost_machine.proofs.attempts.grant.Goals as goal

pub put_in-requires-clause-others : goal.put_in-requires-clause-others
put_in-requires-clause-others g c = rw (c.perform.ensures.txn, c.stand-taken.ensures.txn, c.stand-taken.ensures.rest) (find-without c.args.txn (entries c.make_room.new.active.items))

pub put_back-requires-clause-others : goal.put_back-requires-clause-others
put_back-requires-clause-others g c = rw (c.perform.ensures.txn, c.stand-taken.ensures.txn, c.stand-taken.ensures.rest) (find-without c.args.txn (entries c.make_room.new.active.items))

pub returns-in-Ok-clause-step : goal.returns-in-Ok-clause-step
returns-in-Ok-clause-step g c =
    let p = g.P.GhostProtocol.ghosts c.args.protocol.now in
    let table = g.P.Protocol.table c.args.protocol.now in
    let x = c.args.index.now in
    let h = g.L.Holdings.locks c.args.locks.now in
    let t = c.args.txn in
    let es = entries c.args.active.now.items in
    let inv = c.requires.at_rest in
    let rest = inv.rest in
    let s = shown x h c.args.ended.now.numbers es in
    let d = c.args.sight.deed in
    let rs = requests c.args.sight.plan in
    let e = effect_of d x.map (standing s.state t) in
    let same : entries c.make_room.new.active.items ≡ es = ap entries c.make_room.ensures.active in
    let found : active_of c.stand-taken.result.0 ≡ standing s.state t = c.stand-taken.ensures.found ∙ ap (λ xs. unwrap_or (find nat_cmp t xs) idle) same in
    let sorted : IsTrue (is_sorted nat_cmp es) = rest.in_order in
    let b = active_of c.perform.new.standing in
    let same_txn : c.perform.new.standing.txn ≡ t = c.perform.ensures.txn ∙ c.stand-taken.ensures.txn in
    let others : entries c.stand-taken.new.active.items ≡ without_txn t es = c.stand-taken.ensures.rest ∙ ap (without_txn t) same in
    let items : entries c.put_in.new.list.items ≡ put nat_cmp t e.standing es =
    c.put_in.ensures.items ∙ ap (λ z. put nat_cmp z b (entries c.stand-taken.new.active.items)) same_txn ∙ ap (put nat_cmp t b) others ∙ put-rest t es sorted b
    ∙ ap (λ z. put nat_cmp t z es) (c.in-Ok.ensures.standing ∙ ap (λ a. (effect_of d x.map a).standing) found) in
    granted_as p table (g.met.P.GhostProtocol.tables c.args.protocol.now) s t rs e (ghosts_after d x.ghosts) c.in-Ok.reply c.perform.new.index (g.L.Holdings.locks c.perform.new.locks) c.make_room.new.ended.numbers (entries c.put_in.new.list.items)
    (c.in-Ok.ensures.reply ∙ ap (λ a. (effect_of d x.map a).reply) found)
    (c.in-Ok.ensures.map ∙ ap (λ a. (effect_of d x.map a).map) found)
    c.in-Ok.ensures.ghosts (c.in-Ok.ensures.kept ∙ ap (λ u. kept table h u rs) c.stand-taken.ensures.txn) c.make_room.ensures.ended items

pub returns-in-Ok-clause-at_rest : goal.returns-in-Ok-clause-at_rest
returns-in-Ok-clause-at_rest g c =
    let table = g.P.Protocol.table c.args.protocol.now in
    let x = c.args.index.now in
    let h = g.L.Holdings.locks c.args.locks.now in
    let l = g.L.Holdings.locks c.perform.new.locks in
    let t = c.args.txn in
    let es = entries c.args.active.now.items in
    let inv = c.requires.at_rest in
    let rest = inv.rest in
    let rs = requests c.args.sight.plan in
    let same : entries c.make_room.new.active.items ≡ es = ap entries c.make_room.ensures.active in
    let sorted : IsTrue (is_sorted nat_cmp es) = rest.in_order in
    let b = active_of c.perform.new.standing in
    let same_txn : c.perform.new.standing.txn ≡ t = c.perform.ensures.txn ∙ c.stand-taken.ensures.txn in
    let others : entries c.stand-taken.new.active.items ≡ without_txn t es = c.stand-taken.ensures.rest ∙ ap (without_txn t) same in
    let among : entries c.put_in.new.list.items ≡ put nat_cmp t b (without_txn t es) =
    c.put_in.ensures.items ∙ ap (λ z. put nat_cmp z b (entries c.stand-taken.new.active.items)) same_txn ∙ ap (put nat_cmp t b) others in
    let is_kept : l ≡ kept table h t rs = c.in-Ok.ensures.kept ∙ ap (λ u. kept table h u rs) c.stand-taken.ensures.txn in
    let room : vec_len c.put_in.new.list ≤ c.make_room.new.ended.room = omega (arith, c.put_in.ensures.len, c.stand-taken.ensures.len, c.in_ok-make_room.ensures.ok) in
    record {
      locks = c.perform.ensures.locks;
      rest = put_rest x c.perform.new.index h l c.args.ended.now c.make_room.new.ended c.args.active.now c.put_in.new.list t b rest (among ∙ put-rest t es sorted b)
          (subst (λ k. AreHeld k (put nat_cmp t b es)) (sym is_kept) (held-put table h es t b rs rest.held)) room
          (λ q.
          let noted = c.perform.ensures.noted q in
          let stood = c.stand-taken.ensures.noted q in
          let before = rest.counted q ∙ ap (λ xs. all_changes_of xs q) (sym same) in
          let out = ap (λ xs. all_changes_of xs q) others in
          let now = ap (λ xs. all_changes_of xs q) among ∙ noted-put t b (without_txn t es) q (find-without t es) in
          omega (arith, noted, stood, before, out, now));
    }
