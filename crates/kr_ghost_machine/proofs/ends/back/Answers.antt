use Rattle.std.proofs.Common.{◌≡◌, ◌+◌, ◌≤◌, ◌∷◌, [], length, ap, sym, ◌∙◌, arith, option_map, reverse, unwrap_or}
use Rattle.std.specs.Vec.{vec_len}
use Rattle.std.specs.Ordering.{nat_cmp}
use Rattle.std.specs.FinMap.{find, put}
use Rattle.std.proofs.lemmas.List.{length-reverse, nil_from_length, reverse-append}
use Rattle.kr_model.specs.Map.{Changes}
use Rattle.kr_model.specs.State.{Active, idle}
use Rattle.kr_txn.specs.Numbered.{without_txn}
use Rattle.kr_txn.specs.Standings.{active_of, entries, scan_of}
use Rattle.kr_txn.proofs.Lists.{find-without, put_back, put-rest}
use Rattle.kr_touch.specs.Pins.{all_changes_of, changes_of}
use Rattle.kr_touch.proofs.Pins.{noted-put, noted-without}
use Rattle.kr_ghost_index.specs.Index.{changes}
use Rattle.kr_ghost_machine.proofs.Backs.{counted_back, none_back, one_back, rolled, some_left}
use Rattle.kr_ghost_machine.proofs.Resting.{held-same, put_rest, same_rest}
use Rattle.kr_ghost_machine.proofs.ends.back.Goals as goal

pub undo-requires : goal.undo-requires
undo-requires g c =
    let s = c.in-Some.standing in
    let es = entries c.args.active.now.items in
    let rest = c.requires.at_rest in
    let k = c.in-Some-pop.key in
    let cs = reverse c.pop.new.self.items in
    let is : (active_of s).changes ≡ (k, c.in-Some-pop.before) ∷ cs = ap reverse c.in-Some-pop.ensures.items ∙ reverse-append c.pop.new.self.items ((k, c.in-Some-pop.before) ∷ []) in
    let left = all_changes_of (without_txn c.args.txn es) k in
    some_left (changes c.args.index.now k) (all_changes_of es k) left k c.in-Some-pop.before cs (rest.counted k)
    (noted-without c.args.txn es (active_of s) k rest.in_order (sym c.in-Some.ensures.found) ∙ ap (λ z. left + changes_of z k) is)

pub put_in-requires-clause-others : goal.put_in-requires-clause-others
put_in-requires-clause-others g c = rw (c.in-Some.ensures.txn, c.take_out.ensures.rest) (find-without c.args.txn (entries c.args.active.now.items))

pub put_in-requires-in-None-clause-others : goal.put_in-requires-in-None-clause-others
put_in-requires-in-None-clause-others g c = rw (c.in-Some.ensures.txn, c.take_out.ensures.rest) (find-without c.args.txn (entries c.args.active.now.items))

pub returns-in-Some-pop-clause-step : goal.returns-in-Some-pop-clause-step
returns-in-Some-pop-clause-step g c p =
    let s = c.in-Some.standing in
    let t = c.args.txn in
    let es = entries c.args.active.now.items in
    let rest = c.requires.at_rest in
    let items = c.pop.new.self.items in
    let k = c.in-Some-pop.key in
    let is : (unwrap_or (find nat_cmp t es) idle).changes ≡ (k, c.in-Some-pop.before) ∷ reverse items = ap (λ o. (unwrap_or o idle).changes) (sym c.in-Some.ensures.found) ∙ ap reverse c.in-Some-pop.ensures.items ∙ reverse-append items ((k, c.in-Some-pop.before) ∷ []) in
    let left : c.len-left.result ≡ length (reverse items) = let n = length-reverse items in omega (arith, n, c.len-left.ensures) in
    let placed : entries c.put_in.new.list.items ≡ put nat_cmp t (rolled (reverse items)) es =
    c.put_in.ensures.items ∙ ap (λ z. put nat_cmp z (rolled (reverse items)) (entries c.take_out.new.list.items)) c.in-Some.ensures.txn
    ∙ ap (put nat_cmp t (rolled (reverse items))) c.take_out.ensures.rest ∙ put-rest t es rest.in_order (rolled (reverse items)) in
    one_back c.args.index.now (g.L.Holdings.locks c.args.locks.now) c.args.ended.now.numbers es t c.undo.new.self (entries c.put_in.new.list.items) (k, c.in-Some-pop.before) (reverse items) c.len-left.result is c.undo.ensures.map c.undo.ensures.ghosts left placed

pub returns-in-Some-pop-clause-at_rest : goal.returns-in-Some-pop-clause-at_rest
returns-in-Some-pop-clause-at_rest g c =
    let s = c.in-Some.standing in
    let t = c.args.txn in
    let es = entries c.args.active.now.items in
    let rest = c.requires.at_rest in
    let items = c.pop.new.self.items in
    let a = rolled (reverse items) in
    let k = c.in-Some-pop.key in
    let h = g.L.Holdings.locks c.args.locks.now in
    let is : (active_of s).changes ≡ (k, c.in-Some-pop.before) ∷ reverse items = ap reverse c.in-Some-pop.ensures.items ∙ reverse-append items ((k, c.in-Some-pop.before) ∷ []) in
    let among : entries c.put_in.new.list.items ≡ put nat_cmp t a (without_txn t es) =
    c.put_in.ensures.items ∙ ap (λ z. put nat_cmp z a (entries c.take_out.new.list.items)) c.in-Some.ensures.txn ∙ ap (put nat_cmp t a) c.take_out.ensures.rest in
    let len : vec_len c.put_in.new.list ≤ c.args.ended.now.room = omega (arith, rest.room, c.put_in.ensures.len, c.in-Some.ensures.some) in
    put_rest c.args.index.now c.undo.new.self h h c.args.ended.now c.args.ended.now c.args.active.now c.put_in.new.list t a rest (among ∙ put-rest t es rest.in_order a) (held-same h es t a rest.held) len
    (λ q. counted_back (changes c.undo.new.self) q (changes c.args.index.now q) (all_changes_of es q) (all_changes_of (without_txn t es) q) k c.in-Some-pop.before (reverse items) (all_changes_of (entries c.put_in.new.list.items) q) (c.undo.ensures.changes q) (rest.counted q)
    (noted-without t es (active_of s) q rest.in_order (sym c.in-Some.ensures.found) ∙ ap (λ z. all_changes_of (without_txn t es) q + changes_of z q) is)
    (ap (λ xs. all_changes_of xs q) among ∙ noted-put t a (without_txn t es) q (find-without t es)))

pub returns-in-None-clause-step : goal.returns-in-None-clause-step
returns-in-None-clause-step g c p =
    let s = c.in-Some.standing in
    let t = c.args.txn in
    let es = entries c.args.active.now.items in
    let rest = c.requires.at_rest in
    let nothing : s.changes.items ≡ [] = nil_from_length s.changes.items (omega (arith, c.in-None.ensures.cases)) in
    let is : (unwrap_or (find nat_cmp t es) idle).changes ≡ [] = ap (λ o. (unwrap_or o idle).changes) (sym c.in-Some.ensures.found) ∙ ap reverse nothing in
    let a : Active = record { scan = option_map scan_of s.scan; changes = reverse c.pop.new.self.items; rolling = s.rolling } in
    let same : a ≡ active_of s = ap (λ (items : Changes). record { scan = option_map scan_of s.scan; changes = reverse items; rolling = s.rolling }) (nil_from_length c.pop.new.self.items (omega (arith, c.in-None.ensures.cases)) ∙ sym nothing) in
    let back : entries c.put_in-in-None.new.list.items ≡ es =
    c.put_in-in-None.ensures.items ∙ ap (λ z. put nat_cmp z a (entries c.take_out.new.list.items)) c.in-Some.ensures.txn ∙ ap (put nat_cmp t a) c.take_out.ensures.rest
    ∙ ap (λ z. put nat_cmp t z (without_txn t es)) same ∙ put_back t es rest.in_order (active_of s) (sym c.in-Some.ensures.found) in
    none_back c.args.index.now (g.L.Holdings.locks c.args.locks.now) c.args.ended.now.numbers es t (entries c.put_in-in-None.new.list.items) is back

pub returns-in-None-clause-at_rest : goal.returns-in-None-clause-at_rest
returns-in-None-clause-at_rest g c =
    let s = c.in-Some.standing in
    let t = c.args.txn in
    let es = entries c.args.active.now.items in
    let rest = c.requires.at_rest in
    let nothing : s.changes.items ≡ [] = nil_from_length s.changes.items (omega (arith, c.in-None.ensures.cases)) in
    let a : Active = record { scan = option_map scan_of s.scan; changes = reverse c.pop.new.self.items; rolling = s.rolling } in
    let same : a ≡ active_of s = ap (λ (items : Changes). record { scan = option_map scan_of s.scan; changes = reverse items; rolling = s.rolling }) (nil_from_length c.pop.new.self.items (omega (arith, c.in-None.ensures.cases)) ∙ sym nothing) in
    let back : entries c.put_in-in-None.new.list.items ≡ es =
    c.put_in-in-None.ensures.items ∙ ap (λ z. put nat_cmp z a (entries c.take_out.new.list.items)) c.in-Some.ensures.txn ∙ ap (put nat_cmp t a) c.take_out.ensures.rest
    ∙ ap (λ z. put nat_cmp t z (without_txn t es)) same ∙ put_back t es rest.in_order (active_of s) (sym c.in-Some.ensures.found) in
    let len : vec_len c.put_in-in-None.new.list ≤ c.args.ended.now.room = omega (arith, rest.room, c.put_in-in-None.ensures.len, c.in-Some.ensures.some) in
    same_rest c.args.index.now (g.L.Holdings.locks c.args.locks.now) c.args.ended.now c.args.ended.now c.args.active.now c.put_in-in-None.new.list rest back len
