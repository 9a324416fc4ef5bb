use Rattle.std.proofs.Common.{◌≡◌, ◌≤◌, ◌<◌, ◌+◌, ◌∙◌, List, [], ◌∷◌, ◌++◌, length, take, get_or, ap, sym, subst, arith}
use Rattle.std.proofs.lemmas.List.{take_more, take_all}
use Rattle.kr_relax_core.specs.declared.unused.Entry.{Entry}
use Rattle.kr_relax_core.specs.Selects.{Selects, none}
use Rattle.kr_relax_core.specs.Unused.{IsUnused, entries_of}
use Rattle.kr_relax_core.proofs.Selecting.{select_passed, select_taken, selected_all, selected_each}
use Rattle.kr_relax_core.proofs.unused.unused_entries.Goals as goal
use Rattle.kr_relax_core.proofs.unused.unused_entries.Goals.{then-not-is_used+in_ok-push, else-not-is_used}

-- at first no entry has been looked at
pub loop-at-init : goal.loop-at-init
loop-at-init g c =
    let p = g.P.IndexProtocol.index c.args.protocol.now in
    subst (Selects (IsUnused p) []) (sym c.new-list.ensures.items) none

-- with one entry more
pub loop-at-preserved : goal.loop-at-preserved
loop-at-preserved g c =
    let p = g.P.IndexProtocol.index c.args.protocol.now in
    let entries = c.in_ok-entries.entries.items in
    let at = c.loop-at.at in
    let x = c.index-entry.result.now in
    let old = c.loop-at.list.items in
    let new = c.if-not-is_used.list.items in
    let is : get_or entries at x ≡ x = sym c.index-entry.ensures in
    let low : at < length entries = omega (arith, c.len-at-end.ensures, c.loop-at-test.true) in
    let more : take at entries ++ x ∷ [] ≡ take (at + 1) entries = sym (take_more entries at x low ∙ ap (λ (y : Entry). take at entries ++ y ∷ []) is) in
    elim c.if-not-is_used.branch [
      | then-not-is_used+in_ok-push w ↦
          let items : new ≡ old ++ x ∷ [] = ap (λ l. l.items) w.list-is ∙ w.in_ok-push.ensures.items in
          let unused : IsUnused p x = (λ used. let a = c.is_used.ensures.1 used in let b = w.if-not-is_used.true in cc) in
          subst (λ (l : List Entry). Selects (IsUnused p) l new) more (subst (Selects (IsUnused p) (take at entries ++ x ∷ [])) (sym items) (select_taken (IsUnused p) x (take at entries) old unused c.loop-at.invariant))
      | else-not-is_used w ↦
          let items : new ≡ old = ap (λ l. l.items) w.list-is in
          let used : IsUnused p x → ⊥ = (λ unused. unused (c.is_used.ensures.0 w.if-not-is_used.false)) in
          subst (λ (l : List Entry). Selects (IsUnused p) l new) more (subst (Selects (IsUnused p) (take at entries ++ x ∷ [])) (sym items) (select_passed (IsUnused p) x (take at entries) old used c.loop-at.invariant))
    ]

-- all entries have been
pub returns : goal.returns
returns g c =
    let p = g.P.IndexProtocol.index c.args.protocol.now in
    let entries = c.in_ok-entries.entries.items in
    let list = c.loop-at.list.items in
    let end : length entries ≤ c.loop-at.at = omega (arith, c.len-at-end.ensures, c.loop-at-test.false) in
    let order : Selects (IsUnused p) (entries_of p) list = subst (λ (l : List Entry). Selects (IsUnused p) l list) (take_all c.loop-at.at entries end ∙ c.in_ok-entries.ensures) c.loop-at.invariant in
    record { each = selected_each (IsUnused p) (entries_of p) list order; all = selected_all (IsUnused p) (entries_of p) list order; order = order }
