use Rattle.std.proofs.Common.{◌≡◌, ℕ, Option, Some, None, sym, ◌∙◌, ap}
use Rattle.std.specs.Prelude.{unwrap_or, nat_eq}
use Rattle.std.specs.HashMap as hash
use Rattle.kr_model.specs.Map.{get}
use Rattle.kr_judge.proofs.Changes.{get-changed, changed_once}
use Rattle.kr_judge.proofs.changed.change_in.Goals as goal

pub returns-in-Some-clause-before : goal.returns-in-Some-clause-before
returns-in-Some-clause-before c =
    let m = c.args.opening.now in
    let was : ◌≡◌ {A = Option (Option ℕ)} (Some c.in-Some.before) (hash.get nat_eq c.args.changes.now c.args.key) = cc (c.in-Some.is, c.in_ok-before.ensures.old) in
    ap (λ o. unwrap_or o (get m c.args.key)) was ∙ sym (get-changed m c.args.changes.now.entries c.requires.unique c.args.key)

pub returns-in-Some-clause-map : goal.returns-in-Some-clause-map
returns-in-Some-clause-map c =
    changed_once c.args.opening.now c.args.changes.now c.insert.new.self c.args.key c.args.value c.requires.is_map c.requires.unique c.in_ok-before.ensures.unique c.in_ok-before.ensures.updates.0

pub returns-in-None-clause-before : goal.returns-in-None-clause-before
returns-in-None-clause-before c =
    let m = c.args.opening.now in
    let was : ◌≡◌ {A = Option (Option ℕ)} None (hash.get nat_eq c.args.changes.now c.args.key) = cc (c.in-None.is, c.in_ok-before.ensures.old) in
    c.find.ensures ∙ ap (λ o. unwrap_or o (get m c.args.key)) was ∙ sym (get-changed m c.args.changes.now.entries c.requires.unique c.args.key)

pub returns-in-None-clause-map : goal.returns-in-None-clause-map
returns-in-None-clause-map c =
    changed_once c.args.opening.now c.args.changes.now c.insert.new.self c.args.key c.args.value c.requires.is_map c.requires.unique c.in_ok-before.ensures.unique c.in_ok-before.ensures.updates.0
