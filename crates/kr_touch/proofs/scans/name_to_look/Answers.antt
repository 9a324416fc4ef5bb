use Rattle.std.proofs.Common.{◌≡◌, ◌-◌, Some, ℕ, List, length, slice_get, sym, ◌∙◌, subst}
use Rattle.kr_touch.proofs.NextNames.{name_after_last}
use Rattle.kr_touch.proofs.scans.name_to_look.Goals as goal

pub returns-in-Some : goal.returns-in-Some
returns-in-Some g c =
    let last : slice_get c.args.scan.now.rows.items (length c.args.scan.now.rows.items - 1) ≡ Some c.in-Some.row.now = subst (λ (xs : List (ℕ × ℕ)). slice_get xs (length xs - 1) ≡ Some c.in-Some.row.now) c.deref.ensures.value (sym c.in-Some.ensures.value) in
    c.after.ensures ∙ sym (name_after_last (g.I.Ordered.map c.args.index.now) c.args.scan.now.lo c.args.scan.now.rows.items c.in-Some.row.now last)
