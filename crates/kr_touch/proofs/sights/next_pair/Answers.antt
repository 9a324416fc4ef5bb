use Rattle.std.proofs.Common.{◌≡◌, ◌-◌, Some, ℕ, List, length, slice_get, sym, subst}
use Rattle.kr_model.specs.Map.{after}
use Rattle.kr_touch.specs.Sights.{IsPairAt}
use Rattle.kr_touch.proofs.NextNames.{name_after_last}
use Rattle.kr_touch.proofs.Sighted.{pair_is}
use Rattle.kr_touch.proofs.sights.next_pair.Goals as goal

pub returns-in-Some : goal.returns-in-Some
returns-in-Some g c =
    let m = g.I.Ordered.map c.args.index.now in
    let last : slice_get c.args.scan.now.rows.items (length c.args.scan.now.rows.items - 1) ≡ Some c.in-Some.row.now = subst (λ (xs : List (ℕ × ℕ)). slice_get xs (length xs - 1) ≡ Some c.in-Some.row.now) c.deref.ensures.value (sym c.in-Some.ensures.value) in
    let same = name_after_last m c.args.scan.now.lo c.args.scan.now.rows.items c.in-Some.row.now last in
    subst (λ n. IsPairAt m n c.pair_after.result) (sym same) (pair_is m (after m c.in-Some.row.now.0) c.pair_after.result c.pair_after.ensures.none c.pair_after.ensures.name c.pair_after.ensures.value)
