use Rattle.std.proofs.Common.{ℕ, Bool, List, true, ◌↔◌, IsTrue, get_or, sym, subst, rules}
use Rattle.std.specs.Prelude.{◌/◌, ◌%◌}
use Rattle.kr_model.specs.declared.Row.{Row}
use Rattle.kr_model.specs.declared.Side.{Side}
use Rattle.kr_alike.specs.Asked.{row_at, side_at, IsAsked}
use Rattle.kr_alike.proofs.Lists.{mark_more}
use Rattle.kr_alike.proofs.asked.all_asked.Goals as goal

pub loop-place-preserved : goal.loop-place-preserved
loop-place-preserved g c =
    let p = g.P.Protocol.table c.args.protocol.now in
    let P : ℕ → Bool → Type 0 = λ k b. IsTrue b ↔ IsAsked p (row_at (k / 512)) (side_at (k / 256 % 2)) (k / 16 % 16) (k % 16) in
    let place : ℕ = c.loop-place.place in
    let by_row : IsTrue c.is_asked.result ↔ IsAsked p (row_at (place / 512)) c.side_at-side.result (place / 16 % 16) (place % 16) =
    subst (λ (r : Row). IsTrue c.is_asked.result ↔ IsAsked p r c.side_at-side.result (place / 16 % 16) (place % 16)) c.row_at-row.ensures c.is_asked.ensures in
    let new : IsTrue c.is_asked.result ↔ IsAsked p (row_at (place / 512)) (side_at (place / 256 % 2)) (place / 16 % 16) (place % 16) =
    subst (λ (s : Side). IsTrue c.is_asked.result ↔ IsAsked p (row_at (place / 512)) s (place / 16 % 16) (place % 16)) c.side_at-side.ensures by_row in
    record {
      size = search rules;
      marked = λ k below. subst (λ (l : List Bool). P k (get_or l k true)) (sym c.in_ok-push.ensures.items)
          (mark_more P c.loop-place.marks.items c.is_asked.result c.loop-place.place c.loop-place.invariant.size c.loop-place.invariant.marked new k below);
    }
