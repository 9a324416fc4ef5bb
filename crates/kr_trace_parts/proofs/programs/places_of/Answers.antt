use Rattle.std.specs.Prelude.{◌≡◌, ℕ, drop}
use Rattle.std.specs.BTreeMap.{get}
use Rattle.std.specs.Ordering.{nat_cmp}
use Rattle.std.proofs.Common.{◌∙◌, arith, subst}
use Rattle.kr_trace_parts.proofs.WrongLaws.{all_placed, place_from}
use Rattle.kr_trace_parts.proofs.programs.places_of.Goals as goal

pub returns : goal.returns
returns c t =
    let zero : c.loop-place.place ≡ 0 = omega arith in
    subst (λ (n : ℕ). get nat_cmp c.loop-place.places t ≡ place_from n (drop n c.args.committed.now) t) zero (c.loop-place.invariant t) ∙ all_placed c.args.committed.now t
