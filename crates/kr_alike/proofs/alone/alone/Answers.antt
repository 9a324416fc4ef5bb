use Rattle.std.proofs.Common.{Bool, true, false, ◌≡◌, ◌<◌, ◌+◌, ℕ, List, [], ◌∷◌, ◌++◌, rules, length, subst, sym, ap, ◌∙◌}
use Rattle.std.proofs.lemmas.List.{get_or_default}
use Rattle.kr_model.specs.declared.LockState.{LockState}
use Rattle.kr_model.specs.Protocol.{Protocol}
use Rattle.kr_model.specs.Safe.{free, Beside}
use Rattle.kr_decide.specs.declared.pair.Pair.{Pair}
use Rattle.kr_decide.specs.Pairs.{no_pair, pair_at}
use Rattle.kr_alike.proofs.Lists.{Collected, collected_more, collected_skip, collected_all}
use Rattle.kr_alike.proofs.alone.alone.Goals.{then-is_free+in_ok-push, else-is_free}
use Rattle.kr_alike.proofs.alone.alone.Goals as goal

not_both : (b : Bool) → b ≡ true → b ≡ false → ⊥
not_both b t f = cc

pub loop-at-preserved : goal.loop-at-preserved
loop-at-preserved g c =
    let p : Protocol = g.P.Protocol.table c.args.protocol.now in
    let pairs : List Pair = c.in_ok-pairs.pairs.items in
    let at : ℕ = c.loop-at.at in
    let all = c.in_ok-pairs.ensures in
    let below : at < length pairs = search rules in
    let is : c.index-pair.result.now ≡ pair_at pairs at = c.index-pair.ensures ∙ get_or_default pairs at c.index-pair.result.now no_pair below in
    let beside : Beside p (pair_at pairs at).own (pair_at pairs at).other = all.beside at below in
    elim c.if-is_free.branch [
      | then-is_free+in_ok-push w ↦
          let none : c.index-pair.result.now.other ≡ free = search (rules, c.is_free.ensures, w.if-is_free.true) in
          let alone : (pair_at pairs at).other ≡ free = ap (λ (z : Pair). z.other) (sym is) ∙ none in
          let grown : c.if-is_free.states.items ≡ c.loop-at.states.items ++ (pair_at pairs at).own ∷ [] = ap (λ v. v.items) w.states-is ∙ w.in_ok-push.ensures.items ∙ ap (λ (z : Pair). c.loop-at.states.items ++ z.own ∷ []) is in
          subst (λ (l : List LockState). Collected p pairs (at + 1) l) (sym grown) (collected_more p pairs at c.loop-at.states.items c.loop-at.invariant (subst (λ z. Beside p (pair_at pairs at).own z) alone beside))
      | else-is_free w ↦
          let not : (pair_at pairs at).other ≡ free → ⊥ = λ e. not_both c.is_free.result (c.is_free.ensures.1 (ap (λ (z : Pair). z.other) is ∙ e)) w.if-is_free.false in
          let same : c.if-is_free.states.items ≡ c.loop-at.states.items = ap (λ v. v.items) w.states-is in
          subst (λ (l : List LockState). Collected p pairs (at + 1) l) (sym same) (collected_skip p pairs at c.loop-at.states.items c.loop-at.invariant not)
    ]

pub returns : goal.returns
returns g c = collected_all (g.P.Protocol.table c.args.protocol.now) c.in_ok-pairs.pairs.items c.loop-at.at c.loop-at.states.items c.in_ok-pairs.ensures (search rules) c.loop-at.invariant
