use Rattle.std.proofs.Common.{◌≡◌, ℕ, ◌+◌, ◌-◌, ◌++◌, ◌∙◌, [], ap, string_bytes, subst, arith}
use Rattle.std.specs.List.{flat_map}
use Rattle.kr_model.specs.Covers.{count_up}
use Rattle.kr_change.proofs.Listed.{all_modes, below-more, list_more}
use Rattle.kr_relax_text.specs.declared.unused.Group.{Group}
use Rattle.kr_relax_text.specs.Unused.{group_line, group_of}
use Rattle.kr_relax_text.proofs.unused.by_mode_text.Goals as goal

-- the line of one mode more
pub loop-mode-preserved : goal.loop-mode-preserved
loop-mode-preserved g c =
    let mode = c.loop-mode.mode in
    let line = λ (m : ℕ). group_line (g.P.Protocol.table c.args.protocol.now) (g.P.Protocol.names c.args.protocol.now) c.args.entries.now (group_of c.args.are_pairs m) in
    let in_group = λ (of : Group). group_line (g.P.Protocol.table c.args.protocol.now) (g.P.Protocol.names c.args.protocol.now) c.args.entries.now of in
    list_more line [] (string_bytes c.loop-mode.out) (string_bytes c.push_str.new.self) (count_up 1 (mode - 1)) (count_up 1 (mode + 1 - 1)) mode (below-more mode (omega arith)) c.loop-mode.invariant
    (c.in_ok-push_str.ensures.bytes ∙ ap (λ t. string_bytes c.loop-mode.out ++ t) (c.as_str.ensures.value ∙ (c.in_ok-text.ensures ∙ ap in_group c.group_of.ensures)))

-- those of all modes
pub returns : goal.returns
returns g c =
    let p = g.P.Protocol.table c.args.protocol.now in
    let line = λ (m : ℕ). group_line p (g.P.Protocol.names c.args.protocol.now) c.args.entries.now (group_of c.args.are_pairs m) in
    subst (λ ks. string_bytes c.loop-mode.out ≡ flat_map line ks) (all_modes p c.loop-mode.mode (omega arith)) c.loop-mode.invariant
