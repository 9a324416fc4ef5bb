use Rattle.std.proofs.Common.{ℕ, List, ◌&&◌, ap, subst, ◌∙◌, codes, string_bytes}
use Rattle.kr_explain_text.specs.Edits.{IsFix, head_of, is_without}
use Rattle.kr_explain_text.proofs.FourTexts.{four}
use Rattle.kr_explain_text.proofs.mending.fixes_of.Goals as goal

pub returns : goal.returns
returns g c =
    let names = g.P.Protocol.names c.args.protocol.now in
    let Second : List ℕ → Type 0 = λ h. IsFix names h (codes "The table is then safe.") c.args.safe.now (string_bytes c.in_ok-second.second) in
    let Third : List ℕ → Type 0 = λ h. IsFix names h (codes "The cases of this cause then hold.") c.args.mended.now (string_bytes c.in_ok-third.third) in
    record {
      first = string_bytes c.in_ok-first.first;
      second = string_bytes c.in_ok-second.second;
      third = string_bytes c.in_ok-third.third;
      remark = string_bytes c.in_ok-remark.remark;
      are_accepted = c.in_ok-first.ensures;
      are_safe = subst Second (c.head_of-head.ensures ∙ ap head_of c.is_without-is_second.ensures) c.in_ok-second.ensures;
      are_mended = subst Third (c.head_of-head-2.ensures ∙ ap head_of (c.are_both-is_third.ensures ∙ ap (λ b. b && c.is_without.result) c.is_without-is_second.ensures ∙ ap (λ b. is_without c.args.accepted.now && b) c.is_without.ensures)) c.in_ok-third.ensures;
      written = four c.deref.ensures c.deref-2.ensures c.deref-3.ensures c.deref-4.ensures c.in_ok-text.ensures;
    }
