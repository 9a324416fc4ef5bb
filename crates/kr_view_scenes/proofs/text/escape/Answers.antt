use Rattle.std.specs.Prelude.{string_bytes, encode_utf8_all, refl, ℕ, List}
use Rattle.std.specs.Str.{chars}
use Rattle.std.proofs.Common.{◌≡◌, sym, ap, subst, ◌∙◌, map-id, Some, []}
use Rattle.std.proofs.lemmas.Str.{chars-nil, encodes-chars}
use Rattle.std.proofs.lemmas.Iterator.{YieldsList-from_chars}
use Rattle.std.proofs.lemmas.Iterator.Consumers.{YieldsList-end}
use Rattle.kr_view_scenes.specs.Escape.{escaped, unescaped}
use Rattle.kr_view_scenes.proofs.Escaped.{one_more}
use Rattle.kr_view_scenes.proofs.text.escape.Goals as goal

empty : (page : List ℕ) → page ≡ [] → unescaped (chars page) ≡ Some []
empty page e =
    let P : List ℕ → Type 0 = λ bs. unescaped (chars bs) ≡ Some [] in
    let Q : List ℕ → Type 0 = λ cs. unescaped cs ≡ Some [] in
    subst P (sym e) (subst Q (sym chars-nil) refl)

pub loop-c-init : goal.loop-c-init
loop-c-init c = record { written = c.new-page.ensures.bytes; reads_back = empty (string_bytes c.new-page.result) c.new-page.ensures.bytes }

pub loop-c-preserved : goal.loop-c-preserved
loop-c-preserved c = record {
  written = one_more (string_bytes c.loop-c.page) (string_bytes c.push_escaped.new.page) c.loop-c.yielded c.in-Some.c c.loop-c.invariant.written c.in_ok-push_escaped.ensures.written;
  reads_back = c.in_ok-push_escaped.ensures.reads_back c.loop-c.yielded c.loop-c.invariant.reads_back;
}

pub returns : goal.returns
returns c =
    let end = YieldsList-end (YieldsList-from_chars c.args.text.now c.utf8.text cc) c.loop-c.yielded _ c.loop-c.yielded_by _ _ c.in-None.is c.next.ensures.steps in
    let all = sym (map-id c.loop-c.yielded) ∙ end.0 in
    record { written = c.loop-c.invariant.written ∙ ap escaped (ap encode_utf8_all all ∙ encodes-chars c.args.text.now c.utf8.text); reads_back = c.loop-c.invariant.reads_back ∙ ap Some all }
