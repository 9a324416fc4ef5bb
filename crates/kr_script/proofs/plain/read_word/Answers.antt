use Rattle.std.proofs.Common.{◌≡◌, ◌∷◌, sym, subst, arith}
use Rattle.json.specs.Token.{Token}
use Rattle.json.specs.Reads.{token_of}
use Rattle.serde_json.specs.Data.{string}
use Rattle.kr_script.specs.Tokens.{IsNext}
use Rattle.kr_script.proofs.Documents.{string_next}
use Rattle.kr_script.proofs.plain.read_word.Goals as goal

pub returns-in-String : goal.returns-in-String
returns-in-String c =
    let text = c.in-String.text.now in
    let rest = c.next.new.self in
    let first : c.args.reader.now ≡ token_of c.in_ok-token.token ∷ rest = grind arith in
    let is : c.args.reader.now ≡ Token.string text ∷ rest = grind (arith, first) in
    λ depth. subst (λ ts. IsNext depth ts (string text) rest) (sym is) (string_next depth text rest)
