use Rattle.std.proofs.Common.{◌≡◌, ◌∷◌, ℕ, Some, sym, subst, arith}
use Rattle.json.specs.Token.{Token}
use Rattle.json.specs.Reads.{token_of}
use Rattle.serde_json.specs.Data.{unsigned}
use Rattle.serde_json.specs.Read.{number_of}
use Rattle.kr_script.specs.Json.{whole}
use Rattle.kr_script.specs.Tokens.{IsNext}
use Rattle.kr_script.proofs.Documents.{number_next, if_some}
use Rattle.kr_script.proofs.plain.read_number.Goals as goal

pub returns-in-Number : goal.returns-in-Number
returns-in-Number c =
    let text = c.in-Number.text.now in
    let rest = c.next.new.self in
    let first : c.args.reader.now ≡ token_of c.in_ok-token.token ∷ rest = grind arith in
    let is : c.args.reader.now ≡ Token.number text ∷ rest = grind (arith, first) in
    if_some c.whole_number.result (λ n. number_of text ≡ Some (unsigned n)) (λ n. (depth : ℕ) → IsNext depth c.args.reader.now (whole n) rest)
    (λ n e depth. subst (λ ts. IsNext depth ts (whole n) rest) (sym is) (number_next depth text rest n e))
    c.whole_number.ensures
