use Rattle.std.proofs.Common.{◌≡◌, ◌∷◌, ℕ, codes, refl, sym, subst, arith}
use Rattle.std.proofs.lemmas.Slice.Eq.{bytes_eq-Decides}
use Rattle.json.specs.Token.{Token}
use Rattle.json.specs.Reads.{token_of}
use Rattle.serde_json.specs.Data.{string}
use Rattle.kr_script.specs.Json.{whole}
use Rattle.kr_script.specs.Tokens.{IsNext}
use Rattle.kr_script.proofs.Documents.{number_next, string_next}
use Rattle.kr_script.proofs.ghost_plain.read_values.Goals as goal

pub returns-in_ok-event-in-Number-clause-next : goal.returns-in_ok-event-in-Number-clause-next
returns-in_ok-event-in-Number-clause-next c =
    let text = c.in-Number.text.now in
    let rest = c.next.new.self in
    let event = c.in_ok-event-in-Number.event in
    let first : c.args.reader.now ≡ token_of c.in_ok-token.token ∷ rest = grind arith in
    let is : c.args.reader.now ≡ Token.number text ∷ rest = grind (arith, first) in
    let txn = c.in_ok-txn-in-Number.txn in
    let number : IsNext 124 c.args.reader.now (whole txn) rest = subst (λ ts. IsNext 124 ts (whole txn) rest) (sym is) (number_next 124 text rest txn c.in_ok-txn-in-Number.ensures) in (
      rest,
      subst (λ (n : ℕ). IsNext 124 c.args.reader.now (whole n) rest) (sym c.in_ok-event-in-Number.ensures.txn) number,
      c.in_ok-event-in-Number.ensures.next,
    )

pub returns-in_ok-key-in-String-clause-next : goal.returns-in_ok-key-in-String-clause-next
returns-in_ok-key-in-String-clause-next c =
    let word = c.in-String.word.now in
    let rest = c.next.new.self in
    let first : c.args.reader.now ≡ token_of c.in_ok-token.token ∷ rest = grind arith in
    let is : c.args.reader.now ≡ Token.string word ∷ rest = grind (arith, first) in
    let purge : word ≡ codes "purge" = grind (arith, (bytes_eq-Decides word (codes "purge")).0) in (
      rest,
      subst (λ w. IsNext 124 c.args.reader.now (string w) rest) purge (subst (λ ts. IsNext 124 ts (string word) rest) (sym is) (string_next 124 word rest)),
      (c.read_number.new.reader, c.in_ok-key-in-String.ensures 124, refl),
    )
