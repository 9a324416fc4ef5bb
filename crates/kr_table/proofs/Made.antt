-- The parts that were made are those of the document.
use Rattle.std.proofs.Common.{◌≡◌, ℕ, Bool, List, map, String, Global, string_bytes, codes, subst, sym}
use Rattle.toml.specs.Data.{Data}
use Rattle.kr_table.specs.declared.table.Parts.{Parts}
use Rattle.kr_table.specs.Shown.{data_of}
use Rattle.kr_table.specs.Reading.{matrix_in, asked, asked_each, asked_update, clauses_of, table_of_parts}

made_at : (u : Bool) (p : Parts) (ns : List (List ℕ)) (b c r : Data) → p.modes ≡ matrix_in ns b c
    → p.fetch_hit ≡ asked ns (clauses_of r (codes "fetch-hit") (codes "current")) (codes "none")
    → p.fetch_miss ≡ asked ns (clauses_of r (codes "fetch-miss") (codes "next")) (codes "none")
    → p.scan_key ≡ asked ns (clauses_of r (codes "scan-key") (codes "current")) (codes "none")
    → p.scan_stop ≡ asked ns (clauses_of r (codes "scan-stop") (codes "next")) (codes "none")
    → p.insert_current.items ≡ asked_each ns (clauses_of r (codes "insert") (codes "current"))
    → p.insert_next.items ≡ asked_each ns (clauses_of r (codes "insert") (codes "next"))
    → p.delete_current.items ≡ asked_each ns (clauses_of r (codes "delete") (codes "current"))
    → p.delete_next.items ≡ asked_each ns (clauses_of r (codes "delete") (codes "next"))
    → p.update ≡ asked_update u ns r
    → data_of p ≡ table_of_parts u ns b c r
made_at u p ns b c r h1 h2 h3 h4 h5 h6 h7 h8 h9 h10 = rw (h1, h2, h3, h4, h5, h6, h7, h8, h9, h10)

-- what was made by the names as a slice is what the names give
pub made : (u : Bool) (p : Parts) (names xs : List (String Global)) (b c r : Data) → xs ≡ names
    → p.modes ≡ matrix_in (map string_bytes names) b c
    → p.fetch_hit ≡ asked (map string_bytes xs) (clauses_of r (codes "fetch-hit") (codes "current")) (codes "none")
    → p.fetch_miss ≡ asked (map string_bytes xs) (clauses_of r (codes "fetch-miss") (codes "next")) (codes "none")
    → p.scan_key ≡ asked (map string_bytes xs) (clauses_of r (codes "scan-key") (codes "current")) (codes "none")
    → p.scan_stop ≡ asked (map string_bytes xs) (clauses_of r (codes "scan-stop") (codes "next")) (codes "none")
    → p.insert_current.items ≡ asked_each (map string_bytes xs) (clauses_of r (codes "insert") (codes "current"))
    → p.insert_next.items ≡ asked_each (map string_bytes xs) (clauses_of r (codes "insert") (codes "next"))
    → p.delete_current.items ≡ asked_each (map string_bytes xs) (clauses_of r (codes "delete") (codes "current"))
    → p.delete_next.items ≡ asked_each (map string_bytes xs) (clauses_of r (codes "delete") (codes "next"))
    → p.update ≡ asked_update u (map string_bytes xs) r
    → data_of p ≡ table_of_parts u (map string_bytes names) b c r
made u p names xs b c r same m h2 h3 h4 h5 h6 h7 h8 h9 h10 =
    subst (λ l. data_of p ≡ table_of_parts u (map string_bytes l) b c r) same
    (made_at u p (map string_bytes xs) b c r (subst (λ l. p.modes ≡ matrix_in (map string_bytes l) b c) (sym same) m) h2 h3 h4 h5 h6 h7 h8 h9 h10)
