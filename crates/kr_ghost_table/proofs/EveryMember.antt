-- What holds of each member of a table: of what is put there, and of what is found.
use Rattle.std.proofs.Common.{◌≡◌, ℕ, List, Option, Some, Ordering, Less, Equal, Greater, nat_cmp, is_eq, refl, sym, ap, subst, ◌∙◌}
use Rattle.std.specs.Prelude.{IfSome}
use Rattle.std.specs.Ordering.{match_ordering}
use Rattle.std.specs.Cmp.Lexicographic.{slice_cmp}
use Rattle.std.proofs.lemmas.Map.Text.{is_eq-slice_cmp}
use Rattle.std.proofs.lemmas.Slice.Eq.{bytes_eq-Decides}
use Rattle.toml.specs.Data.{Data, string, integer, float, boolean, datetime, array, table, Members, no_members, member, get, get_member}
use Rattle.kr_table.specs.Members.{members_of}
use Rattle.kr_table.specs.Writing.{put}

-- P holds of each member
abbrev pub EachMember : (List ℕ → Data → Type 0) → Members → Type 0
EachMember P no_members = Unit {0}
EachMember P (member k d ms) = P k d × EachMember P ms

same_name : (k l : List ℕ) → slice_cmp nat_cmp k l ≡ Equal → k ≡ l
same_name k l e = (bytes_eq-Decides k l).0 (sym (is_eq-slice_cmp k l) ∙ ap is_eq e)

put_at : (P : List ℕ → Data → Type 0) (k l : List ℕ) (d e : Data) (ms : Members) (o : Ordering) → slice_cmp nat_cmp k l ≡ o → P k d → P l e → EachMember P ms → EachMember P (put k d ms)
    → EachMember P (match_ordering o (member k d (member l e ms)) (member l d ms) (member l e (put k d ms)))
put_at P k l d e ms Less is one here rest more = (one, (here, rest))
put_at P k l d e ms Equal is one here rest more = (subst (λ n. P n d) (same_name k l is) one, rest)
put_at P k l d e ms Greater is one here rest more = (here, more)

-- of a member that is put there, and so of each
pub each_put : (P : List ℕ → Data → Type 0) (k : List ℕ) (d : Data) (ms : Members) → P k d → EachMember P ms → EachMember P (put k d ms)
each_put P k d no_members one each = (one, tt)
each_put P k d (member l e ms) one each = put_at P k l d e ms (slice_cmp nat_cmp k l) refl one each.0 each.1 (each_put P k d ms one each.1)

found_at : (P : List ℕ → Data → Type 0) (k l : List ℕ) (d : Data) (rest : Option Data) (o : Ordering) → slice_cmp nat_cmp k l ≡ o → P l d → IfSome rest (P k) → IfSome (match_ordering o rest (Some d) rest) (P k)
found_at P k l d rest Less is here more = more
found_at P k l d rest Equal is here more = subst (λ n. P n d) (sym (same_name k l is)) here
found_at P k l d rest Greater is here more = more

-- of what is found at a name
pub found : (P : List ℕ → Data → Type 0) (k : List ℕ) (ms : Members) → EachMember P ms → IfSome (get_member k ms) (P k)
found P k no_members each = tt
found P k (member l d ms) each = found_at P k l d (get_member k ms) (slice_cmp nat_cmp k l) refl each.0 (found P k ms each.1)

pub found_in : (P : List ℕ → Data → Type 0) (k : List ℕ) (d : Data) → EachMember P (members_of d) → IfSome (get k d) (P k)
found_in P k (table ms) each = found P k ms each
found_in P k (string s) each = tt
found_in P k (integer z) each = tt
found_in P k (float x) each = tt
found_in P k (boolean b) each = tt
found_in P k (datetime t) each = tt
found_in P k (array ds) each = tt
