-- What is known of a page that was written, and of an ending without one.
use Rattle.std.specs.Prelude.{◌≡◌, ◌↔◌, ℕ, List, Bool, Option, Result, Ok, Err, IfOk, IfErr, OnOk, IsTrue, ◌⊎◌, String, string_bytes}
use Rattle.std.proofs.Common.{Global, subst, sym, ap, inl, inr}
use Rattle.std.specs.Io.KnownBytes.{Appends}
use Rattle.kr_model.specs.Protocol.{Protocol, IsLawful}
use Rattle.kr_model.specs.Safe.{IsSafe}
use Rattle.kr_script.specs.Script.{Script}
use Rattle.kr_view_scenes.specs.Scenes.{NumberedStep}
use Rattle.kr_view_run.specs.Page.{IsPage}
use Rattle.kr_cli.specs.declared.endings.Ending.{Ending}
use Rattle.kr_cli.specs.declared.endings.Ending.TheVariants.{NotUnderstood, Memory, Place, Output, Told}
use Rattle.kr_cli.specs.declared.tables.AnyTable.{AnyTable}
use Rattle.kr_cli.specs.Endings.{MemoryOrTold}
use Rattle.kr_cli.specs.Named.{NamesScript}
use Rattle.kr_cli.specs.Tables.{names_of, table_of}
use Rattle.kr_view_table.specs.Page.{IsTablePage}
use Rattle.kr_cli_tables.specs.ViewWords.{AskNoPage, IsAsked, words_of}
use Rattle.kr_cli_tables.specs.declared.pages.words.Asked.{Asked}
use Rattle.kr_cli.specs.declared.ghost_tables.AnyGhostTable.{AnyGhostTable}
use Rattle.kr_cli.specs.declared.named.Named.{Named}
use Rattle.kr_cli.specs.GhostLawful.{lawful_ghosts_of}
use Rattle.kr_cli.specs.NamedTables.{Names}
use Rattle.kr_cli.specs.GhostScripts.{IsSerialGhosts, NamesGhostScript}
use Rattle.kr_cli.specs.GhostTables.{ghosts_of}
use Rattle.kr_cli.specs.GhostTables as ghost
use Rattle.kr_ghost.specs.Protocol.{GhostProtocol}
use Rattle.kr_ghost_view_table.specs.Page.{IsGhostTablePage}
use Rattle.kr_script.specs.GhostScript.{GhostScript}
use Rattle.kr_cli_tables.specs.View.{Ends, EndsSo, IsSerialScript, Shows, ShowsAsked, ShowsGhostScript, ShowsGhostTable, ShowsNamed, ShowsPage, ShowsScript, ShowsTable, ShowsTableOf, ShowsUnder, TellsAsked, drawn_of_ghosts, drawn_of_script}

-- the page of a lawful table was written, with the verdict on it
pub table_shown : (r : Result Bool Ending) (t : AnyTable) (table : List ℕ) (old new : Option (List ℕ)) → IsLawful (table_of t) → IfOk r (λ safe. (page : List ℕ) × (IsTablePage (table_of t) (names_of t) table page × Appends old new page)) → IfOk r (λ safe. IsTrue safe ↔ IsSafe (table_of t)) → IfOk r (ShowsTableOf t table old new)
table_shown (Ok safe) t table old new lawful (page, (is_page, appends)) same = record { page = page; lawful = lawful; is_page = is_page; is_so = same; written = appends }
table_shown (Err e) t table old new lawful written same = tt

-- the same of a table with ghosts
pub ghost_table_shown : (r : Result Bool Ending) (t : AnyGhostTable) (table : List ℕ) (old new : Option (List ℕ)) → IfOk r (λ safe. (page : List ℕ) × (IsGhostTablePage (ghosts_of t) (ghost.names_of t) table page safe × Appends old new page)) → IfOk r (ShowsGhostTable t table old new)
ghost_table_shown (Ok safe) t table old new (page, (is_page, appends)) = record { page = page; lawful = lawful_ghosts_of t; is_page = is_page; written = appends }
ghost_table_shown (Err e) t table old new written = tt

-- the same of a table that a word names
pub named_shown : (may_give : List ℕ → Option (List ℕ) → Type 0) (r : Result Bool Ending) (t : Named) (table : List ℕ) (old new : Option (List ℕ)) → Names may_give table t → IfOk r (ShowsNamed t table old new) → IfOk r (ShowsTable may_give table old new)
named_shown may_give (Ok safe) t table old new names shows = (t, (names, shows))
named_shown may_give (Err e) t table old new names shows = tt

-- the page of a script's run under a lawful table was written, with the verdict on the run
pub run_shown : (may_give : List ℕ → Option (List ℕ) → Type 0) (r : Result Bool Ending) (t : AnyTable) (table script : List ℕ) (old new : Option (List ℕ)) (s : Script) → IsLawful (table_of t) → NamesScript may_give script s → IfOk r (λ serial. (page : List ℕ) × (IsPage table (drawn_of_script (table_of t) s) serial page × Appends old new page)) → IfOk r (λ serial. IsTrue serial ↔ IsSerialScript (table_of t) s) → IfOk r (ShowsScript may_give t table script old new)
run_shown may_give (Ok serial) t table script old new s lawful named (page, (is_page, appends)) same = (lawful, (s, (named, (page, (is_page, (appends, same))))))
run_shown may_give (Err e) t table script old new s lawful named written same = tt

-- the same under a table with ghosts
pub ghosts_shown : (may_give : List ℕ → Option (List ℕ) → Type 0) (r : Result Bool Ending) (t : AnyGhostTable) (table script : List ℕ) (old new : Option (List ℕ)) (s : GhostScript) → NamesGhostScript may_give script s → IfOk r (λ serial. (page : List ℕ) × (IsPage table (drawn_of_ghosts (ghosts_of t) s) serial page × Appends old new page)) → IfOk r (λ serial. IsTrue serial ↔ IsSerialGhosts (ghosts_of t) s) → IfOk r (ShowsGhostScript may_give t table script old new)
ghosts_shown may_give (Ok serial) t table script old new s named (page, (is_page, appends)) same = (lawful_ghosts_of t, (s, (named, (page, (is_page, (appends, same))))))
ghosts_shown may_give (Err e) t table script old new s named written same = tt

-- the same under a table that a word names
pub shown_under : (may_give : List ℕ → Option (List ℕ) → Type 0) (r : Result Bool Ending) (t : Named) (table script : List ℕ) (old new : Option (List ℕ)) → Names may_give table t → IfOk r (ShowsUnder may_give t table script old new) → IfOk r (Shows may_give table script old new)
shown_under may_give (Ok serial) t table script old new names shows = (t, (names, shows))
shown_under may_give (Err e) t table script old new names shows = tt

-- an ending that tells so tells what follows from it
pub ends_more : (Tells More : List ℕ → Type 0) (r : Result Bool Ending) → ((line : List ℕ) → Tells line → More line) → IfErr r (EndsSo Tells) → IfErr r (EndsSo More)
ends_more Tells More (Ok well) by ends = tt
ends_more Tells More (Err NotUnderstood) by ends = ends
ends_more Tells More (Err Memory) by ends = ends
ends_more Tells More (Err Place) by ends = ends
ends_more Tells More (Err Output) by ends = ends
ends_more Tells More (Err (Told line)) by ends = by (string_bytes line) ends

-- the page of what is asked was written
pub asked_shown : (may_give : List ℕ → Option (List ℕ) → Type 0) (words : List (List ℕ)) (r : Result Bool Ending) (a : Asked) (old new : Option (List ℕ)) → words ≡ words_of a → IsAsked a → IfOk r (ShowsPage may_give a old new) → IfOk r (ShowsAsked may_give words old new)
asked_shown may_give words (Ok well) a old new are asked shows = record { asked = a; words_are = are; is_asked = asked; shows = shows }
asked_shown may_give words (Err e) a old new are asked shows = tt

-- an ending of a page that isn't written tells of no word
pub page_fault : (Tells : List ℕ → Type 0) (r : Result Bool Ending) → IfErr r (λ e. (e ≡ Memory) ⊎ (e ≡ Output)) → IfErr r (EndsSo Tells)
page_fault Tells (Ok well) h = tt
page_fault Tells (Err e) (inl memory) = let P : Ending → Type 0 = λ x. EndsSo Tells x in subst P (sym memory) tt
page_fault Tells (Err e) (inr output) = let P : Ending → Type 0 = λ x. EndsSo Tells x in subst P (sym output) tt

-- words of no form
pub no_form : (may_give : List ℕ → Option (List ℕ) → Type 0) (words : List (List ℕ)) (e : Ending) → e ≡ NotUnderstood → AskNoPage words → Ends may_give words e
no_form may_give words e is isnt = let P : Ending → Type 0 = λ x. Ends may_give words x in subst P (sym is) isnt

-- what a line tells that is told of a word
pub word_fault : (Tells More : List ℕ → Type 0) (e : Ending) → ((line : List ℕ) → Tells line → More line) → MemoryOrTold e Tells → EndsSo More e
word_fault Tells More NotUnderstood by h = absurd h
word_fault Tells More Memory by h = tt
word_fault Tells More Place by h = absurd h
word_fault Tells More Output by h = absurd h
word_fault Tells More (Told line) by h = by (string_bytes line) h

-- why there is no page of what is asked
ends_at : (may_give : List ℕ → Option (List ℕ) → Type 0) (words : List (List ℕ)) (a : Asked) (e : Ending) → words ≡ words_of a → IsAsked a → EndsSo (TellsAsked may_give a) e → Ends may_give words e
ends_at may_give words a NotUnderstood are asked ends = absurd ends
ends_at may_give words a Memory are asked ends = tt
ends_at may_give words a Place are asked ends = absurd ends
ends_at may_give words a Output are asked ends = tt
ends_at may_give words a (Told line) are asked ends = (a, (are, (asked, ends)))

pub asked_ends : (may_give : List ℕ → Option (List ℕ) → Type 0) (words : List (List ℕ)) (r : Result Bool Ending) (a : Asked) → words ≡ words_of a → IsAsked a → IfErr r (EndsSo (TellsAsked may_give a)) → IfErr r (Ends may_give words)
asked_ends may_give words (Ok well) a are asked ends = tt
asked_ends may_give words (Err e) a are asked ends = ends_at may_give words a e are asked ends

-- a text that was written is a page where its bytes are
pub written : (bytes page table : List ℕ) (steps : List NumberedStep) (serial : Bool) (old new : Option (List ℕ)) → bytes ≡ page → IsPage table steps serial page → Appends old new bytes → (p : List ℕ) × (IsPage table steps serial p × Appends old new p)
written bytes page table steps serial old new same is_page appends =
    let P : List ℕ → Type 0 = λ bs. Appends old new bs in
    (page, (is_page, subst P same appends))

-- the same of the page of a table
pub table_written : (p : Protocol) (names : List (List ℕ)) (bytes page table : List ℕ) (old new : Option (List ℕ)) → bytes ≡ page → IsTablePage p names table page → Appends old new bytes → (text : List ℕ) × (IsTablePage p names table text × Appends old new text)
table_written p names bytes page table old new same is_page appends =
    let P : List ℕ → Type 0 = λ bs. Appends old new bs in
    (page, (is_page, subst P same appends))

-- the same of a table with ghosts
pub ghosts_written : (p : GhostProtocol) (names : List (List ℕ)) (bytes page table : List ℕ) (safe : Bool) (old new : Option (List ℕ)) → bytes ≡ page → IsGhostTablePage p names table page safe → Appends old new bytes → (text : List ℕ) × (IsGhostTablePage p names table text safe × Appends old new text)
ghosts_written p names bytes page table safe old new same is_page appends =
    let P : List ℕ → Type 0 = λ bs. Appends old new bs in
    (page, (is_page, subst P same appends))

-- nothing was added to what helps
pub unhelped : (r : Result Bool Ending) (old new : String Global) → OnOk r (new ≡ old) → OnOk r (string_bytes new ≡ string_bytes old)
unhelped (Ok well) old new same = ap (λ (h : String Global). string_bytes h) same
unhelped (Err e) old new same = tt
