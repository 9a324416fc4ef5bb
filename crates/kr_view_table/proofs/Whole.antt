-- A page and a block, by what their parts are.
use Rattle.std.specs.Prelude.{◌≡◌, ℕ, List, ◌++◌, Bool, codes, decimal}
use Rattle.std.proofs.Common.{ap, ◌∙◌}
use Rattle.kr_view_scenes.specs.Escape.{escaped}
use Rattle.kr_view_table.specs.Page.{page_of}

-- a page of parts that are these
pub page_whole : (name n : List ℕ) (is s : Bool) (verdict v tables t causes b page : List ℕ) → name ≡ n → is ≡ s → verdict ≡ v → tables ≡ t → causes ≡ b → page ≡ page_of name is verdict tables causes → page ≡ page_of n s v t b
page_whole name n is s verdict v tables t causes b page same_name same_is same_verdict same_tables same_causes framed =
    framed ∙ (ap (λ (x : List ℕ). page_of x is verdict tables causes) same_name ∙ (ap (λ (x : Bool). page_of n x verdict tables causes) same_is ∙ (ap (λ (x : List ℕ). page_of n s x tables causes) same_verdict ∙ (ap (λ (x : List ℕ). page_of n s v x causes) same_tables ∙ ap (λ (x : List ℕ). page_of n s v t x) same_causes))))

-- a block, whose title was escaped
pub block_written : (n : ℕ) (shown title bytes told schedule text : List ℕ) → shown ≡ escaped bytes → bytes ≡ title → text ≡ codes "<section id=\"s" ++ (decimal n ++ (codes "\" class=\"cause\">\n<h3>" ++ (shown ++ (codes "</h3>\n" ++ (told ++ (schedule ++ codes "</section>\n"))))))
    → text ≡ codes "<section id=\"s" ++ (decimal n ++ (codes "\" class=\"cause\">\n<h3>" ++ (escaped title ++ (codes "</h3>\n" ++ (told ++ (schedule ++ codes "</section>\n"))))))
block_written n shown title bytes told schedule text is_shown is_title written =
    written ∙ ap (λ (x : List ℕ). codes "<section id=\"s" ++ (decimal n ++ (codes "\" class=\"cause\">\n<h3>" ++ (x ++ (codes "</h3>\n" ++ (told ++ (schedule ++ codes "</section>\n"))))))) (is_shown ∙ ap escaped is_title)
