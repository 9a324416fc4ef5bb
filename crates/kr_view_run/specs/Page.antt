-- What the page of a run is.
use Rattle.std.specs.Prelude.{ℕ, List, [], ◌∷◌, ◌++◌, Bool, true, false, Some, ◌≡◌, codes, decimal, if◌then◌else◌}
use Rattle.std.specs.Str.{chars}
use Rattle.kr_view_scenes.specs.declared.act.Act.TheVariants as act
use Rattle.kr_view_scenes.specs.Escape.{escaped, unescaped}
use Rattle.kr_view_scenes.specs.Parts.{IsMadeOfParts}
use Rattle.kr_view_scenes.specs.Scenes.{NumberedStep}
use Rattle.kr_view_scenes.specs.Words.{op_words, reply_words, kind_word}
use Rattle.kr_view_run.specs.Signs.{serial_words}
use Rattle.kr_view_run.specs.declared.frame.TheConstants.{HEAD, STYLE, LOOK, BODY, NAME, BEHIND_NAME, RUN, STEP_IDS, BAND_END, END}

-- Which step of which transaction asks for an operation, whose words these are.
abbrev pub asked_words : ℕ → ℕ → List ℕ → List ℕ
asked_words number txn op = codes "Step " ++ (decimal number ++ (codes ": transaction " ++ (decimal txn ++ (codes ", " ++ op))))

-- What a purge is told to have done, and the class of its band.
abbrev pub purge_words : Bool → List ℕ
purge_words true = codes "purged"
purge_words false = codes "kept"

abbrev pub purge_kind : Bool → List ℕ
purge_kind true = codes "granted"
purge_kind false = codes "refused"

-- The head of the band of a step: its number, its transaction, what it does, and the reply, whose kind is the band's class; of a purge its number, the key, and whether it was purged. Its id is the number behind a text.
abbrev pub band_head : List ℕ → NumberedStep → List ℕ
band_head ids (n, act.Purge k purged) =
    codes "<section id=\"" ++ ids ++ decimal n ++ codes "\" class=\"" ++ purge_kind purged ++ codes "\">\n<h3><span>Step " ++ decimal n
    ++ codes ": purge " ++ decimal k ++ codes "</span> <span class=\"reply\">" ++ purge_words purged ++ codes "</span></h3>\n"
band_head ids (n, act.Attempt e r) =
    codes "<section id=\"" ++ ids ++ decimal n ++ codes "\" class=\"" ++ kind_word r ++ codes "\">\n<h3><span>Step " ++ decimal n
    ++ codes ": transaction " ++ decimal e.txn ++ codes ", " ++ op_words e.op
    ++ codes "</span> <span class=\"reply\">" ++ reply_words r ++ codes "</span></h3>\n"

-- The band of a step: its head, and what is told of the step.
abbrev pub band_of : List ℕ → NumberedStep → List ℕ → List ℕ
band_of ids step telling = band_head ids step ++ telling ++ BAND_END.now

-- Bands of these steps, one for each and in their order. What they tell behind their heads is made of parts: marks, of which none begins a band, numbers and escaped texts.
abbrev pub AreBands : List ℕ → List NumberedStep → List ℕ → Type 0
AreBands ids [] bytes = bytes ≡ []
AreBands ids (step ∷ steps) bytes =
    (telling more : List ℕ) × (IsMadeOfParts telling × (AreBands ids steps more × (bytes ≡ band_of ids step telling ++ more)))

-- The beginning of a page: its title, the look of all pages and its own, and its heading. The title and the heading say of what kind it is, and have its name.
abbrev pub page_head : List ℕ → List ℕ → List ℕ → List ℕ
page_head kind look name =
    HEAD.now ++ kind ++ name ++ STYLE.now ++ LOOK.now ++ look ++ BODY.now ++ kind ++ NAME.now ++ name ++ BEHIND_NAME.now

-- The page of a run with a name in its title and its heading, then the first words of the verdict, then what is told before the bands, the bands, and what is told behind them.
abbrev pub page_of : List ℕ → Bool → List ℕ → List ℕ → List ℕ → List ℕ
page_of name serial before bands behind =
    page_head RUN.now [] name ++ serial_words serial ++ before ++ bands ++ behind ++ END.now

-- A whole page whose name is this one, escaped, and reads as it; whose verdict is this; and that has a band of each of these steps, in their order, and no other. All else that it tells is made of parts.
abbrev pub IsPage : List ℕ → List NumberedStep → Bool → List ℕ → Type 0
IsPage table steps serial page =
    (before bands behind : List ℕ) × ((unescaped (chars (escaped table)) ≡ Some (chars table)) × (IsMadeOfParts before × (AreBands STEP_IDS.now steps bands
    × (IsMadeOfParts behind × (page ≡ page_of (escaped table) serial before bands behind)))))
