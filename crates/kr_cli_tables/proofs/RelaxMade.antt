-- What was made of a table.
use Rattle.std.proofs.Common.{◌≡◌, ◌==◌, ◌∙◌, ◌++◌, ◌↔◌, ℕ, Bool, IsTrue, List, ap, arith, length, not, refl, subst, sym, true, false}
use Rattle.std.specs.List.{Any}
use Rattle.kr_change.specs.declared.change.Change.{Change}
use Rattle.kr_relax_text.specs.declared.reasons.Reason.{Reason}
use Rattle.kr_relax_text.specs.Reasons.{AreReasons, IsRelaxing, changes_of_entry, reasons_words}
use Rattle.std.proofs.lemmas.Bool.Decides.{nat_tests}
use Rattle.kr_model.specs.Protocol.{Protocol}
use Rattle.kr_kinds.specs.Kinds.{IndexProtocol, table_of}
use Rattle.kr_table_copy.specs.declared.copying.Copy.{Copy}
use Rattle.kr_relax_core.specs.Relaxations.{AreRelaxations}
use Rattle.kr_relax_core.specs.Unused.{AreUnused}
use Rattle.kr_relax_core.specs.declared.relax.Relaxed.{Relaxed}
use Rattle.kr_relax_core.specs.declared.unused.Entry.{Entry}
use Rattle.kr_relax_text.specs.declared.scripts.Relaxation.{Relaxation}
use Rattle.kr_relax_text.specs.Scripts.{AreShown}
use Rattle.kr_relax_text.specs.Unused.{unused_words}
use Rattle.kr_relax_text.specs.Whole.{relaxed_text}
use Rattle.kr_cli_tables.specs.Relax.{ReadsAs, TellsReasons, TellsRelaxations, TellsTightest}
use Rattle.kr_cli_tables.specs.Tightest.{IsTightest}
use Rattle.kr_cli_tables.proofs.RelaxTaken.{tight_if_none}

-- the text of the tightest table tells it
pub tells_it : (p : IndexProtocol) (names : List (List ℕ)) (t : Copy) (tight : Bool) (text : List ℕ) → IsTightest p names t tight → ReadsAs text t → TellsTightest p names text tight
tells_it p names t tight text is reads = record { table = t; is_tightest = is; reads = reads }

-- a number that is 0
none_if : (n : ℕ) (b : Bool) → b ≡ (n == 0) → b ≡ true → n ≡ 0
none_if n b is holds = grind (arith, nat_tests, is, holds)

twice : (b : Bool) → not (not b) ≡ b
twice true = refl
twice false = refl

-- the text of reasons tells them
pub tells_reasons : (p : IndexProtocol) (t : Protocol) (names : List (List ℕ)) (entry text : List ℕ) (changes given : List Change) (list shown said : List Reason) (empty relaxes : Bool)
    → table_of p ≡ t → changes ≡ changes_of_entry p names entry → empty ≡ (length changes == 0) → empty ≡ false → given ≡ changes → AreReasons p given list → shown ≡ list
    → text ≡ reasons_words t names shown → said ≡ list → (IsTrue relaxes ↔ Any IsRelaxing said) → TellsReasons p names entry text (not relaxes)
tells_reasons p t names entry text changes given list shown said empty relaxes same is_changes is_empty some is_given are is_shown is_text is_said verdict = record {
  list = list;
  some = ap (λ (cs : List Change). length cs == 0) (sym is_changes) ∙ (sym is_empty ∙ some);
  are_reasons = subst (λ (cs : List Change). AreReasons p cs list) (is_given ∙ is_changes) are;
  is_text = subst (λ (x : Protocol). text ≡ reasons_words x names list) (sym same) (is_text ∙ ap (reasons_words t names) is_shown);
  verdict = subst (λ (b : Bool). IsTrue b ↔ Any IsRelaxing list) (sym (twice relaxes)) (subst (λ (l : List Reason). IsTrue relaxes ↔ Any IsRelaxing l) is_said verdict);
}

-- the text of relaxations and of unused entries tells them
pub tells_all : (p : IndexProtocol) (t : Protocol) (names : List (List ℕ)) (given found : List Relaxed) (written list : List Relaxation) (entries unused : List Entry) (first second text : List ℕ) (tight : Bool)
    → table_of p ≡ t → AreRelaxations p found → given ≡ found → AreShown p given list → written ≡ list → first ≡ relaxed_text t names written
    → AreUnused p unused → entries ≡ unused → second ≡ unused_words t names entries → text ≡ first ++ second → tight ≡ (length found == 0)
    → TellsRelaxations p names text tight
tells_all p t names given found written list entries unused first second text tight same are is_given shown is_written is_first are_unused is_unused is_second is_text verdict = record {
  found = found;
  list = list;
  unused = unused;
  are_relaxations = are;
  are_shown = subst (λ (cs : List Relaxed). AreShown p cs list) is_given shown;
  are_unused = are_unused;
  is_text =
      subst (λ (x : Protocol). text ≡ relaxed_text x names list ++ unused_words x names unused) (sym same)
      (is_text ∙ (ap (λ x. x ++ second) (is_first ∙ ap (relaxed_text t names) is_written) ∙ ap (λ x. relaxed_text t names list ++ x) (is_second ∙ ap (unused_words t names) is_unused)));
  verdict = verdict;
  is_tight = λ holds. tight_if_none p found (none_if (length found) tight verdict holds) are;
}
