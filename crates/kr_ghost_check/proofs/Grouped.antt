-- The groups have all cases of a protocol, in order.
use Rattle.std.proofs.Common.{◌≡◌, List, [], ◌++◌, refl, ap, ◌∙◌, append_assoc}
use Rattle.std.specs.Prelude.{◌||◌, map, if◌then◌else◌}
use Rattle.std.specs.List.{flat_map}
use Rattle.kr_model.specs.declared.Origin.TheVariants as origin
use Rattle.kr_model.specs.Covers.{modes, modes_or_none}
use Rattle.kr_ghost.specs.declared.cases.Cover.TheVariants.{ReadKey, ReadGap, ChangedKey}
use Rattle.kr_ghost.specs.declared.cases.Rule.TheVariants as rule
use Rattle.kr_ghost.specs.Protocol.{GhostProtocol, Purges, Unlocked, Inherit, heir_of, inherits}
use Rattle.kr_ghost.specs.Covers.{serves, heirs, cases, cases_of, Case, case}
use Rattle.kr_ghost_check.specs.Groups.{group, groups}

abbrev heirs_by : GhostProtocol → Purges → List Case
heirs_by p x =
    flat_map (λ h. map (λ n. case rule.Heir ReadGap (origin.Conversion n h) (serves p ReadKey h || serves p ReadGap h) (p.table.convert n (heir_of x h))) (modes_or_none p.table)) (modes p.table)

heirs_listed : (p : GhostProtocol) (x : Purges) → heirs p x ≡ (if inherits x then heirs_by p x else [])
heirs_listed p Unlocked = refl
heirs_listed p (Inherit heir) = refl

one_by_one : {A : Type 0} (a b c d e f g h : List A) → (a ++ (b ++ (c ++ []))) ++ (d ++ (e ++ ((f ++ g) ++ h))) ≡ a ++ (b ++ (c ++ (d ++ (e ++ (f ++ (g ++ h))))))
one_by_one a b c d e f g h = simp append_assoc refl

module _ (p : GhostProtocol) where
  abbrev from_stops : List Case → List Case
  from_stops hs =
      cases_of p rule.ScanStop ++ (cases_of p rule.Insert ++ (cases_of p rule.Split ++ (cases_of p rule.Delete ++ (cases_of p rule.Update ++ (cases_of p rule.Revive ++ (hs
      ++ (cases_of p rule.InsertHit ++ (cases_of p rule.DeleteMiss ++ (cases_of p rule.UpdateMiss ++ [])))))))))

  -- The cases of all groups are those of all rules.
  pub cases_grouped : cases p ≡ flat_map (group p) groups
  cases_grouped =
      ap (λ hs. cases_of p rule.Conversion ++ (cases_of p rule.FetchHit ++ (cases_of p rule.FetchMiss ++ (cases_of p rule.ScanName ++ from_stops hs)))) (heirs_listed p p.purges)
      ∙ one_by_one (group p (rule.Conversion, ReadKey)) (group p (rule.Conversion, ReadGap)) (group p (rule.Conversion, ChangedKey)) (group p (rule.FetchHit, ReadKey)) (group p (rule.FetchMiss, ReadGap))
      (group p (rule.ScanName, ReadKey)) (group p (rule.ScanName, ReadGap)) (from_stops (group p (rule.Heir, ReadGap)))
