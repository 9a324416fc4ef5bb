-- What is known can be had twice, once in the note.
use Rattle.std.proofs.Common.{◌≡◌, ℕ, List, [], ◌∷◌, refl}
use mir.Syntax.{a_type, named}
use mir.Val.{Val, vptr, vunit}
use mir.MapTy.{inst_fn}
use base.Logic.{SProp, emp, apply∗, all, all_e}
use base.Fml.{Lft, Share, Fml, ftrue, fsep, flft, fhide}
use types.Logic.{sem}
use types.Kit.{‵, raw, ◌⊛◌, later, ◌$◌, ◌∵◌, !, qed, by, move, keep, drop, split, fsplit, fjoin, use1, use2, await, rewrite, feq_i}
use types.Run.{of_opd, unit_lit, returns, enter}
use types.ByLocal.{alloc_all, pass_all, free_all, look_at, sets}
use contract.Monad.{fact, fact_i}
use contract.BorrowLft.{◌⊑◌}
use contract.Running.{tables}
use denote.Exit.{yes}
use denote.RattleType.{RattleType, owns}
use denote.Signature.{types_at, plain}
use denote.Builtin.{RefOf}
use denote.Ref.{mut_vals, mut_Tells, shr_vals, shr_Tells}
use denote.Memory.{hidden_shr}
use denote.Opens.{unhide}
use denote.Steps.{nothing, heard}
use denote.Param.{param, layouts}
use denote.Struct.Lending.{lent_out}
use denote.Triple.Walked.{Stays, stay_dropped, stay_ref, walk_of, Goes-dropped, Goes-ref}
use Rattle.std.specs.contracts.marker.PhantomData as marker
use Rattle.std.proofs.raw_atomic.Walks.{proved}
use Rattle.once_cell.specs.Once.{noted}
use Rattle.once_cell.proofs.Notes as notes
use Rattle.once_cell.proofs.Notes.{Note}
use Rattle.kr_records.specs.contracts.known.Known as Known
use Rattle.kr_records.proofs.Tokens.{Token, ends}
use Rattle.kr_records.specs.contracts.known.Known.inform.{ended, clauses}
use Rattle.kr_records.specs.contracts.known.Known.inform.Key.{name as #self}
use Rattle.kr_records.proofs.known.Known.inform.Statement.{statement}
use Rattle.kr_records.proofs.known.Known.inform.Code as code

pub inform_spec : {M : Type 1} → statement M
inform_spec 𝓤 𝓛 𝓜 𝓡 wired T L =
    let H = 𝓛.H in let 𝓣 = tables 𝓤 H 𝓜 𝓡 𝓡.env in let R : RattleType = param 0 T in let En = ended T in
    let inst = layouts (a_type ∷ []) (T, tt) in let fn = inst_fn inst code.function in let c = clauses T 𝓛 𝓜.mem 𝓡.returns in
    let hs : Stays En.signature.params En.kept = (stay_ref (0 ∷ []) tt (plain (λ _. Note 𝓛 R)), (stay_dropped (RefOf (1 ∷ []) tt (plain (λ _. Known.the_row R)) (λ _. tt)) yes, tt)) in
    proved 𝓛 En hs c 𝓜 𝓡 (Goes-ref 𝓛 3 0 tt (plain (λ _. Note 𝓛 R)), (Goes-dropped 𝓛 3 (RefOf (1 ∷ []) tt (plain (λ _. Known.the_row R)) (λ _. tt)) yes (λ κs x f. refl), tt)) (#self inst) fn (code.unfolded 𝓤 H 𝓜 𝓡 wired (T, tt))
    (λ κs. (mut_vals, (shr_vals, tt))) (λ κs. (mut_Tells (named 0) κs.0 (Note 𝓛 R), (shr_Tells (named 1) κs.1.0 (Known.the_row R), tt))) (λ κs qs bounds a gh are.
    let n = a.0.now in let k = a.1.0.now in let b₀ : ℕ = a.0.ref_ptr.0 in let o₀ : ℕ = a.0.ref_ptr.1 in let ν₀ : ℕ = a.0.ghost_name in let κ' : Lft = κs.0 in let q' : Share = qs.0 in
    let y : (walk_of 𝓛 En hs c).Ghost = ((κs, qs, bounds, a, (vptr b₀ o₀ ∷ [], (vptr a.1.0.ref_ptr.0 a.1.0.ref_ptr.1 ∷ [], tt))), gh) in let Post : Val → SProp 𝓤 = (walk_of 𝓛 En hs c).post y in
    let toks : Fml = fsep (flft κs.0 qs.0) (fsep (flft κs.1.0 qs.1.0) (fsep (flft κs.1.1.0 qs.1.1.0) ftrue)) in
    let m : (Note 𝓛 R).Denot = record { marker = n.marker; cell = n.cell; known = k.known } in let Shuts = notes.Shuts 𝓛 R κ' q' b₀ o₀ ν₀ in let Told : Type 0 = (n.cell ≡ n.cell) × (k.known ≡ k.known) in
    qed 𝓛 ((‵ toks ⊛ ‵ (owns (types_at En.signature.params κs) a y.0.4)) ∷ raw (fact 𝓤 (κs.1.1.0 ⊑ T.lives)) ∷ raw (fact 𝓤 (k.cell ≡ n.cell)) ∷ []) ∵ move ! (2 ∷ []) $ heard ! (k.cell ≡ n.cell) (λ same. keep ! (0 ∷ []) $ split ! $
    fsplit ! $ move ! (1 ∷ []) $ fsplit ! $ move ! (3 ∷ []) $ fsplit ! $ fsplit ! $ move ! (2 ∷ []) $ fsplit ! $ fsplit ! $ keep ! (1 ∷ 4 ∷ 7 ∷ 5 ∷ 6 ∷ []) $
    enter ! 𝓣.C 𝓣.Λ fn (vptr b₀ o₀ ∷ vptr a.1.0.ref_ptr.0 a.1.0.ref_ptr.1 ∷ []) Post $ alloc_all ! (λ l. pass_all ! refl ((tt, tt), ((tt, tt), tt)) $
    use1 𝓛 (‵ (hidden_shr (Token R) κs.1.0 (record {}, tt) a.1.0.ref_ptr.0 a.1.0.ref_ptr.1) ⊛ ‵ (fhide (noted R k.cell k.known))) (lent_out 𝓛 (Known.struct R) (Known.the_codes T.Denot R.coded (marker.the_row R).coded) (Known.the_heap R) (Known.the_lent R) κs.1.0 k a.1.0.ref_ptr.0 a.1.0.ref_ptr.1) $ split ! $ drop ! $ unhide ! $ rewrite ! 0 (λ (j : ℕ). ‵ (noted R j k.known)) same refl $ move ! (1 ∷ 2 ∷ []) $
    use2 𝓛 (later (‵ (noted R n.cell n.known) ⊛ raw (all 𝓤 Shuts))) (notes.note_opens 𝓛 R κ' q' b₀ o₀ ν₀ n) $ await ! tt $ split ! $ drop ! $ use1 𝓛 (raw (Shuts m)) (all_e 𝓤 Shuts m) $ move ! (1 ∷ 0 ∷ []) $ use2 𝓛 (later (‵ (notes.lent 𝓛 R κ' q' b₀ o₀ ν₀ m) ⊛ ‵ (flft κ' q'))) (apply∗ 𝓤 (sem 𝓛 (noted R n.cell k.known)) _) $ await ! tt $ split ! $
    feq_i ! (List Val) (vptr b₀ o₀ ∷ []) (vptr b₀ o₀ ∷ []) refl $ fjoin ! $ nothing ! $ nothing ! $ fjoin ! $ move ! (1 ∷ 0 ∷ []) $ fjoin ! $ move ! (2 ∷ 3 ∷ []) $ fjoin ! $ move ! (2 ∷ 0 ∷ []) $ fjoin ! $
    sets ! (of_opd ! (unit_lit !)) refl (tt, tt) $ feq_i ! (List Val) (vunit ∷ []) (vunit ∷ []) refl $
    returns ! (look_at ! 0 refl) $ free_all ! refl $ keep ! (1 ∷ 2 ∷ 0 ∷ []) $ by ! (ends 𝓛 En hs c y vunit tt (m, (tt, tt)) (tt, (tt, tt)) (fact_i 𝓤 Told (emp 𝓤) (refl, refl))))))
