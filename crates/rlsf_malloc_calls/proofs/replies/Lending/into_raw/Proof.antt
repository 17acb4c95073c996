-- `into_raw` of bytes that are the caller's again passes them to it.
use Rattle.rlsf_malloc_calls.proofs.Walking.{List, [], ◌∷◌, refl, w64, proved, id⊢, ftrue, Val, vint, tables, ‵, ◌⊛◌, some, ◌$◌, ◌∵◌, ! }
use Rattle.rlsf_malloc_calls.proofs.Walking.{qed, done, keep, drop, use1, split, join, pick, rewrite, suffices, group, enter, of_opd, stop, no_more}
use Rattle.rlsf_malloc_calls.proofs.Walking.{and_then, returns, alloc_all, pass_all, free_all, look_at, get, sets, lands_as, usize, Is, shows, plain, nothing, owned, peeks}
use Rattle.rlsf_malloc_calls.proofs.Walking.{Stays, walk_of, stay_dropped, ends_at, framed, uint_Makes, uint_Lawful}
use base.Fml.{feq}
use denote.RattleType.{Valss}
use denote.Triple.Walked.{says}
use types.Kit.{frame}
use types.ByLocal.{get_in}
use types.Part.{whole, sub}
use types.Run.{fld}
use Rattle.core.proofs.alloc.Calls.{Goes-blank}
use Rattle.rlsf_heap.specs.Loans.{owns_loan}
use Rattle.rlsf_heap.specs.contracts.loan.Loan as thin
use Rattle.rlsf_heap.proofs.loan.Loan.TheLaws as thin_laws
use Rattle.rlsf_heap.proofs.loan.Loan.into_raw.Met.{met}
use Rattle.rlsf_malloc_calls.proofs.PassedNumbers.{passes_number}
use Rattle.rlsf_malloc_calls.specs.contracts.replies.Lending as reply
use Rattle.rlsf_malloc_calls.proofs.replies.Lending.TheLaws as reply_laws
use Rattle.rlsf_malloc_calls.specs.contracts.replies.Lending.into_raw as f
use Rattle.rlsf_malloc_calls.proofs.replies.Lending.into_raw.Statement.{statement}
use Rattle.rlsf_malloc_calls.proofs.replies.Lending.into_raw.Code as code

abbrev stayed : Stays f.ended.signature.params f.ended.kept
stayed = (stay_dropped (plain (λ _. reply.the_row)) f.ended.kept.0, tt)

pub into_raw_spec : {M : Type 1} → statement M
into_raw_spec 𝓤 𝓛 𝓜 𝓡 wired =
    let c = f.clauses 𝓛 𝓜.mem 𝓡.returns in let W = walk_of 𝓛 f.ended stayed c in let Q = thin.the_row in let Z = reply.the_row in
    proved 𝓛 f.ended stayed c 𝓜 𝓡 (Goes-blank 𝓛 0 (plain (λ _. reply.the_row)) f.ended.kept.0 (λ κs x w. tt), tt)
    f.Key.name code.function (code.unfolded 𝓤 𝓛.H 𝓜 𝓡 wired)
    (λ κs. ((λ r. reply_laws.lowers.lowered r ∷ []), tt)) (λ κs. (reply_laws.lowers.val_is, tt)) (λ κs qs bounds a g are.
    let r = a.0 in let v = reply_laws.lowers.lowered r in let q = r.loan in let vq = thin_laws.lowers.lowered q in
    let y : W.Ghost = ((κs, qs, bounds, a, (v ∷ [], tt)), g) in
    qed 𝓛 ((‵ ftrue ⊛ (‵ (Z.own_val r (v ∷ [])) ⊛ ‵ ftrue)) ∷ ‵ ftrue ∷ []) ∵ split ! $ drop ! $ split ! $
    peeks ! Z (Is Z) (shows 𝓛 Z) r (v ∷ []) (λ is.
    use1 𝓛 (some (λ (us : Valss (usize ∷ Q ∷ [])). ‵ (feq (List Val) (v ∷ []) _) ⊛ (‵ (usize.own_val r.number us.0) ⊛ (‵ (Q.own_val q us.1.0) ⊛ ‵ ftrue))))
    (id⊢ 𝓤 _) $
    pick ! (λ us. split ! $ drop ! $ split ! $
    peeks ! usize (Is usize) (shows 𝓛 usize) r.number us.0 (λ is_n. drop ! $ split ! $
    peeks ! Q (Is Q) (shows 𝓛 Q) q us.1.0 (λ is_us. rewrite ! 0 (λ (vs : List Val). ‵ (Q.own_val q vs)) (thin_laws.lowers.val_is q us.1.0 is_us) refl $
    peeks ! Q (Is Q) (shows 𝓛 Q) q (vq ∷ []) (λ is_q. let typed = ((thin_laws.the_row_laws.lawful 𝓛).typed q _ is_q).0 in keep ! (0 ∷ []) $
    enter ! _ _ _ _ _ $ alloc_all ! (λ l. pass_all ! refl ((reply_laws.the_row_laws.lawful 𝓛).typed r _ is) $
    -- [the payload; the locals]
    sets ! (of_opd ! (get_in ! (fld ! refl (stop !)) (sub ! 0 refl (whole !)))) refl (tt, record { fits = is_n.1 }) $
    sets ! (of_opd ! (get_in ! (fld ! refl (stop !)) (sub ! 1 refl (whole !)))) refl typed $
    sets ! (of_opd ! (get ! refl)) refl typed $
    passes_number ! (framed 𝓤 𝓛.H 𝓜 (tables 𝓤 𝓛.H 𝓜 𝓡 𝓡.env)) Q (λ p. p.addr) (λ p. owns_loan p.of)
    (met 𝓤 𝓛 𝓜 𝓡 (code.calls-rlsf_heap::loan::Loan::into_raw 𝓡.env wired)) q vq (λ i. and_then ! (get ! refl) (no_more !))
    (λ u m is_m at. lands_as ! refl refl ((uint_Lawful 𝓛 w64).typed m _ is_m).0 $
    -- [what the payload owned; its address; the locals]
    sets ! (of_opd ! (get ! refl)) refl (tt, record { fits = is_n.1 }) $
    returns ! (look_at ! 0 refl) $ free_all ! refl $ keep ! (0 ∷ []) $
    suffices ! _ (ends_at 𝓛 f.ended stayed c y (vint w64 r.number) r.number ((tt, (tt, tt)), tt) (tt, tt)) $
    owned ! usize _ (uint_Makes 𝓛 w64) r.number _ (refl, is_n.1) $ nothing ! $ nothing ! $ join ! $ nothing ! $ group ! 3 $ frame ! $ says ! refl $ done !))))))))
