-- Shows that `into_raw` returns what the ticket owns. Assumes `Logic`.
use Rattle.std.proofs.Common.{List, [], ◌∷◌, refl}
use mir.Val.{Val, vunit}
use base.Fml.{ftrue}
use types.Kit.{‵, ◌⊛◌, ◌$◌, ◌∵◌, !, qed, keep, drop, split, join, group, fsplit, feq_i, suffices, done}
use types.Run.{unit_lit, of_opd, returns, enter}
use types.ByLocal.{alloc_all, pass_all, free_all, look_at, sets}
use denote.Steps.{nothing}
use denote.Triple.Walked.{Stays, walk_of, ends_at}
use Rattle.std.proofs.raw_atomic.Walks.{proved}
use Rattle.rlsf_base.proofs.RawBlock.Values.{mark_val}
use Rattle.rlsf_base.proofs.memory.ledger.Ticket.TheLaws.{lowers}
use Rattle.rlsf_base.proofs.RawBlock.Dropped.{all_dropped, all_go}
use Rattle.rlsf_base.specs.contracts.memory.ledger.Ticket as ticket
use Rattle.rlsf_base.specs.contracts.memory.ledger.Ticket.into_raw as f
use Rattle.rlsf_base.proofs.memory.ledger.Ticket.into_raw.Statement.{statement}
use Rattle.rlsf_base.proofs.memory.ledger.Ticket.into_raw.Code as code

pub into_raw_spec : {M : Type 1} → statement M
into_raw_spec 𝓤 𝓛 𝓜 𝓡 wired =
    let stayed : Stays f.ended.signature.params f.ended.kept = all_dropped f.ended.signature.params f.ended.kept in
    let c = f.clauses 𝓛 𝓜.mem 𝓡.returns in let W = walk_of 𝓛 f.ended stayed c in
    proved 𝓛 f.ended stayed c 𝓜 𝓡
    (all_go 𝓛 0 f.ended.signature.params f.ended.kept ((λ κs x w. tt), tt))
    f.Key.name code.function (code.unfolded 𝓤 𝓛.H 𝓜 𝓡 wired)
    (λ κs. ((λ t. mark_val ∷ []), tt)) (λ κs. (lowers.val_is, tt)) (λ κs qs bounds a g are.
    let y : W.Ghost = ((κs, qs, bounds, a, (mark_val ∷ [], tt)), g) in
    qed 𝓛 ((‵ ftrue ⊛ (‵ ((ticket.the_row).own_val a.0 (mark_val ∷ [])) ⊛ ‵ ftrue)) ∷ ‵ ftrue ∷ []) ∵
    split ! $ drop ! $ split ! $ fsplit ! $ keep ! (1 ∷ []) $
    enter ! _ _ _ _ _ $ alloc_all ! (λ l. pass_all ! refl ((tt, (tt, tt)), tt) $
    sets ! (of_opd ! (unit_lit !)) refl (tt, tt) $
    returns ! (look_at ! 0 refl) $ free_all ! refl $
    suffices ! _ (ends_at 𝓛 f.ended stayed c y vunit tt (tt, tt) (tt, tt)) $
    feq_i ! (List Val) (vunit ∷ []) (vunit ∷ []) refl $ nothing ! $ nothing ! $ join ! $ nothing ! $ group ! 3 $ done !))
