-- Shows that `redeem_in` takes a ticket, which agrees with an entry that is out. Assumes `Logic`.
use Rattle.std.proofs.Common.{◌≡◌, ℕ, List, [], ◌∷◌, set, false, refl, arith}
use mir.Syntax.{named}
use mir.Val.{Val, vunit}
use base.Fml.{ftrue, flft}
use contract.Monad.{fact}
use contract.Running.{tables}
use types.Kit.{‵, raw, ◌⊛◌, given, learn, ◌$◌, ◌∵◌, !, qed, move, keep, use2, split, join, rewrite, suffices, frame, fsplit, fsplit3, fjoin, fjoin3, feq_i, done}
use types.Run.{unit_lit, of_opd, returns, enter}
use types.ByLocal.{alloc_all, pass_all, free_all, look_at, sets}
use denote.RattleType.{owns}
use denote.Ref.{mut_vals, mut_Tells}
use denote.Signature.{plain, types_at}
use denote.Steps.{nothing, heard, opens, closes}
use denote.Triple.Walked.{Stays, stay_ref, stay_dropped, walk_of, Goes-ref, ends_at}
use Rattle.core.proofs.alloc.Calls.{Goes-blank}
use Rattle.core.proofs.mem.Facts.{says_three}
use Rattle.std.proofs.raw_atomic.Walks.{proved}
use Rattle.rlsf_base.specs.Ledger.{Extent, entry_of, extent, ledger_owns, ticket_owns, IsIssued}
use Rattle.rlsf_base.proofs.RawBlock.Tickets.{redeems}
use Rattle.rlsf_base.proofs.RawBlock.OwnerValues.{ticket_vals, ticket_Tells}
use Rattle.rlsf_base.proofs.RawBlock.Values.{mark_val}
use Rattle.rlsf_base.specs.contracts.memory.ledger.Ledger as ledger
use Rattle.rlsf_base.specs.contracts.memory.ledger.Ticket as ticket
use Rattle.rlsf_base.specs.contracts.memory.ledger.Ticket.redeem_in as f
use Rattle.rlsf_base.proofs.memory.ledger.Ticket.redeem_in.Statement.{statement}
use Rattle.rlsf_base.proofs.memory.ledger.Ticket.redeem_in.Code as code

pub redeem_in_spec : {M : Type 1} → statement M
redeem_in_spec 𝓤 𝓛 𝓜 𝓡 wired =
    let stayed : Stays f.ended.signature.params f.ended.kept = (stay_dropped _ f.ended.kept.0, (stay_ref (0 ∷ []) tt (plain (λ _. ledger.the_row)), tt)) in
    let c = f.clauses 𝓛 𝓜.mem 𝓡.returns in let W = walk_of 𝓛 f.ended stayed c in let 𝓣 = tables 𝓤 𝓛.H 𝓜 𝓡 𝓡.env in
    proved 𝓛 f.ended stayed c 𝓜 𝓡
    (Goes-blank 𝓛 1 (plain (λ _. ticket.the_row)) f.ended.kept.0 (λ κs x w. tt), (Goes-ref 𝓛 1 0 tt (plain (λ _. ledger.the_row)), tt))
    f.Key.name code.function (code.unfolded 𝓤 𝓛.H 𝓜 𝓡 wired)
    (λ κs. (ticket_vals, (mut_vals, tt))) (λ κs. (ticket_Tells, (mut_Tells (named 0) κs.0 ledger.the_row, tt))) (λ κs qs bounds a g are.
    let rb = a.1.0.ref_ptr.0 in let ro = a.1.0.ref_ptr.1 in let d = a.1.0.now in let t = a.0 in
    let v : Extent = extent t.addr t.len t.align in
    let Asked : Type 0 = t.name ≡ d.name in
    let y : W.Ghost = ((κs, qs, bounds, a, (mark_val ∷ [], (mut_vals a.1.0, tt))), g) in
    let new : (ledger.the_row).Denot = record { mark = d.mark; name = d.name; entries = set d.entries t.key (entry_of v false) } in
    qed 𝓛 (((‵ (flft κs.0 qs.0) ⊛ ‵ ftrue) ⊛ ‵ (owns (types_at f.signature.params κs) a y.0.4)) ∷ raw (fact 𝓤 Asked) ∷ []) ∵
    move ! (1 ∷ []) $ heard ! Asked
    (λ asked. split ! $ split ! $ move ! (2 ∷ []) $ fsplit ! $ move ! (1 ∷ []) $ fsplit ! $ move ! (2 ∷ []) $ fsplit ! $ keep ! (2 ∷ 4 ∷ 1 ∷ []) $
    -- [self; its token; the ticket]
    enter ! _ _ _ _ _ $ alloc_all ! (λ l. pass_all ! refl ((tt, (tt, tt)), ((tt, tt), tt)) $
    fsplit3 ! $ move ! (1 ∷ 2 ∷ 3 ∷ []) $ opens ! tt ledger.the_row rb ro (λ us. move ! (1 ∷ []) $ fsplit ! $ move ! (1 ∷ []) $
    -- [the entries; the mark; its cell; the open borrow; self's first part; the ticket; ..]
    move ! (7 ∷ []) $ rewrite ! 0 (λ (n : ℕ). ‵ (ticket_owns n t.key v)) asked refl $ move ! (1 ∷ 0 ∷ []) $
    use2 𝓛 (given (IsIssued d.entries t.key v) (‵ (ledger_owns d.name 0 new.entries))) (redeems 𝓛 d.name d.entries 0 t.key t.key v (omega arith)) $ learn ! (λ was.
    move ! (1 ∷ 0 ∷ []) $ fjoin ! $ move ! (1 ∷ 0 ∷ []) $ closes ! tt ledger.the_row new us rb ro $
    sets ! (of_opd ! (unit_lit !)) refl (tt, tt) $
    returns ! (look_at ! 0 refl) $ free_all ! refl $ keep ! (0 ∷ 1 ∷ 2 ∷ 3 ∷ []) $ feq_i ! (List Val) (vunit ∷ []) (vunit ∷ []) refl $ move !
    (1 ∷ 2 ∷ 3 ∷ 0 ∷ 4 ∷ []) $
    suffices ! _ (ends_at 𝓛 f.ended stayed c y vunit tt (tt, (new, tt)) (tt, (tt, tt))) $ says_three ! (was, refl, refl) $
    nothing ! $ move ! (3 ∷ 0 ∷ []) $ join ! $ frame ! $ move ! (3 ∷ 0 ∷ 1 ∷ []) $ fjoin3 ! $ nothing ! $ move ! (1 ∷ 0 ∷ []) $ fjoin ! $ nothing ! $ fjoin ! $
    done !)))))
