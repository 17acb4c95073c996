-- Shows that `issue` makes an entry and its ticket. Assumes `Logic`.
use Rattle.std.proofs.Common.{[], ◌∷◌, ◌++◌, length, true, refl, arith, w64}
use mir.Syntax.{named}
use base.Fml.{ftrue, flft}
use contract.Running.{tables}
use types.Kit.{‵, ◌⊛◌, later, await, ◌$◌, ◌∵◌, !, qed, move, keep, use0, use1, split, join, suffices, frame, fsplit, fsplit3, fjoin, fjoin3, done}
use types.Part.{agg}
use types.Run.{no_more, and_then, returns, enter}
use types.ByLocal.{alloc_all, pass_all, free_all, look_at, get, sets}
use denote.RattleType.{owns}
use denote.Ref.{mut_vals, mut_Tells}
use denote.Plain.{uint_vals, uint_Tells}
use denote.Signature.{plain, types_at}
use denote.Steps.{nothing, opens, closes}
use denote.Triple.Walked.{Stays, stay_ref, walk_of, Goes-ref, ends_at}
use Rattle.core.proofs.mem.Facts.{says_three}
use Rattle.std.proofs.raw_atomic.Walks.{proved}
use Rattle.rlsf_base.specs.Ledger.{Extent, entry_of, extent, ledger_owns, ticket_owns}
use Rattle.rlsf_base.proofs.RawBlock.Tickets.{issues}
use Rattle.rlsf_base.proofs.RawBlock.Values.{mark_val, mark_own, mark_made}
use Rattle.rlsf_base.proofs.RawBlock.Dropped.{others_dropped, others_go}
use Rattle.rlsf_base.specs.contracts.memory.ledger.Ledger as ledger
use Rattle.rlsf_base.specs.contracts.memory.ledger.Ticket as ticket
use Rattle.rlsf_base.specs.contracts.memory.ledger.Ledger.issue as f
use Rattle.rlsf_base.proofs.memory.ledger.Ledger.issue.Statement.{statement}
use Rattle.rlsf_base.proofs.memory.ledger.Ledger.issue.Code as code

pub issue_spec : {M : Type 1} → statement M
issue_spec 𝓤 𝓛 𝓜 𝓡 wired =
    let stayed : Stays f.ended.signature.params f.ended.kept = others_dropped f.ended.signature.params f.ended.kept (stay_ref (0 ∷ []) tt (plain (λ _. ledger.the_row))) in
    let c = f.clauses 𝓛 𝓜.mem 𝓡.returns in let W = walk_of 𝓛 f.ended stayed c in let 𝓣 = tables 𝓤 𝓛.H 𝓜 𝓡 𝓡.env in
    proved 𝓛 f.ended stayed c 𝓜 𝓡
    (others_go 𝓛 1 f.ended.signature.params f.ended.kept stayed.0 (Goes-ref 𝓛 1 0 tt (plain (λ _. ledger.the_row))) ((λ κs x w. tt), ((λ κs x w. tt), ((λ κs x w. tt), tt))))
    f.Key.name code.function (code.unfolded 𝓤 𝓛.H 𝓜 𝓡 wired)
    (λ κs. (mut_vals, (uint_vals w64, (uint_vals w64, (uint_vals w64, tt)))))
    (λ κs. (mut_Tells (named 0) κs.0 ledger.the_row, (uint_Tells w64, (uint_Tells w64, (uint_Tells w64, tt))))) (λ κs qs bounds a g are.
    let rb = a.0.ref_ptr.0 in let ro = a.0.ref_ptr.1 in let d = a.0.now in let v : Extent = extent a.1.0 a.1.1.0 a.1.1.1.0 in
    let y : W.Ghost = ((κs, qs, bounds, a, (mut_vals a.0, (uint_vals w64 a.1.0, (uint_vals w64 a.1.1.0, (uint_vals w64 a.1.1.1.0, tt))))), g) in
    let k = length d.entries in
    let new : (ledger.the_row).Denot = record { mark = d.mark; name = d.name; entries = d.entries ++ entry_of v true ∷ [] } in
    let out : (ticket.the_row).Denot = record { mark = record {}; name = d.name; key = k; addr = a.1.0; len = a.1.1.0; align = a.1.1.1.0 } in
    qed 𝓛 (((‵ (flft κs.0 qs.0) ⊛ ‵ ftrue) ⊛ ‵ (owns (types_at f.signature.params κs) a y.0.4)) ∷ ‵ ftrue ∷ []) ∵
    split ! $ split ! $ move ! (2 ∷ []) $ fsplit ! $ keep ! (0 ∷ 2 ∷ []) $
    enter ! _ _ _ _ _ $ alloc_all !
    (λ l. pass_all ! refl ((tt, tt), ((tt, record { fits = are.1.0.1 }), ((tt, record { fits = are.1.1.0.1 }), ((tt, record { fits = are.1.1.1.0.1 }), tt)))) $
    fsplit3 ! $ move ! (1 ∷ 2 ∷ 3 ∷ []) $ opens ! tt ledger.the_row rb ro (λ us. move ! (1 ∷ []) $ fsplit ! $ move ! (1 ∷ []) $
    -- [the entries; the mark; its cell; the open borrow; ..]
    use1 𝓛 (later (‵ (ledger_owns d.name 0 new.entries) ⊛ ‵ (ticket_owns d.name k v))) (issues 𝓛 d.name d.entries 0 k v (omega arith)) $ await ! tt $ split ! $
    move ! (2 ∷ 0 ∷ []) $ fjoin ! $ move ! (2 ∷ 0 ∷ 3 ∷ 4 ∷ 5 ∷ []) $ closes ! tt ledger.the_row new us rb ro $
    sets ! (agg ! (no_more !)) refl (tt, tt) $ sets ! (agg ! (and_then ! (get ! refl) (no_more !))) refl (tt, (tt, tt)) $
    returns ! (look_at ! 0 refl) $ free_all ! refl $ move ! (3 ∷ []) $
    use0 𝓛 (‵ (mark_own (mark_val ∷ []))) (mark_made 𝓛) $ fjoin ! $ move ! (1 ∷ 2 ∷ 3 ∷ 0 ∷ 4 ∷ []) $
    suffices ! _ (ends_at 𝓛 f.ended stayed c y mark_val out (new, (tt, (tt, (tt, tt)))) (tt, (tt, (tt, (tt, tt))))) $ says_three ! ((refl, refl, refl, refl), (refl, refl), refl)
    $
    nothing ! $ move ! (3 ∷ 0 ∷ []) $ join ! $ frame ! $ move ! (3 ∷ 0 ∷ 1 ∷ []) $ fjoin3 ! $ nothing ! $ nothing ! $ fjoin ! $ nothing ! $ fjoin ! $ nothing ! $ fjoin !
    $ move ! (1 ∷ 0 ∷ []) $ fjoin ! $ done !)))
