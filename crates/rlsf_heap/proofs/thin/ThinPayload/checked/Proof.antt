-- Shows that `checked` finds the entry of the payload's ticket. Assumes `Logic`.
use Rattle.std.proofs.Common.{◌≡◌, ◌≢◌, ℕ, suc, ◌^◌, ◌<◌, List, [], ◌∷◌, length, refl, sym}
use mir.Syntax.{named}
use mir.Val.{Val}
use base.Fml.{ftrue, flft, fsep}
use base.Logic.{id⊢}
use contract.Monad.{fact}
use contract.Running.{tables}
use types.Kit.{‵, raw, ◌⊛◌, some, given, learn, ◌$◌, ◌∵◌, !, qed, move, keep, use0, use1, use2, split, join, pick, rewrite, suffices, frame, fsplit, fsplit3, fjoin, fjoin3}
use types.Kit.{fpack, done}
use types.Run.{of_opd, returns, enter}
use types.ByLocal.{alloc_all, pass_all, free_all, look_at, get, sets}
use denote.RattleType.{owns}
use denote.Ref.{mut_vals, mut_Tells}
use denote.Signature.{plain, types_at}
use denote.Steps.{nothing, heard, opens, closes}
use denote.Triple.Walked.{Stays, stay_ref, stay_dropped, walk_of, Goes-ref, ends_at}
use Rattle.core.proofs.alloc.Calls.{Goes-blank}
use Rattle.core.proofs.mem.Facts.{says_three}
use Rattle.std.proofs.raw_atomic.Walks.{proved}
use Rattle.rlsf_base.specs.Ledger.{Extent, extent, ledger_owns, ticket_owns, IsIssued}
use Rattle.rlsf_base.specs.Piece.{piece_owns}
use Rattle.rlsf_base.specs.contracts.memory.ledger.Ledger as ledger
use Rattle.rlsf_heap.specs.Raw.{CanComeBack, bytes_of}
use Rattle.rlsf_heap.specs.Thin.{owns_at}
use Rattle.rlsf_heap.proofs.ThinValues.{shows_live, addr_val, addr_own, addr_made, addr_told, addr_typed, one_more_than, payload_Tells, payload_vals}
use Rattle.rlsf_heap.specs.contracts.thin.ThinPayload as thin
use Rattle.rlsf_heap.specs.contracts.thin.ThinPayload.checked as f
use Rattle.rlsf_heap.proofs.thin.ThinPayload.checked.Statement.{statement}
use Rattle.rlsf_heap.proofs.thin.ThinPayload.checked.Code as code

abbrev stayed : Stays f.ended.signature.params f.ended.kept
stayed = (stay_dropped (plain (λ _. thin.the_row)) f.ended.kept.0, (stay_ref (0 ∷ []) tt (plain (λ _. ledger.the_row)), tt))

pub checked_spec : {M : Type 1} → statement M
checked_spec 𝓤 𝓛 𝓜 𝓡 wired =
    let c = f.clauses 𝓛 𝓜.mem 𝓡.returns in let W = walk_of 𝓛 f.ended stayed c in let 𝓣 = tables 𝓤 𝓛.H 𝓜 𝓡 𝓡.env in
    proved 𝓛 f.ended stayed c 𝓜 𝓡
    (Goes-blank 𝓛 1 (plain (λ _. thin.the_row)) f.ended.kept.0 (λ κs x w. tt), (Goes-ref 𝓛 1 0 tt (plain (λ _. ledger.the_row)), tt))
    f.Key.name code.function (code.unfolded 𝓤 𝓛.H 𝓜 𝓡 wired)
    (λ κs. (payload_vals, (mut_vals, tt))) (λ κs. (payload_Tells, (mut_Tells (named 0) κs.0 ledger.the_row, tt))) (λ κs qs bounds a g are.
    let rb = a.1.0.ref_ptr.0 in let ro = a.1.0.ref_ptr.1 in let l = a.1.0.now in let d = a.0 in let p = d.of in
    let vss : List Val × (List Val × Unit {0}) = (addr_val d.addr ∷ [], (mut_vals a.1.0, tt)) in
    let v : Extent = extent p.start (length p.bytes) p.align in
    let fits : d.addr < 2 ^ 64 = addr_told d.addr (addr_val d.addr ∷ []) are.0.0 in
    let Asked : Type 0 = (p.start ≢ 0) × (p.identity.ledger ≡ l.name) in
    let y : W.Ghost = ((κs, qs, bounds, a, vss), g) in
    qed 𝓛 (((‵ (flft κs.0 qs.0) ⊛ ‵ ftrue) ⊛ ‵ (owns (types_at f.signature.params κs) a vss)) ∷ raw (fact 𝓤 Asked) ∷ []) ∵
    move ! (1 ∷ []) $ heard ! Asked
    (λ asked. split ! $ split ! $ move ! (2 ∷ []) $ fsplit ! $ move ! (1 ∷ []) $ fsplit ! $ move ! (2 ∷ []) $ fsplit ! $ keep ! (1 ∷ 2 ∷ 4 ∷ []) $
    -- [what the payload owns; the ledger; its token]
    let more = one_more_than p.start asked.0 in let k : ℕ = more.0 in let e : p.start ≡ suc k = more.1 in
    rewrite ! 0 (λ (n : ℕ). ‵ (owns_at n p)) e refl $
    use1 𝓛 (some (λ (x : ℕ × CanComeBack p). ‵ (piece_owns (bytes_of p)) ⊛ ‵ (ticket_owns p.identity.ledger x.0 v))) (id⊢ 𝓤 _) $
    pick ! (λ x. split ! $ move ! (2 ∷ 3 ∷ 1 ∷ 0 ∷ []) $
    -- [the ledger; its token; the ticket; the bytes]
    enter ! _ _ _ _ _ $ alloc_all ! (λ n. pass_all ! refl (addr_typed d.addr fits, ((tt, tt), tt)) $
    fsplit3 ! $ move ! (1 ∷ 2 ∷ 3 ∷ []) $ opens ! tt ledger.the_row rb ro (λ us. move ! (1 ∷ []) $ fsplit ! $ move ! (1 ∷ []) $
    -- [the entries; the mark; its cell; the open borrow; the ledger's first part; the ticket; the bytes; ..]
    move ! (7 ∷ []) $ rewrite ! 0 (λ (m : ℕ). ‵ (ticket_owns m x.0 v)) asked.1 refl $ move ! (1 ∷ 0 ∷ []) $
    use2 𝓛 (given (IsIssued l.entries x.0 v) (‵ (ledger_owns l.name 0 l.entries) ⊛ ‵ (ticket_owns l.name x.0 v))) (shows_live 𝓛 l.name l.entries x.0 v) $ learn ! (λ was.
    split ! $ move ! (2 ∷ 0 ∷ []) $ fjoin ! $ move ! (2 ∷ 0 ∷ 3 ∷ 4 ∷ 5 ∷ []) $ closes ! tt ledger.the_row l us rb ro $
    -- [the ledger's last value; its borrow; its token; the ticket; its first part; the bytes; ..]
    sets ! (of_opd ! (get ! refl)) refl (addr_typed d.addr fits) $
    returns ! (look_at ! 0 refl) $ free_all ! refl $ keep ! (3 ∷ 5 ∷ 0 ∷ 1 ∷ 2 ∷ 4 ∷ []) $
    rewrite ! 0 (λ (m : ℕ). ‵ (ticket_owns m x.0 v)) {x = p.identity.ledger} {y = l.name} (sym asked.1) refl $ move ! (1 ∷ 0 ∷ []) $ fjoin ! $
    fpack ! (ℕ × CanComeBack p) (λ u. fsep (piece_owns (bytes_of p)) (ticket_owns p.identity.ledger u.0 v)) x $
    rewrite ! 0 (λ (m : ℕ). ‵ (owns_at m p)) {x = p.start} {y = suc k} (sym e) refl $
    use0 𝓛 (‵ (addr_own d.addr (addr_val d.addr ∷ []))) (addr_made 𝓛 d.addr fits) $ fjoin ! $
    -- [the payload; the ledger's last value; its borrow; its token; its first part]
    move ! (1 ∷ 2 ∷ 3 ∷ 0 ∷ 4 ∷ []) $
    suffices ! _ (ends_at 𝓛 f.ended stayed c y (addr_val d.addr) d (tt, (l, tt)) (tt, (tt, tt))) $ says_three ! ((refl, refl), refl, (x.0, was)) $
    nothing ! $ move ! (3 ∷ 0 ∷ []) $ join ! $ frame ! $ move ! (3 ∷ 0 ∷ 1 ∷ []) $ fjoin3 ! $ nothing ! $ move ! (1 ∷ 0 ∷ []) $ fjoin ! $ nothing ! $ fjoin ! $
    done !))))))
