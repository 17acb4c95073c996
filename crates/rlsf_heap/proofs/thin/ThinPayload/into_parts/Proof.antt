-- Shows that `into_parts` parts the bytes from the ticket. Assumes `Logic`.
use Rattle.std.proofs.Common.{◌≡◌, ◌≢◌, ℕ, suc, ◌^◌, ◌<◌, List, [], ◌∷◌, length, refl, ap}
use mir.Val.{Val}
use base.Logic.{id⊢}
use base.Fml.{ftrue}
use contract.Monad.{fact}
use contract.Running.{tables}
use types.Kit.{‵, raw, ◌⊛◌, some, later, ◌$◌, ◌∵◌, !, qed, move, keep, drop, use0, use1, use2, split, join, fsplit, fjoin, pick, await, rewrite, suffices, done}
use types.Part.{agg}
use types.Run.{of_opd, no_more, and_then, returns, enter}
use types.ByLocal.{alloc_all, pass_all, free_all, look_at, get, sets, lands_as}
use denote.RattleType.{RattleType, owns}
use denote.Laws.{Is, shows}
use denote.Signature.{types_at}
use denote.Steps.{nothing, heard, peeks, only}
use denote.Struct.Tuple.{Tuple}
use denote.Triple.Call.{calls_at}
use denote.Triple.Clauses.{lasts, Lasts}
use denote.Triple.Spec.{triple_of}
use denote.Triple.Walked.{walk_of, ends_at}
use denote.Triple.Table.{framed}
use Rattle.core.proofs.mem.Facts.{says_two}
use Rattle.std.proofs.raw_atomic.Walks.{proved}
use Rattle.rlsf_base.specs.Ledger.{Extent, extent, ticket_owns}
use Rattle.rlsf_base.specs.Piece.{piece_owns}
use Rattle.rlsf_base.proofs.RawBlock.Values.{mark_val, mark_own, mark_made, two_val, two_of}
use Rattle.rlsf_base.proofs.memory.ledger.Ticket.TheLaws.{lowers as ticket_lowers}
use Rattle.rlsf_base.specs.contracts.memory.ledger.Ticket as ticket_type
use Rattle.rlsf_base.specs.contracts.memory.ledger.Ticket.from_raw as g
use Rattle.rlsf_base.proofs.memory.ledger.Ticket.from_raw.Met.{met as raw_met}
use Rattle.rlsf_heap.specs.Raw.{CanComeBack, bytes_of}
use Rattle.rlsf_heap.specs.Thin.{owns_at}
use Rattle.rlsf_heap.proofs.ThinValues.{addr_val, addr_told, addr_typed, one_more_than, payload_Tells, payload_vals, dropped, all_go}
use Rattle.rlsf_base.specs.contracts.memory.thin_bytes.ThinBytes as bytes_type
use Rattle.rlsf_heap.specs.contracts.thin.ThinPayload.into_parts as f
use Rattle.rlsf_heap.proofs.thin.ThinPayload.into_parts.Statement.{statement}
use Rattle.rlsf_heap.proofs.thin.ThinPayload.into_parts.Code as code

pub into_parts_spec : {M : Type 1} → statement M
into_parts_spec 𝓤 𝓛 𝓜 𝓡 wired =
    let stayed = dropped f.ended.signature.params f.ended.kept in let c = f.clauses 𝓛 𝓜.mem 𝓡.returns in let W = walk_of 𝓛 f.ended stayed c in
    let B = bytes_type.the_row in let T = ticket_type.the_row in
    proved 𝓛 f.ended stayed c 𝓜 𝓡 (all_go 𝓛 0 f.ended.signature.params f.ended.kept ((λ κs x w. tt), tt)) f.Key.name code.function (code.unfolded 𝓤 𝓛.H 𝓜 𝓡 wired)
    (λ κs. (payload_vals, tt)) (λ κs. (payload_Tells, tt)) (λ κs qs bounds a g₀ are.
    let d = a.0 in
    let vss : List Val × Unit {0} = (addr_val d.addr ∷ [], tt) in
    let z : W.Ghost = ((κs, qs, bounds, a, vss), g₀) in
    let fits : d.addr < 2 ^ 64 = addr_told d.addr (addr_val d.addr ∷ []) are.0.0 in
    let p = d.of in let shown_is : Extent = extent p.start (length p.bytes) p.align in
    let Asked : Type 0 = p.start ≢ 0 in
    qed 𝓛 ((‵ ftrue ⊛ ‵ (owns (types_at f.signature.params κs) a vss)) ∷ raw (fact 𝓤 Asked) ∷ []) ∵
    move ! (1 ∷ []) $ heard ! Asked (λ asked. split ! $ drop ! $ fsplit ! $ fsplit ! $ keep ! (1 ∷ []) $
    let more = one_more_than p.start asked in let k : ℕ = more.0 in let e : p.start ≡ suc k = more.1 in
    rewrite ! 0 (λ (n : ℕ). ‵ (owns_at n p)) e refl $
    use1 𝓛 (some (λ (x : ℕ × CanComeBack p). ‵ (piece_owns (bytes_of p)) ⊛ ‵ (ticket_owns p.identity.ledger x.0 shown_is))) (id⊢ 𝓤 _) $
    pick ! (λ x. split ! $
    -- [the bytes; the ticket]
    enter ! _ _ _ _ _ $ alloc_all ! (λ l. pass_all ! refl (addr_typed d.addr fits, tt) $
    let G = triple_of 𝓛 g.signature (g.spec 𝓛 𝓜.mem 𝓡.returns) in
    let y : G.Ghost = ((tt, tt, tt, tt, tt), (p.identity.ledger, x.0, shown_is)) in
    move ! (1 ∷ []) $ nothing ! $ nothing ! $ join ! $ use2 𝓛 (raw (G.pre y)) (id⊢ 𝓤 _) $
    calls_at ! (framed 𝓤 𝓛.H 𝓜 (tables 𝓤 𝓛.H 𝓜 𝓡 𝓡.env)) G
    (raw_met 𝓤 𝓛 𝓜 𝓡 (code.calls-rlsf_base::memory::ledger::Ticket::from_raw 𝓡.env wired)) y
    (no_more !) (λ u.
    let Shown : T.Denot → Type 0 = λ t. (t.addr ≡ p.start) × (t.len ≡ length p.bytes) × (t.align ≡ p.align) in
    let Named : T.Denot → Type 0 = λ t. (t.name ≡ p.identity.ledger) × (t.key ≡ x.0) in
    use1 𝓛 (later (some (λ (t : T.Denot). (‵ ftrue ⊛ ‵ (T.own_val t (u ∷ []))) ⊛
    some (λ (ws : Lasts g.ended tt tt). ‵ (lasts g.ended y.0.0 y.0.3 ws) ⊛ (raw (fact 𝓤 (Shown t)) ⊛ raw (fact 𝓤 (Named t))))))) (id⊢ 𝓤 _) $
    await ! tt $ pick ! (λ t. split ! $ split ! $ drop ! $
    peeks ! T (Is T) (shows 𝓛 T) t (u ∷ [])
    (λ is. let told : u ∷ [] ≡ mark_val ∷ [] = ticket_lowers.val_is t (u ∷ []) is in lands_as ! (ap only told) refl (tt, (tt, tt)) $
    rewrite ! 0 (λ (us : List Val). ‵ (T.own_val t us)) told refl $
    move ! (1 ∷ []) $ pick ! (λ ws. split ! $ drop ! $ split ! $ heard ! (Shown t) (λ shown. heard ! (Named t) (λ named.
    -- [the ticket; the bytes; the locals]
    sets ! (agg ! (no_more !)) refl (tt, tt) $ sets ! (agg ! (and_then ! (get ! refl) (no_more !))) refl (tt, (tt, tt)) $ sets ! (of_opd ! (get ! refl)) refl (tt, (tt, tt)) $
    sets ! (agg ! (and_then ! (get ! refl) (and_then ! (get ! refl) (no_more !)))) refl (tt, ((tt, tt), ((tt, tt), tt))) $
    returns ! (look_at ! 0 refl) $ free_all ! refl $
    let bytes : B.Denot = record { mark = record {}; piece = bytes_of p } in
    let v : Val = two_val mark_val mark_val in let Two : RattleType = Tuple (B ∷ T ∷ []) in
    move ! (1 ∷ []) $ use0 𝓛 (‵ (mark_own (mark_val ∷ []))) (mark_made 𝓛) $ fjoin ! $
    use2 𝓛 (‵ (Two.own_val (bytes, t) (v ∷ []))) (two_of 𝓛 B T bytes t mark_val mark_val) $
    suffices ! _ (ends_at 𝓛 f.ended stayed c z v (bytes, t) (tt, tt) (tt, tt)) $
    says_two ! ((refl, x.1), (named.0, shown.0, shown.1, shown.2)) $
    nothing ! $ nothing ! $ join ! $ nothing ! $ done !))))))))))
