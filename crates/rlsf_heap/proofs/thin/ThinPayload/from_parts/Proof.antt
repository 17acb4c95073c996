-- Shows that `from_parts` owns what the part and the ticket owned. Assumes `Logic`.
use Rattle.std.proofs.Common.{◌≡◌, ◌≢◌, ℕ, suc, List, [], ◌∷◌, ◌++◌, length, refl, sym, ap, ◌∙◌, w64}
use mir.Syntax.{Fn}
use mir.Val.{Val, vint}
use base.Logic.{SProp, id⊢}
use base.Fml.{ftrue, fsep}
use prog.Wp.{WpFn}
use contract.Monad.{fact}
use contract.Running.{tables}
use types.Kit.{‵, raw, ◌⊛◌, some, later, prop, ◌$◌, ◌∵◌, !, qed, done, move, drop, use0, use1, use2, split, join, keep, feq_l, fpack, fjoin, pick, await, rewrite}
use types.Kit.{regoal, suffices, fsplit}
use types.Part.{agg}
use types.Run.{enter, of_opd, no_more, and_then, returns}
use types.ByLocal.{alloc_all, pass_all, free_all, look_at, get, sets, lands_as}
use denote.Builtin.{unit}
use denote.Exit.{rest, yes}
use denote.Param.{layout}
use denote.RattleType.{owns}
use denote.Signature.{types_at}
use denote.Steps.{nothing, heard, only}
use denote.Triple.Call.{calls_at}
use denote.Triple.Clauses.{lasts, Lasts}
use denote.Triple.Entry.{alive}
use denote.Triple.Spec.{triple_of}
use denote.Triple.Walked.{says, walk_of, ends_at}
use denote.Triple.Table.{framed}
use Rattle.core.proofs.cell.Inside.{one}
use Rattle.std.proofs.raw_atomic.Walks.{proved_at}
use Rattle.rlsf_base.specs.Ledger.{extent, ticket_owns}
use Rattle.rlsf_base.specs.Piece.{CanCome, Piece, piece_owns, piece_range}
use Rattle.rlsf_base.specs.contracts.memory.part.Part as part
use Rattle.rlsf_base.proofs.memory.part.Part.TheLaws as part_laws
use Rattle.rlsf_base.specs.contracts.memory.part.Part.into_raw as g
use Rattle.rlsf_base.proofs.memory.part.Part.into_raw.Met.{met as part_met}
use Rattle.rlsf_base.specs.contracts.memory.ledger.Ticket as ticket_type
use Rattle.rlsf_base.proofs.memory.ledger.Ticket.TheLaws as ticket_laws
use Rattle.rlsf_base.specs.contracts.memory.ledger.Ticket.into_raw as k
use Rattle.rlsf_base.proofs.memory.ledger.Ticket.into_raw.Met.{met as ticket_met}
use Rattle.rlsf_heap.specs.Heap.{IsTicketOf, PayloadView, payload_view}
use Rattle.rlsf_heap.specs.Raw.{CanComeBack}
use Rattle.rlsf_heap.specs.Thin.{owns_at}
use Rattle.rlsf_heap.proofs.ThinValues.{addr_val, addr_own, addr_made, one_more_than, dropped, all_go}
use Rattle.rlsf_heap.specs.contracts.thin.ThinPayload as raw_payload
use Rattle.rlsf_heap.specs.contracts.thin.ThinPayload.from_parts as f
use Rattle.rlsf_heap.proofs.thin.ThinPayload.from_parts.Statement.{statement}
use Rattle.rlsf_heap.proofs.thin.ThinPayload.from_parts.Code as code

pub from_parts_spec : {M : Type 1} → statement M
from_parts_spec 𝓤 𝓛 𝓜 𝓡 wired =
    let H = 𝓛.H in
    let En₀ = f.ended in
    let c = f.clauses 𝓛 𝓜.mem 𝓡.returns in
    let fn : Fn = code.function in
    let P = part.the_row in let T = ticket_type.the_row in
    let stays = dropped En₀.signature.params En₀.kept in
    let C = (tables 𝓤 H 𝓜 𝓡 𝓡.env).C in
    let Λ = (tables 𝓤 H 𝓜 𝓡 𝓡.env).Λ in
    proved_at 𝓛 En₀ stays c 𝓜 𝓡 (all_go 𝓛 0 En₀.signature.params En₀.kept ((λ κs x w. tt), ((λ κs x w. tt), ((λ κs x w. tt), tt)))) f.Key.name fn
    (code.unfolded 𝓤 H 𝓜 𝓡 wired) (λ z are.
    let Post : Val → SProp 𝓤 = (walk_of 𝓛 En₀ stays c).post z in
    let a = z.0.3 in
    let vss = z.0.4 in
    let addr = a.0 in let p : Piece = a.1.0 in let t = a.1.1.0 in
    let is_addr : vss.0 ≡ vint w64 addr ∷ [] = are.0.0 in
    let had_part = one (layout P) vss.1.0 (((part_laws.the_row_laws).lawful 𝓛).typed p vss.1.0 are.1.0) in
    let had_ticket = one (layout T) vss.1.1.0 (((ticket_laws.the_row_laws).lawful 𝓛).typed t vss.1.1.0 are.1.1.0) in
    let w : Val = had_part.0 in let r : Val = had_ticket.0 in
    let Asked : Type 0 = (p.start ≡ addr) × (addr ≢ 0) × IsTicketOf p t.align (extent t.addr t.len t.align) in
    qed 𝓛 ((raw (alive 𝓛 En₀.signature z.0.0 z.0.1) ⊛ ‵ (owns (types_at En₀.signature.params z.0.0) a vss)) ∷ raw (fact 𝓤 Asked) ∷ []) ∵
    move ! (1 ∷ []) $ heard ! Asked (λ asked. split ! $ drop ! $ fsplit ! $ drop ! $ fsplit ! $ move ! (1 ∷ []) $ fsplit ! $ keep ! (2 ∷ 0 ∷ []) $
    -- [the part; the ticket]
    rewrite ! 0 (λ (us : List Val). ‵ (P.own_val p us)) had_part.1 refl $ rewrite ! 1 (λ (us : List Val). ‵ (T.own_val t us)) had_ticket.1 refl $
    regoal ! (λ (us : List Val). prop (WpFn 𝓤 H C Λ fn us Post)) (λ i. is_addr i ++ (had_part.1 i ++ (had_ticket.1 i ++ []))) refl $
    enter ! C Λ fn (vint w64 addr ∷ w ∷ r ∷ []) Post $
    alloc_all ! (λ l. pass_all ! refl ((tt, record { fits = are.0.1 }), (had_part.2, (had_ticket.2, tt))) $
    sets ! (of_opd ! (get ! refl)) refl had_part.2 $
    let G = triple_of 𝓛 g.signature (g.spec 𝓛 𝓜.mem 𝓡.returns) in
    let y : G.Ghost = ((tt, tt, tt, (p, tt), (w ∷ [], tt)), tt) in
    nothing ! $ move ! (1 ∷ 0 ∷ []) $ join ! $ nothing ! $ join ! $ nothing ! $ move ! (1 ∷ 0 ∷ []) $ use2 𝓛 (raw (G.pre y)) (id⊢ 𝓤 _) $
    calls_at ! (framed 𝓤 H 𝓜 (tables 𝓤 H 𝓜 𝓡 𝓡.env)) G (part_met 𝓤 𝓛 𝓜 𝓡 (code.calls-rlsf_base::memory::part::Part::into_raw 𝓡.env wired)) y
    (and_then ! (get ! refl) (no_more !)) (λ v.
    let Can : Type 0 = CanCome p p.home.view (piece_range p) in
    use1 𝓛 (later (some (λ (q : Unit {0}). (‵ ftrue ⊛ ‵ (unit.own_val q (v ∷ []))) ⊛
    some (λ (ws : Lasts g.ended tt (p, tt)). ‵ (lasts g.ended y.0.0 y.0.3 ws) ⊛ (‵ (piece_owns p) ⊛ raw (fact 𝓤 Can)))))) (id⊢ 𝓤 _) $
    await ! tt $ pick ! (λ q. split ! $ split ! $ drop ! $ feq_l ! (λ is_unit. lands_as ! (ap only is_unit) refl (tt, tt) $
    pick ! (λ ws. split ! $ drop ! $ split ! $ move ! (1 ∷ []) $ heard ! Can (λ can. move ! (1 ∷ 0 ∷ []) $
    -- [the ticket; the bytes; the locals]
    sets ! (of_opd ! (get ! refl)) refl had_ticket.2 $
    let K = triple_of 𝓛 k.signature (k.spec 𝓛 𝓜.mem 𝓡.returns) in
    let x : K.Ghost = ((tt, tt, tt, (t, tt), (r ∷ [], tt)), tt) in
    nothing ! $ move ! (1 ∷ 0 ∷ []) $ join ! $ nothing ! $ join ! $ nothing ! $ move ! (1 ∷ 0 ∷ []) $ use2 𝓛 (raw (K.pre x)) (id⊢ 𝓤 _) $
    calls_at ! (framed 𝓤 H 𝓜 (tables 𝓤 H 𝓜 𝓡 𝓡.env)) K (ticket_met 𝓤 𝓛 𝓜 𝓡 (code.calls-rlsf_base::memory::ledger::Ticket::into_raw 𝓡.env wired)) x
    (and_then ! (get ! refl) (no_more !)) (λ v'.
    use1 𝓛 (later (some (λ (q' : Unit {0}). (‵ ftrue ⊛ ‵ (unit.own_val q' (v' ∷ []))) ⊛
    some (λ (ws' : Lasts k.ended tt (t, tt)). ‵ (lasts k.ended x.0.0 x.0.3 ws') ⊛ ‵ (ticket_owns t.name t.key (extent t.addr t.len t.align)))))) (id⊢ 𝓤 _) $
    await ! tt $ pick ! (λ q'. split ! $ split ! $ drop ! $ feq_l ! (λ is_unit'. lands_as ! (ap only is_unit') refl (tt, tt) $
    pick ! (λ ws'. split ! $ drop ! $
    -- [the ticket's part of its entry; the bytes; the locals]
    sets ! (agg ! (and_then ! (get ! refl) (no_more !))) refl (tt, (record { fits = are.0.1 }, tt)) $
    returns ! (look_at ! 0 refl) $ free_all ! refl $ keep ! (0 ∷ 1 ∷ []) $
    let made_of : PayloadView = payload_view p t.align t.name in
    let more = one_more_than addr asked.1 in let n : ℕ = more.0 in let e : p.start ≡ suc n = asked.0 ∙ more.1 in
    rewrite ! 0 (λ (u : ℕ × ℕ). ‵ (ticket_owns t.name t.key (extent u.0 u.1 t.align))) {x = (p.start, length p.bytes)} {y = (t.addr, t.len)}
    (λ i. (sym asked.2.0 i, sym asked.2.1 i)) refl $
    move ! (1 ∷ 0 ∷ []) $ fjoin ! $
    fpack ! (ℕ × CanComeBack made_of) (λ u. fsep (piece_owns p) (ticket_owns t.name u.0 (extent p.start (length p.bytes) t.align))) (t.key, can) $
    rewrite ! 0 (λ (m : ℕ). ‵ (owns_at m made_of)) {x = p.start} {y = suc n} (sym e) refl $
    use0 𝓛 (‵ (addr_own addr (addr_val addr ∷ []))) (addr_made 𝓛 addr are.0.1) $ fjoin ! $
    let made : (raw_payload.the_row).Denot = record { addr = addr; of = made_of } in
    suffices ! _ (ends_at 𝓛 En₀ stays c z (addr_val addr) made (tt, (rest (P.exit yes) p, (rest (T.exit yes) t, tt))) (tt, (tt, (tt, tt)))) $
    says ! (refl, refl) $ nothing ! $ nothing ! $ join ! $ nothing ! $ join ! $ nothing ! $ join ! $ nothing ! $ done !))))))))))))
