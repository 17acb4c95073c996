-- Shows that `from_raw` is the ticket of what it is handed. Assumes `Logic`.
use Rattle.std.proofs.Common.{[], ◌∷◌, refl}
use types.Kit.{‵, raw, ◌$◌, ◌∵◌, !, qed, drop, use0, fjoin, suffices, done}
use types.Part.{agg}
use types.Run.{no_more, and_then, returns, enter}
use types.ByLocal.{alloc_all, pass_all, free_all, look_at, get, sets}
use denote.Steps.{nothing}
use denote.Triple.Entry.{on_entry}
use denote.Triple.Walked.{Stays, walk_of, ends_at}
use Rattle.core.proofs.mem.Facts.{says_two}
use Rattle.std.proofs.raw_atomic.Walks.{proved}
use Rattle.rlsf_base.specs.Ledger.{ticket_owns}
use Rattle.rlsf_base.proofs.RawBlock.Values.{mark_val, mark_own, mark_made}
use Rattle.rlsf_base.specs.contracts.memory.ledger.Ticket as ticket
use Rattle.rlsf_base.specs.contracts.memory.ledger.Ticket.from_raw as f
use Rattle.rlsf_base.proofs.memory.ledger.Ticket.from_raw.Statement.{statement}
use Rattle.rlsf_base.proofs.memory.ledger.Ticket.from_raw.Code as code

pub from_raw_spec : {M : Type 1} → statement M
from_raw_spec 𝓤 𝓛 𝓜 𝓡 wired =
    let stayed : Stays f.ended.signature.params f.ended.kept = tt in
    let c = f.clauses 𝓛 𝓜.mem 𝓡.returns in let W = walk_of 𝓛 f.ended stayed c in
    proved 𝓛 f.ended stayed c 𝓜 𝓡 tt f.Key.name code.function (code.unfolded 𝓤 𝓛.H 𝓜 𝓡 wired) (λ κs. tt) (λ κs. tt) (λ κs qs bounds a g are.
    let y : W.Ghost = ((κs, qs, bounds, a, tt), g) in
    let name = g.0 in let key = g.1 in let shown = g.2 in
    let made : (ticket.the_row).Denot = record { mark = record {}; name = name; key = key; addr = shown.addr; len = shown.len; align = shown.align } in
    qed 𝓛 (raw (on_entry 𝓛 f.signature κs qs a tt) ∷ ‵ (ticket_owns name key shown) ∷ []) ∵ drop ! $
    enter ! _ _ _ _ _ $ alloc_all ! (λ l. pass_all ! refl tt $
    sets ! (agg ! (no_more !)) refl (tt, tt) $ sets ! (agg ! (and_then ! (get ! refl) (no_more !))) refl (tt, (tt, tt)) $
    returns ! (look_at ! 0 refl) $ free_all ! refl $
    suffices ! _ (ends_at 𝓛 f.ended stayed c y mark_val made tt tt) $ says_two ! ((refl, refl, refl), (refl, refl)) $
    use0 𝓛 (‵ (mark_own (mark_val ∷ []))) (mark_made 𝓛) $ fjoin ! $ nothing ! $ nothing ! $ done !))
