-- Shows that `from_raw` is the loan of what it is handed. Assumes `Logic`.
use Rattle.std.proofs.Common.{[], ◌∷◌, refl, w64}
use types.Kit.{‵, raw, ◌$◌, ◌∵◌, !, qed, drop, use0, join, fjoin, suffices, done}
use types.Part.{agg}
use types.Run.{no_more, and_then, returns, enter}
use types.ByLocal.{alloc_all, pass_all, free_all, look_at, get, sets}
use denote.Plain.{uint_vals, uint_Tells}
use denote.Steps.{nothing}
use denote.Triple.Entry.{on_entry}
use denote.Triple.Walked.{says, walk_of, ends_at}
use Rattle.std.proofs.raw_atomic.Walks.{proved}
use Rattle.rlsf_heap.specs.Loans.{owns_loan}
use Rattle.rlsf_heap.proofs.ThinValues.{addr_val, addr_own, addr_made, dropped, all_go}
use Rattle.rlsf_heap.specs.contracts.loan.Loan as loan
use Rattle.rlsf_heap.specs.contracts.loan.Loan.from_raw as f
use Rattle.rlsf_heap.proofs.loan.Loan.from_raw.Statement.{statement}
use Rattle.rlsf_heap.proofs.loan.Loan.from_raw.Code as code

pub from_raw_spec : {M : Type 1} → statement M
from_raw_spec 𝓤 𝓛 𝓜 𝓡 wired =
    let stayed = dropped f.ended.signature.params f.ended.kept in let c = f.clauses 𝓛 𝓜.mem 𝓡.returns in let W = walk_of 𝓛 f.ended stayed c in
    proved 𝓛 f.ended stayed c 𝓜 𝓡 (all_go 𝓛 0 f.ended.signature.params f.ended.kept ((λ κs x w. tt), tt)) f.Key.name code.function (code.unfolded 𝓤 𝓛.H 𝓜 𝓡 wired)
    (λ κs. (uint_vals w64, tt)) (λ κs. (uint_Tells w64, tt)) (λ κs qs bounds a g are.
    let y : W.Ghost = ((κs, qs, bounds, a, (uint_vals w64 a.0, tt)), g) in
    let made : (loan.the_row).Denot = record { addr = a.0; of = g } in
    qed 𝓛 (raw (on_entry 𝓛 f.signature κs qs a (uint_vals w64 a.0, tt)) ∷ ‵ (owns_loan g) ∷ []) ∵ drop ! $
    enter ! _ _ _ _ _ $ alloc_all ! (λ l. pass_all ! refl ((tt, record { fits = are.0.1 }), tt) $
    sets ! (agg ! (and_then ! (get ! refl) (no_more !))) refl (tt, (record { fits = are.0.1 }, tt)) $
    returns ! (look_at ! 0 refl) $ free_all ! refl $
    suffices ! _ (ends_at 𝓛 f.ended stayed c y (addr_val a.0) made (tt, tt) (tt, tt)) $ says ! (refl, refl) $
    use0 𝓛 (‵ (addr_own a.0 (addr_val a.0 ∷ []))) (addr_made 𝓛 a.0 are.0.1) $ fjoin ! $ nothing ! $ nothing ! $ join ! $ nothing ! $ done !))
