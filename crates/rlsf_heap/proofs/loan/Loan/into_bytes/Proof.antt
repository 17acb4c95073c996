-- Shows that `into_bytes` owns what the loan owned. Assumes `Logic`.
use Rattle.std.proofs.Common.{◌≡◌, ◌≢◌, ℕ, suc, ◌^◌, ◌<◌, List, [], ◌∷◌, refl}
use mir.Val.{Val}
use base.Fml.{ftrue}
use contract.Monad.{fact}
use types.Kit.{‵, raw, ◌⊛◌, ◌$◌, ◌∵◌, !, qed, done, move, keep, drop, use0, split, join, fsplit, fjoin, rewrite, suffices}
use types.Part.{agg}
use types.Run.{no_more, and_then, returns, enter}
use types.ByLocal.{alloc_all, pass_all, free_all, look_at, get, sets}
use denote.RattleType.{owns}
use denote.Signature.{types_at}
use denote.Steps.{nothing, heard}
use denote.Triple.Walked.{says, walk_of, ends_at}
use Rattle.std.proofs.raw_atomic.Walks.{proved}
use Rattle.rlsf_base.proofs.RawBlock.Values.{mark_val, mark_own, mark_made}
use Rattle.rlsf_heap.specs.Loans.{owns_from}
use Rattle.rlsf_heap.proofs.ThinValues.{addr_val, addr_told, addr_typed, one_more_than, loan_Tells, loan_vals, dropped, all_go}
use Rattle.rlsf_base.specs.contracts.memory.thin_bytes.ThinBytes as bytes_type
use Rattle.rlsf_heap.specs.contracts.loan.Loan.into_bytes as f
use Rattle.rlsf_heap.proofs.loan.Loan.into_bytes.Statement.{statement}
use Rattle.rlsf_heap.proofs.loan.Loan.into_bytes.Code as code

pub into_bytes_spec : {M : Type 1} → statement M
into_bytes_spec 𝓤 𝓛 𝓜 𝓡 wired =
    let stayed = dropped f.ended.signature.params f.ended.kept in let c = f.clauses 𝓛 𝓜.mem 𝓡.returns in let W = walk_of 𝓛 f.ended stayed c in let B = bytes_type.the_row in
    proved 𝓛 f.ended stayed c 𝓜 𝓡 (all_go 𝓛 0 f.ended.signature.params f.ended.kept ((λ κs x w. tt), tt)) f.Key.name code.function (code.unfolded 𝓤 𝓛.H 𝓜 𝓡 wired)
    (λ κs. (loan_vals, tt)) (λ κs. (loan_Tells, tt)) (λ κs qs bounds a g₀ are.
    let d = a.0 in
    let vss : List Val × Unit {0} = (addr_val d.addr ∷ [], tt) in
    let z : W.Ghost = ((κs, qs, bounds, a, vss), g₀) in
    let fits : d.addr < 2 ^ 64 = addr_told d.addr (addr_val d.addr ∷ []) are.0.0 in
    let p = d.of in let Asked : Type 0 = p.start ≢ 0 in
    qed 𝓛 ((‵ ftrue ⊛ ‵ (owns (types_at f.signature.params κs) a vss)) ∷ raw (fact 𝓤 Asked) ∷ []) ∵
    move ! (1 ∷ []) $ heard ! Asked (λ asked. split ! $ drop ! $ fsplit ! $ fsplit ! $ keep ! (1 ∷ []) $
    let more = one_more_than p.start asked in let k : ℕ = more.0 in let e : p.start ≡ suc k = more.1 in
    rewrite ! 0 (λ (n : ℕ). ‵ (owns_from n p)) e refl $
    -- [the bytes]
    enter ! _ _ _ _ _ $ alloc_all ! (λ l. pass_all ! refl (addr_typed d.addr fits, tt) $
    sets ! (agg ! (no_more !)) refl (tt, tt) $ sets ! (agg ! (and_then ! (get ! refl) (no_more !))) refl (tt, (tt, tt)) $
    returns ! (look_at ! 0 refl) $ free_all ! refl $
    let bytes : B.Denot = record { mark = record {}; piece = p } in
    use0 𝓛 (‵ (mark_own (mark_val ∷ []))) (mark_made 𝓛) $ fjoin ! $
    suffices ! _ (ends_at 𝓛 f.ended stayed c z mark_val bytes (tt, tt) (tt, tt)) $
    says ! refl $ nothing ! $ nothing ! $ join ! $ nothing ! $ done !)))
