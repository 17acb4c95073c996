-- Shows that `no_block` points to an array of no bytes, and owns nothing. Assumes `Logic`.
use Rattle.std.proofs.Common.{◌≡◌, ℕ, ◌^◌, List, [], ◌∷◌, ◌++◌, length, refl, lit<, w64}
use mir.Syntax.{Fn, Args, a_type, dcons, dnil}
use mir.Val.{Val, vint, vptr}
use mir.MapTy.{inst_fn}
use base.Logic.{SProp, emp}
use base.Fml.{ftrue}
use prog.Wp.{WpFn}
use contract.BorrowLft.{◌⊑◌}
use contract.Monad.{fact, fact_i}
use contract.Running.{tables}
use types.Kit.{‵, raw, ◌⊛◌, prop, ◌$◌, ◌∵◌, !, qed, by, move, drop as skips, use0, use3, split, regoal, fjoin, flt_i}
use types.Part.{agg}
use types.Run.{stop, from, addr, no_more, and_then, returns, enter}
use types.ByLocal.{alloc_all, pass_all, free_all, look_at, get, sets}
use denote.RattleType.{RattleType, owns}
use denote.RawPtr.{Ptr, block_ptr, null_ptr}
use denote.Param.{param, bounded}
use denote.Signature.{types_at}
use denote.Steps.{nothing}
use denote.Struct.Tuple.{Tuple}
use denote.Triple.Entry.{alive}
use denote.Triple.Walked.{Stays, walk_of}
use Rattle.std.proofs.raw_atomic.Walks.{proved_at, leaves}
use Rattle.rlsf_base.specs.Out.{Change}
use Rattle.rlsf_base.specs.Steps.Ownership.{units_for, ways_of, own_unit}
use Rattle.rlsf_base.proofs.RawBlock.Units.{unit-nowhere, ways_none}
use Rattle.rlsf_base.proofs.RawBlock.Values.{base_val, base_own, base_made, mark_val, mark_own, mark_made, three_val, three_of}
use Rattle.rlsf_base.proofs.RawBlock.Dropped.{all_dropped, all_go}
use Rattle.rlsf_base.specs.contracts.memory.block.Base as base_type
use Rattle.rlsf_base.specs.contracts.memory.block.Bytes as owner
use Rattle.rlsf_base.specs.contracts.memory.block.Deed as deed
use Rattle.rlsf_base.specs.contracts.memory.block.no_block.{ended, clauses}
use Rattle.rlsf_base.specs.contracts.memory.block.no_block.Key.{name as #self}
use Rattle.rlsf_base.proofs.memory.block.no_block.Statement.{statement}
use Rattle.rlsf_base.proofs.memory.block.no_block.Code as compiled

pub no_block_spec : {M : Type 1} → statement M
no_block_spec 𝓤 𝓛 𝓜 𝓡 wired A L g d dd met md =
    let En₀ = ended A g d dd in
    let c = clauses A g d dd 𝓛 𝓜.mem 𝓡.returns in
    let args : Args = bounded (a_type ∷ []) (A, tt) (dcons d (dcons dd dnil)) in
    let fn : Fn = inst_fn args compiled.function in
    let stays : Stays En₀.signature.params En₀.kept = all_dropped En₀.signature.params En₀.kept in
    let C = (tables 𝓤 𝓛.H 𝓜 𝓡 𝓡.env).C in
    let Λ = (tables 𝓤 𝓛.H 𝓜 𝓡 𝓡.env).Λ in
    proved_at 𝓛 En₀ stays c 𝓜 𝓡 (all_go 𝓛 2 En₀.signature.params En₀.kept ((λ κs x f. tt), ((λ κs x f. tt), tt)))
    (#self args) fn (compiled.unfolded 𝓤 𝓛.H 𝓜 𝓡 wired (A, tt) d dd) (λ z are.
    let Post : Val → SProp 𝓤 = (walk_of 𝓛 En₀ stays c).post z in
    let a = z.0.3 in let vss = z.0.4 in let Z : RattleType = param 0 A in
    let at = a.0.ref_ptr in let skip = a.1.0 in
    let Three : RattleType = Tuple (base_type.the_row ∷ owner.the_row ∷ deed.the_row Z g ∷ []) in
    qed 𝓛 ((raw (alive 𝓛 En₀.signature z.0.0 z.0.1) ⊛ ‵ (owns (types_at En₀.signature.params z.0.0) a vss))
    ∷ (raw (fact 𝓤 (z.0.0.1.0 ⊑ A.lives)) ⊛ ‵ ftrue) ∷ []) ∵
    move ! (1 ∷ []) $ skips ! $ split ! $ move ! (1 ∷ []) $ skips ! $
    regoal ! (λ (us : List Val). prop (WpFn 𝓤 𝓛.H C Λ fn us Post)) (λ i. are.0.0 i ++ (are.1.0.0 i ++ [])) refl $
    enter ! C Λ fn (vptr at.0 at.1 ∷ vint w64 skip ∷ []) Post $
    alloc_all ! (λ l. pass_all ! refl ((tt, tt), ((tt, record { fits = are.1.0.1 }), tt)) $
    sets ! (agg ! (no_more !)) refl (tt, tt) $ sets ! (addr ! (from ! (stop !))) refl (tt, tt) $
    sets ! (agg ! (and_then ! (get ! refl) (no_more !))) refl (tt, (tt, tt)) $
    sets ! (agg ! (no_more !)) refl (tt, tt) $ sets ! (agg ! (and_then ! (get ! refl) (no_more !))) refl (tt, (tt, tt)) $
    sets ! (agg ! (no_more !)) refl (tt, tt) $ sets ! (agg ! (and_then ! (get ! refl) (no_more !))) refl (tt, (tt, tt)) $
    sets ! (agg ! (and_then ! (get ! refl) (and_then ! (get ! refl) (and_then ! (get ! refl) (no_more !))))) refl (tt, ((tt, tt), ((tt, tt), ((tt, tt), tt)))) $
    returns ! (look_at ! 0 refl) $ free_all ! refl $
    let p : Ptr = block_ptr (l 3) 0 in let none : List ℕ = [] in let no_changes : List Change = [] in let units : ℕ = units_for skip 0 in
    let x : (base_type.the_row).Denot = record { ptr = p } in
    let bytes : (owner.the_row).Denot = record { mark = record {}; at = p; skip = skip; bytes = none; out = no_changes; of = (0, 0); units = units } in
    let right : (deed.the_row Z g).Denot = record { mark = record {}; at = null_ptr; units = 0; skip = skip; len = 0; alloc = a.0.now } in
    let v : Val = three_val (base_val p) mark_val mark_val in
    nothing ! $ use0 𝓛 (‵ (mark_own (mark_val ∷ []))) (mark_made 𝓛) $ fjoin ! $
    use0 𝓛 (‵ (ways_of (own_unit no_changes skip 0) 0 units (l 3) 0))
    (ways_none 𝓛 (l 3) (own_unit no_changes skip 0) 0 units 0 (λ u lo hi. unit-nowhere no_changes skip u)) $ nothing ! $ fjoin ! $ flt_i ! (length none) (2 ^ 63) (lit< tt)
    $ fjoin ! $
    use0 𝓛 (‵ (mark_own (mark_val ∷ []))) (mark_made 𝓛) $ fjoin ! $ use0 𝓛 (‵ (base_own p (base_val p ∷ []))) (base_made 𝓛 p) $
    use3 𝓛 (‵ (Three.own_val (x, bytes, right) (v ∷ []))) (three_of 𝓛 base_type.the_row owner.the_row (deed.the_row Z g) x bytes right (base_val p) mark_val mark_val) $
    let Told : Type 0 = (p ≡ p) × (skip ≡ skip) × (none ≡ none) × (null_ptr ≡ null_ptr) × (no_changes ≡ no_changes) × (units ≡ units) in
    use0 𝓛 (raw (fact 𝓤 Told)) (fact_i 𝓤 Told (emp 𝓤) (refl, refl, refl, refl, refl, refl)) $
    nothing ! $ nothing ! $ fjoin ! $ nothing ! $ fjoin ! $ move ! (3 ∷ 0 ∷ 2 ∷ 1 ∷ []) $
    by ! (leaves 𝓛 En₀ stays c z v (x, bytes, right) (tt, (tt, tt)) (tt, (tt, tt)))))
