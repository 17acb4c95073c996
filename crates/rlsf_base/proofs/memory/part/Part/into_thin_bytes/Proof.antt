-- Shows that `into_thin_bytes` owns what the part owned. Assumes `Logic`.
use Rattle.std.proofs.Common.{List, [], ◌∷◌, ◌++◌, refl, ap}
use mir.Val.{Val}
use base.Logic.{SProp, id⊢}
use base.Fml.{ftrue}
use prog.Wp.{WpFn}
use contract.Monad.{fact}
use contract.Running.{tables}
use types.Kit.{‵, raw, ◌⊛◌, some, later, prop, ◌$◌, ◌∵◌, !, qed, done, move, drop, use0, use1, use2, split, join, keep, feq_l, fjoin, pick, await, rewrite}
use types.Kit.{regoal, suffices, fsplit}
use types.Part.{agg}
use types.Run.{enter, of_opd, no_more, and_then, returns}
use types.ByLocal.{alloc_all, pass_all, free_all, look_at, get, sets, lands_as}
use denote.Builtin.{unit}
use denote.Exit.{rest, yes}
use denote.Param.{layout}
use denote.RattleType.{owns}
use denote.Signature.{plain, types_at}
use denote.Steps.{nothing, heard, only}
use denote.Triple.Call.{calls_at}
use denote.Triple.Clauses.{lasts, Lasts}
use denote.Triple.Entry.{alive}
use denote.Triple.Spec.{triple_of}
use denote.Triple.Walked.{Stays, walk_of, stay_dropped, ends_at}
use denote.Triple.Table.{framed}
use Rattle.core.proofs.alloc.Calls.{Goes-blank}
use Rattle.core.proofs.cell.Inside.{one}
use Rattle.core.proofs.mem.Facts.{says_two}
use Rattle.std.proofs.raw_atomic.Walks.{proved_at}
use Rattle.rlsf_base.specs.Piece.{CanCome, Piece, piece_owns, piece_range}
use Rattle.rlsf_base.proofs.RawBlock.Values.{mark_val, mark_own, mark_made}
use Rattle.rlsf_base.specs.contracts.memory.thin_bytes.ThinBytes as bytes_type
use Rattle.rlsf_base.specs.contracts.memory.part.Part as part
use Rattle.rlsf_base.proofs.memory.part.Part.TheLaws as part_laws
use Rattle.rlsf_base.specs.contracts.memory.part.Part.into_raw as g
use Rattle.rlsf_base.proofs.memory.part.Part.into_raw.Met.{met as part_met}
use Rattle.rlsf_base.specs.contracts.memory.part.Part.into_thin_bytes as f
use Rattle.rlsf_base.proofs.memory.part.Part.into_thin_bytes.Statement.{statement}
use Rattle.rlsf_base.proofs.memory.part.Part.into_thin_bytes.Code as code

pub into_thin_bytes_spec : {M : Type 1} → statement M
into_thin_bytes_spec 𝓤 𝓛 𝓜 𝓡 wired =
    let c = f.clauses 𝓛 𝓜.mem 𝓡.returns in
    let P = part.the_row in let B = bytes_type.the_row in
    let stays : Stays f.ended.signature.params f.ended.kept = (stay_dropped (plain (λ _. P)) f.ended.kept.0, tt) in
    let C = (tables 𝓤 𝓛.H 𝓜 𝓡 𝓡.env).C in
    let Λ = (tables 𝓤 𝓛.H 𝓜 𝓡 𝓡.env).Λ in
    proved_at 𝓛 f.ended stays c 𝓜 𝓡 (Goes-blank 𝓛 0 (plain (λ _. P)) f.ended.kept.0 (λ κs x w. tt), tt) f.Key.name code.function (code.unfolded 𝓤 𝓛.H 𝓜 𝓡 wired) (λ z are.
    let Post : Val → SProp 𝓤 = (walk_of 𝓛 f.ended stays c).post z in
    let a = z.0.3 in
    let vss = z.0.4 in
    let p : Piece = a.0 in
    let had = one (layout P) vss.0 (((part_laws.the_row_laws).lawful 𝓛).typed p vss.0 are.0) in
    let w : Val = had.0 in
    qed 𝓛 ((raw (alive 𝓛 f.ended.signature z.0.0 z.0.1) ⊛ ‵ (owns (types_at f.ended.signature.params z.0.0) a vss)) ∷ ‵ ftrue ∷ []) ∵
    split ! $ drop ! $ fsplit ! $ keep ! (0 ∷ []) $
    -- [the part]
    rewrite ! 0 (λ (us : List Val). ‵ (P.own_val p us)) had.1 refl $
    regoal ! (λ (us : List Val). prop (WpFn 𝓤 𝓛.H C Λ code.function us Post)) (λ i. had.1 i ++ []) refl $
    enter ! C Λ code.function (w ∷ []) Post $
    alloc_all ! (λ l. pass_all ! refl (had.2, tt) $
    sets ! (of_opd ! (get ! refl)) refl had.2 $
    let G = triple_of 𝓛 g.signature (g.spec 𝓛 𝓜.mem 𝓡.returns) in
    let y : G.Ghost = ((tt, tt, tt, (p, tt), (w ∷ [], tt)), tt) in
    nothing ! $ move ! (1 ∷ 0 ∷ []) $ join ! $ nothing ! $ join ! $ nothing ! $ move ! (1 ∷ 0 ∷ []) $ use2 𝓛 (raw (G.pre y)) (id⊢ 𝓤 _) $
    calls_at ! (framed 𝓤 𝓛.H 𝓜 (tables 𝓤 𝓛.H 𝓜 𝓡 𝓡.env)) G (part_met 𝓤 𝓛 𝓜 𝓡 (code.calls-rlsf_base::memory::part::Part::into_raw 𝓡.env wired)) y
    (and_then ! (get ! refl) (no_more !)) (λ v.
    let Can : Type 0 = CanCome p p.home.view (piece_range p) in
    use1 𝓛 (later (some (λ (q : Unit {0}). (‵ ftrue ⊛ ‵ (unit.own_val q (v ∷ []))) ⊛
    some (λ (ws : Lasts g.ended tt (p, tt)). ‵ (lasts g.ended y.0.0 y.0.3 ws) ⊛ (‵ (piece_owns p) ⊛ raw (fact 𝓤 Can)))))) (id⊢ 𝓤 _) $
    await ! tt $ pick ! (λ q. split ! $ split ! $ drop ! $ feq_l ! (λ is_unit. lands_as ! (ap only is_unit) refl (tt, tt) $
    pick ! (λ ws. split ! $ drop ! $ split ! $ move ! (1 ∷ []) $ heard ! Can (λ can.
    -- [the bytes; the locals]
    sets ! (agg ! (no_more !)) refl (tt, tt) $ sets ! (agg ! (and_then ! (get ! refl) (no_more !))) refl (tt, (tt, tt)) $
    returns ! (look_at ! 0 refl) $ free_all ! refl $ keep ! (0 ∷ []) $
    let bytes : B.Denot = record { mark = record {}; piece = p } in
    use0 𝓛 (‵ (mark_own (mark_val ∷ []))) (mark_made 𝓛) $ fjoin ! $
    suffices ! _ (ends_at 𝓛 f.ended stays c z mark_val bytes (rest (P.exit yes) p, tt) (tt, tt)) $
    says_two ! (refl, can) $ nothing ! $ nothing ! $ join ! $ nothing ! $ done !)))))))
