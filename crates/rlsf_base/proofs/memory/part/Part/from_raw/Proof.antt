-- Shows that `from_raw` is the part of what it is handed. Assumes `Logic`.
use Rattle.std.proofs.Common.{List, [], ◌∷◌, ◌++◌, refl}
use mir.Val.{Val}
use base.Logic.{SProp, emp, id⊢}
use prog.Wp.{WpFn}
use contract.Monad.{fact, fact_i}
use contract.Running.{tables}
use types.Kit.{‵, raw, ◌⊛◌, prop, ◌$◌, ◌∵◌, !, qed, done, move, drop, use0, use2, split, join, keep, rewrite, regoal, suffices}
use types.Kit.{fsplit}
use types.Run.{enter, no_more, and_then, returns}
use types.ByLocal.{alloc_all, pass_all, free_all, look_at, get, lands_as}
use denote.Exit.{rest, yes}
use denote.Param.{layout}
use denote.RattleType.{owns}
use denote.Signature.{plain, types_at}
use denote.Steps.{nothing, heard}
use denote.Triple.Call.{calls_at}
use denote.Triple.Clauses.{lasts}
use denote.Triple.Entry.{alive}
use denote.Triple.Spec.{triple_of}
use denote.Triple.Walked.{says, Stays, walk_of, stay_dropped, ends_at}
use denote.Triple.Table.{framed}
use Rattle.core.proofs.alloc.Calls.{Goes-blank}
use Rattle.core.proofs.cell.Inside.{one}
use Rattle.std.proofs.raw_atomic.Walks.{proved_at}
use Rattle.rlsf_base.specs.OpenSpace.{place_in}
use Rattle.rlsf_base.specs.Piece.{CanCome, IsPiece, IsPieceOf, Piece, first_place, piece_owns}
use Rattle.rlsf_base.specs.Steps.Ownership.{units_in}
use Rattle.rlsf_base.proofs.Pieces.{IsOwnerOf, is_piece, same_piece}
use Rattle.rlsf_base.proofs.RawBlock.Walks.{hears}
use Rattle.rlsf_base.specs.contracts.memory.view.View as view_type
use Rattle.rlsf_base.proofs.memory.view.View.TheLaws as view_laws
use Rattle.rlsf_base.specs.contracts.memory.range.Range as range_type
use Rattle.rlsf_base.proofs.memory.range.Range.TheLaws as range_laws
use Rattle.rlsf_base.specs.contracts.memory.block.Bytes as owner
use Rattle.rlsf_base.proofs.memory.block.Bytes.TheLaws as owner_laws
use Rattle.rlsf_base.specs.contracts.memory.block.Bytes.from_raw as g
use Rattle.rlsf_base.proofs.memory.block.Bytes.from_raw.Met.{met as raw_met}
use Rattle.rlsf_base.specs.contracts.memory.part.Part as part
use Rattle.rlsf_base.proofs.memory.part.Part.TheLaws as part_laws
use Rattle.rlsf_base.specs.contracts.memory.part.Part.of as k
use Rattle.rlsf_base.proofs.memory.part.Part.of.Met.{met as of_met}
use Rattle.rlsf_base.specs.contracts.memory.part.Part.from_raw as f
use Rattle.rlsf_base.proofs.memory.part.Part.from_raw.Statement.{statement}
use Rattle.rlsf_base.proofs.memory.part.Part.from_raw.Code as code

pub from_raw_spec : {M : Type 1} → statement M
from_raw_spec 𝓤 𝓛 𝓜 𝓡 wired =
    let c = f.clauses 𝓛 𝓜.mem 𝓡.returns in
    let P = part.the_row in let V = view_type.the_row in let R = range_type.the_row in
    let stays : Stays f.ended.signature.params f.ended.kept = (stay_dropped (plain (λ _. V)) f.ended.kept.0, (stay_dropped (plain (λ _. R)) f.ended.kept.1.0, tt)) in
    let C = (tables 𝓤 𝓛.H 𝓜 𝓡 𝓡.env).C in
    let Λ = (tables 𝓤 𝓛.H 𝓜 𝓡 𝓡.env).Λ in
    proved_at 𝓛 f.ended stays c 𝓜 𝓡
    (Goes-blank 𝓛 0 (plain (λ _. V)) f.ended.kept.0 (λ κs x w. tt), (Goes-blank 𝓛 0 (plain (λ _. R)) f.ended.kept.1.0 (λ κs x w. tt), tt)) f.Key.name code.function
    (code.unfolded 𝓤 𝓛.H 𝓜 𝓡 wired) (λ z are.
    let Post : Val → SProp 𝓤 = (walk_of 𝓛 f.ended stays c).post z in
    let a = z.0.3 in
    let vss = z.0.4 in
    let p : Piece = z.1 in
    let view = a.0 in let range = a.1.0 in
    let had_view = one (layout V) vss.0 (((view_laws.the_row_laws).lawful 𝓛).typed view vss.0 are.0) in
    let had_range = one (layout R) vss.1.0 (((range_laws.the_row_laws).lawful 𝓛).typed range vss.1.0 are.1.0) in
    let v : Val = had_view.0 in let r : Val = had_range.0 in
    qed 𝓛 ((raw (alive 𝓛 f.ended.signature z.0.0 z.0.1) ⊛ ‵ (owns (types_at f.ended.signature.params z.0.0) a vss))
    ∷ (‵ (piece_owns p) ⊛ raw (fact 𝓤 (CanCome p view range))) ∷ []) ∵
    split ! $ move ! (1 ∷ []) $ fsplit ! $ move ! (1 ∷ []) $ fsplit ! $ move ! (1 ∷ []) $ drop ! $
    -- [the range; the view; what is alive; what is handed and the fact]
    rewrite ! 0 (λ (us : List Val). ‵ (R.own_val range us)) had_range.1 refl $ rewrite ! 1 (λ (us : List Val). ‵ (V.own_val view us)) had_view.1 refl $
    move ! (3 ∷ []) $ split ! $ move ! (1 ∷ []) $ heard ! _ (λ can.
    regoal ! (λ (us : List Val). prop (WpFn 𝓤 𝓛.H C Λ code.function us Post)) (λ i. had_view.1 i ++ (had_range.1 i ++ [])) refl $
    enter ! C Λ code.function (v ∷ r ∷ []) Post $
    alloc_all ! (λ l. pass_all ! refl (had_view.2, (had_range.2, tt)) $
    -- [what is handed; the range; the view; what is alive; the locals]
    let G = triple_of 𝓛 g.signature (g.spec 𝓛 𝓜.mem 𝓡.returns) in
    let y : G.Ghost = (
      (tt, tt, tt, tt, tt),
      (
        p.home.view.base.ptr,
        place_in p.home.view p.start,
        p.bytes,
        p.out,
        (first_place p.home, p.home.len),
        units_in p.home.view.shift (first_place p.home) p.home.len,
      ),
    ) in
    nothing ! $ nothing ! $ join ! $ use2 𝓛 (raw (G.pre y)) (id⊢ 𝓤 _) $
    calls_at ! (framed 𝓤 𝓛.H 𝓜 (tables 𝓤 𝓛.H 𝓜 𝓡 𝓡.env)) G (raw_met 𝓤 𝓛 𝓜 𝓡 (code.calls-rlsf_base::memory::block::Bytes::from_raw 𝓡.env wired)) y
    (no_more !) (λ u.
    hears ! tt owner.the_row u (lasts g.ended y.0.0 y.0.3) (λ e. raw (fact 𝓤 (IsOwnerOf p e))) (id⊢ 𝓤 _) (λ e is_owner. heard ! _ (λ is.
    let owner_typed = ((owner_laws.the_row_laws.lawful 𝓛).typed e _ is_owner).0 in lands_as ! refl refl owner_typed $
    -- [the owner; the range; the view; what is alive; the locals]
    let K = triple_of 𝓛 k.signature (k.spec 𝓛 𝓜.mem 𝓡.returns) in
    let x : K.Ghost = ((tt, tt, tt, (view, (range, (e, tt))), (v ∷ [], (r ∷ [], (u ∷ [], tt)))), tt) in
    let Asked : Type 0 = IsPiece view range e in
    nothing ! $ move ! (1 ∷ 0 ∷ []) $ join ! $ move ! (1 ∷ 0 ∷ []) $ join ! $ move ! (1 ∷ 0 ∷ []) $ join ! $ nothing ! $ join ! $
    use0 𝓛 (raw (fact 𝓤 Asked)) (fact_i 𝓤 Asked (emp 𝓤) (is_piece p view range can e is)) $ move ! (1 ∷ 0 ∷ []) $ use2 𝓛 (raw (K.pre x)) (id⊢ 𝓤 _) $
    calls_at ! (framed 𝓤 𝓛.H 𝓜 (tables 𝓤 𝓛.H 𝓜 𝓡 𝓡.env)) K (of_met 𝓤 𝓛 𝓜 𝓡 (code.calls-rlsf_base::memory::part::Part::of 𝓡.env wired)) x
    (and_then ! (get ! refl) (and_then ! (get ! refl) (and_then ! (get ! refl) (no_more !)))) (λ w.
    hears ! tt P w (lasts k.ended x.0.0 x.0.3) (λ q. raw (fact 𝓤 (IsPieceOf view range e q))) (id⊢ 𝓤 _) (λ q is_part. heard ! _ (λ made.
    lands_as ! refl refl ((part_laws.the_row_laws.lawful 𝓛).typed q _ is_part).0 $
    returns ! (look_at ! 0 refl) $ free_all ! refl $ keep ! (0 ∷ []) $
    suffices ! _ (ends_at 𝓛 f.ended stays c z w q (rest (V.exit yes) view, (rest (R.exit yes) range, tt)) (tt, (tt, tt))) $
    says ! (same_piece p view range can e is q made) $ nothing ! $ nothing ! $ join ! $ nothing ! $ join ! $ nothing ! $ done !)))))))))
