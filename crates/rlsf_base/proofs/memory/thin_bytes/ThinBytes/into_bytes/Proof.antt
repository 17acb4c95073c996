-- Shows that `into_bytes` is the owner of these bytes. Assumes `Logic`.
use Rattle.std.proofs.Common.{ℕ, [], ◌∷◌, refl}
use base.Logic.{id⊢}
use base.Fml.{ftrue}
use contract.Monad.{fact}
use contract.Running.{tables}
use types.Kit.{‵, raw, ◌⊛◌, ◌$◌, ◌∵◌, !, qed, done, move, drop, use2, split, join, keep, suffices}
use types.Kit.{fsplit}
use types.Run.{enter, no_more, returns}
use types.ByLocal.{alloc_all, pass_all, free_all, look_at, lands_as}
use denote.Steps.{nothing, heard}
use denote.Triple.Call.{calls_at}
use denote.Triple.Clauses.{lasts}
use denote.Triple.Spec.{triple_of}
use denote.Triple.Walked.{says, Stays, walk_of, ends_at}
use denote.Triple.Table.{framed}
use Rattle.std.proofs.raw_atomic.Walks.{proved}
use Rattle.rlsf_base.specs.OpenSpace.{place_in}
use Rattle.rlsf_base.specs.Piece.{CanCome, Piece, first_place, piece_range}
use Rattle.rlsf_base.specs.Steps.Ownership.{units_in}
use Rattle.rlsf_base.proofs.Pieces.{IsOwnerOf, has_bytes}
use Rattle.rlsf_base.proofs.RawBlock.Dropped.{all_dropped, all_go}
use Rattle.rlsf_base.proofs.RawBlock.Values.{mark_val}
use Rattle.rlsf_base.proofs.RawBlock.Walks.{hears}
use Rattle.rlsf_base.specs.contracts.memory.block.Bytes as owner
use Rattle.rlsf_base.proofs.memory.block.Bytes.TheLaws as owner_laws
use Rattle.rlsf_base.specs.contracts.memory.block.Bytes.from_raw as g
use Rattle.rlsf_base.proofs.memory.block.Bytes.from_raw.Met.{met as raw_met}
use Rattle.rlsf_base.specs.contracts.memory.thin_bytes.ThinBytes as bytes_type
use Rattle.rlsf_base.proofs.memory.thin_bytes.ThinBytes.TheLaws.{lowers}
use Rattle.rlsf_base.specs.contracts.memory.thin_bytes.ThinBytes.into_bytes as f
use Rattle.rlsf_base.proofs.memory.thin_bytes.ThinBytes.into_bytes.Statement.{statement}
use Rattle.rlsf_base.proofs.memory.thin_bytes.ThinBytes.into_bytes.Code as code

pub into_bytes_spec : {M : Type 1} → statement M
into_bytes_spec 𝓤 𝓛 𝓜 𝓡 wired =
    let stayed : Stays f.ended.signature.params f.ended.kept = all_dropped f.ended.signature.params f.ended.kept in
    let c = f.clauses 𝓛 𝓜.mem 𝓡.returns in let W = walk_of 𝓛 f.ended stayed c in
    proved 𝓛 f.ended stayed c 𝓜 𝓡 (all_go 𝓛 0 f.ended.signature.params f.ended.kept ((λ κs x w. tt), tt))
    f.Key.name code.function (code.unfolded 𝓤 𝓛.H 𝓜 𝓡 wired)
    (λ κs. ((λ t. mark_val ∷ []), tt)) (λ κs. (lowers.val_is, tt)) (λ κs qs bounds a none are.
    let p : Piece = a.0.piece in
    let y : W.Ghost = ((κs, qs, bounds, a, (mark_val ∷ [], tt)), none) in
    let Asked : Type 0 = CanCome p p.home.view (piece_range p) in
    qed 𝓛 ((‵ ftrue ⊛ (‵ ((bytes_type.the_row).own_val a.0 (mark_val ∷ [])) ⊛ ‵ ftrue)) ∷ raw (fact 𝓤 Asked) ∷ []) ∵
    move ! (1 ∷ []) $ heard ! Asked (λ can. split ! $ drop ! $ split ! $ fsplit ! $ keep ! (1 ∷ []) $
    -- [the bytes]
    enter ! _ _ _ _ _ $ alloc_all ! (λ l. pass_all ! refl ((tt, (tt, tt)), tt) $
    let G = triple_of 𝓛 g.signature (g.spec 𝓛 𝓜.mem 𝓡.returns) in
    let at : ℕ × ℕ = (first_place p.home, p.home.len) in
    let z : G.Ghost = ((tt, tt, tt, tt, tt), (p.home.view.base.ptr, place_in p.home.view p.start, p.bytes, p.out, at, units_in p.home.view.shift at.0 at.1)) in
    nothing ! $ nothing ! $ join ! $ use2 𝓛 (raw (G.pre z)) (id⊢ 𝓤 _) $
    calls_at ! (framed 𝓤 𝓛.H 𝓜 (tables 𝓤 𝓛.H 𝓜 𝓡 𝓡.env)) G (raw_met 𝓤 𝓛 𝓜 𝓡 (code.calls-rlsf_base::memory::block::Bytes::from_raw 𝓡.env wired)) z
    (no_more !) (λ u.
    hears ! tt owner.the_row u (lasts g.ended z.0.0 z.0.3) (λ e. raw (fact 𝓤 (IsOwnerOf p e))) (id⊢ 𝓤 _) (λ e is_owner. heard ! _ (λ is.
    lands_as ! refl refl ((owner_laws.the_row_laws.lawful 𝓛).typed e _ is_owner).0 $
    returns ! (look_at ! 0 refl) $ free_all ! refl $ keep ! (0 ∷ []) $
    suffices ! _ (ends_at 𝓛 f.ended stayed c y u e (tt, tt) (tt, tt)) $
    says ! (has_bytes p can e is) $ nothing ! $ nothing ! $ join ! $ nothing ! $ done !))))))
