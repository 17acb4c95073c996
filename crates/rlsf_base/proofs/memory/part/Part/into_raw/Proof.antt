-- Shows that `into_raw` hands out what the part owns. Assumes `Logic`.
use Rattle.std.proofs.Common.{◌≡◌, ℕ, List, [], ◌∷◌, ◌++◌, arith, refl, sym, ◌∙◌, ap}
use mir.Val.{Val, vunit}
use base.Logic.{SProp, id⊢}
use base.Fml.{ftrue}
use prog.Wp.{WpFn}
use contract.Monad.{fact}
use contract.Running.{tables}
use types.Kit.{‵, raw, ◌⊛◌, some, later, prop, ◌$◌, ◌∵◌, !, qed, done, frame, move, drop, use1, use2, split, join, keep, feq_i, feq_l, pick, await, rewrite}
use types.Kit.{regoal, suffices, group, fsplit}
use types.Run.{enter, of_opd, no_more, and_then, returns, unit_lit}
use types.ByLocal.{alloc_all, pass_all, free_all, look_at, get, sets, lands_as}
use denote.Builtin.{unit}
use denote.Exit.{rest, yes}
use denote.Param.{layout}
use denote.RattleType.{owns}
use denote.RawPtr.{Ptr}
use denote.Signature.{plain, types_at}
use denote.Steps.{nothing, heard, only}
use denote.Triple.Call.{calls_at}
use denote.Triple.Clauses.{lasts, Lasts}
use denote.Triple.Entry.{alive}
use denote.Triple.Spec.{triple_of}
use denote.Triple.Walked.{says, Stays, walk_of, stay_dropped, ends_at}
use denote.Triple.Table.{framed}
use Rattle.core.proofs.alloc.Calls.{Goes-blank}
use Rattle.core.proofs.cell.Inside.{one}
use Rattle.std.proofs.raw_atomic.Walks.{proved_at}
use Rattle.rlsf_base.specs.Out.{Change}
use Rattle.rlsf_base.specs.OpenSpace.{Home}
use Rattle.rlsf_base.specs.Piece.{HasPartBytes, first_place}
use Rattle.rlsf_base.specs.Steps.Ownership.{bytes_own, units_in}
use Rattle.rlsf_base.proofs.Pieces.{can_come}
use Rattle.rlsf_base.proofs.RawBlock.Walks.{hears}
use Rattle.rlsf_base.specs.contracts.memory.block.Bytes as owner
use Rattle.rlsf_base.proofs.memory.block.Bytes.TheLaws as owner_laws
use Rattle.rlsf_base.specs.contracts.memory.block.Bytes.into_raw as k
use Rattle.rlsf_base.proofs.memory.block.Bytes.into_raw.Met.{met as raw_met}
use Rattle.rlsf_base.specs.contracts.memory.part.Part as part
use Rattle.rlsf_base.proofs.memory.part.Part.TheLaws as part_laws
use Rattle.rlsf_base.specs.contracts.memory.part.Part.into_bytes as g
use Rattle.rlsf_base.proofs.memory.part.Part.into_bytes.Met.{met as bytes_met}
use Rattle.rlsf_base.specs.contracts.memory.part.Part.into_raw as f
use Rattle.rlsf_base.proofs.memory.part.Part.into_raw.Statement.{statement}
use Rattle.rlsf_base.proofs.memory.part.Part.into_raw.Code as code

pub into_raw_spec : {M : Type 1} → statement M
into_raw_spec 𝓤 𝓛 𝓜 𝓡 wired =
    let c = f.clauses 𝓛 𝓜.mem 𝓡.returns in
    let P = part.the_row in
    let stays : Stays f.ended.signature.params f.ended.kept = (stay_dropped (plain (λ _. P)) f.ended.kept.0, tt) in
    let C = (tables 𝓤 𝓛.H 𝓜 𝓡 𝓡.env).C in
    let Λ = (tables 𝓤 𝓛.H 𝓜 𝓡 𝓡.env).Λ in
    proved_at 𝓛 f.ended stays c 𝓜 𝓡 (Goes-blank 𝓛 0 (plain (λ _. P)) f.ended.kept.0 (λ κs x w. tt), tt) f.Key.name code.function (code.unfolded 𝓤 𝓛.H 𝓜 𝓡 wired) (λ z are.
    let Post : Val → SProp 𝓤 = (walk_of 𝓛 f.ended stays c).post z in
    let a = z.0.3 in
    let vss = z.0.4 in
    let p = a.0 in
    let got = one (layout P) vss.0 (((part_laws.the_row_laws).lawful 𝓛).typed p vss.0 are.0) in
    let w : Val = got.0 in
    let good = got.2 in
    qed 𝓛 ((raw (alive 𝓛 f.ended.signature z.0.0 z.0.1) ⊛ ‵ (owns (types_at f.ended.signature.params z.0.0) a vss)) ∷ ‵ ftrue ∷ []) ∵ move ! (1 ∷ []) $ drop ! $
    split ! $ move ! (1 ∷ []) $
    fsplit ! $ move ! (1 ∷ []) $ drop ! $ rewrite ! 0 (λ (us : List Val). ‵ (P.own_val p us)) got.1 refl $
    regoal ! (λ (us : List Val). prop (WpFn 𝓤 𝓛.H C Λ code.function us Post)) (λ i. got.1 i ++ []) refl $
    enter ! C Λ code.function (w ∷ []) Post $
    alloc_all ! (λ l. pass_all ! refl (good, tt) $
    sets ! (of_opd ! (get ! refl)) refl good $
    -- [the part; what is alive; the locals]
    let G = triple_of 𝓛 g.signature (g.spec 𝓛 𝓜.mem 𝓡.returns) in
    let y : G.Ghost = ((tt, tt, tt, (p, tt), (w ∷ [], tt)), tt) in
    nothing ! $ move ! (1 ∷ 0 ∷ []) $ join ! $ nothing ! $ join ! $ nothing ! $ move ! (1 ∷ 0 ∷ []) $ use2 𝓛 (raw (G.pre y)) (id⊢ 𝓤 _) $
    calls_at ! (framed 𝓤 𝓛.H 𝓜 (tables 𝓤 𝓛.H 𝓜 𝓡 𝓡.env)) G (bytes_met 𝓤 𝓛 𝓜 𝓡 (code.calls-rlsf_base::memory::part::Part::into_bytes 𝓡.env wired)) y
    (and_then ! (get ! refl) (no_more !)) (λ u.
    hears ! tt owner.the_row u (lasts g.ended y.0.0 y.0.3) (λ d. raw (fact 𝓤 (HasPartBytes p d))) (id⊢ 𝓤 _) (λ d is. heard ! _ (λ has.
    let typed = ((owner_laws.the_row_laws.lawful 𝓛).typed d _ is).0 in lands_as ! refl refl typed $
    -- [the owner; nothing; the locals]
    let K = triple_of 𝓛 k.signature (k.spec 𝓛 𝓜.mem 𝓡.returns) in
    let x : K.Ghost = ((tt, tt, tt, (d, tt), (u ∷ [], tt)), tt) in
    nothing ! $ move ! (1 ∷ 0 ∷ []) $ join ! $ nothing ! $ join ! $ nothing ! $ move ! (1 ∷ 0 ∷ []) $ use2 𝓛 (raw (K.pre x)) (id⊢ 𝓤 _) $
    calls_at ! (framed 𝓤 𝓛.H 𝓜 (tables 𝓤 𝓛.H 𝓜 𝓡 𝓡.env)) K (raw_met 𝓤 𝓛 𝓜 𝓡 (code.calls-rlsf_base::memory::block::Bytes::into_raw 𝓡.env wired)) x
    (and_then ! (get ! refl) (no_more !)) (λ v.
    use1 𝓛 (later (some (λ (q : Unit {0}). (‵ ftrue ⊛ ‵ (unit.own_val q (v ∷ []))) ⊛
    some (λ (ws' : Lasts k.ended tt (d, tt)). ‵ (lasts k.ended x.0.0 x.0.3 ws') ⊛ ‵ (bytes_own d.at d.skip d.bytes d.out d.units))))) (id⊢ 𝓤 _) $
    await ! tt $ pick ! (λ q. split ! $ split ! $ drop ! $ feq_l ! (λ is_unit. lands_as ! (ap only is_unit) refl (tt, tt) $
    pick ! (λ ws'. split ! $ drop ! $
    let first : d.of.0 ≡ first_place p.home = omega (arith, ap (λ (h : Home). h.start) has.1) in
    let long : d.of.1 ≡ p.home.len = ap (λ (h : Home). h.len) has.1 in
    let units : d.units ≡ units_in p.home.view.shift (first_place p.home) p.home.len = has.0.place.2 ∙ (λ i. units_in p.home.view.shift (first i) (long i)) in
    rewrite ! 0 (λ (o : Ptr × ℕ × List ℕ × List Change × ℕ). ‵ (bytes_own o.0 o.1 o.2 o.3 o.4))
    (λ i. (sym has.0.place.0 i, has.0.place.1 i, has.2 i, has.3 i, units i)) refl $
    sets ! (of_opd ! (unit_lit !)) refl (tt, tt) $
    returns ! (look_at ! 0 refl) $ free_all ! refl $ keep ! (0 ∷ []) $
    suffices ! _ (ends_at 𝓛 f.ended stays c z vunit tt (rest (P.exit yes) p, tt) (tt, tt)) $
    feq_i ! (List Val) (vunit ∷ []) (vunit ∷ []) refl $ nothing ! $ nothing ! $ join ! $ nothing ! $ group ! 3 $ frame ! $ says ! (can_come p d has.0 has.1 has.2 has.3) $
    done !)))))))))
