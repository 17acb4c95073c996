-- `rlsf_offsets_room` takes the space from behind the handle, and drops it. The handle is room then.
use Rattle.rlsf_c_lemmas.proofs.Walking.{[], ◌∷◌, ◌++◌, refl, ap, proved, full_share, id⊢, ftrue, Val, vunit, WpFn, tables, ‵, raw, ◌⊛◌, some, later, prop, ◌$◌}
use Rattle.rlsf_c_lemmas.proofs.Walking.{◌∵◌, !, qed, done, move, drop, use1, use2, split, join, feq_i, feq_l, pick, await, regoal, suffices, group, enter, of_opd, stop, no_more}
use Rattle.rlsf_c_lemmas.proofs.Walking.{and_then, returns, alloc_all, pass_all, free_all, look_at, get, through, sets, lands_as, yes, Is, shows, Ptr, RawPtr, block_ptr, lies_at}
use Rattle.rlsf_c_lemmas.proofs.Walking.{in_a_block, rawptr_vals, rawptr_Tells, plain, nothing, peeks, calls_at, lasts, on_entry, triple_of, Stays, walk_of, stay_dropped}
use Rattle.rlsf_c_lemmas.proofs.Walking.{Goes-dropped}
use Rattle.rlsf_c_lemmas.proofs.Walking.{◌≡◌, ends_at, fact, framed, heard}
use Rattle.rlsf_pool_calls.specs.Spaces.{ended_space}
use base.Fml.{fat}
use types.Run.{forget, load, look, unit_lit}
use borrow.Table.OneValue.{part_out}
use denote.Builtin.{unit}
use denote.Memory.{lone}
use denote.Steps.{only}
use denote.Triple.Clauses.{Lasts}
use Rattle.rlsf_pool.specs.contracts.offsets.rlsf_offsets_room as f
use Rattle.rlsf_pool.proofs.offsets.rlsf_offsets_room.Statement.{statement}
use Rattle.rlsf_pool.proofs.offsets.rlsf_offsets_room.Code as code
use Rattle.rlsf_pool_calls.specs.contracts.space.OffsetSpace.{the_row as R}
use Rattle.rlsf_pool_calls.proofs.space.OffsetSpace.TheLaws as laws
use Rattle.rlsf_pool_calls.specs.contracts.space.discard as g
use Rattle.rlsf_pool_calls.proofs.space.discard.Met.{met}

abbrev stayed : Stays f.ended.signature.params f.ended.kept
stayed = (stay_dropped _ yes, tt)

pub rlsf_offsets_room_spec : {M : Type 1} → statement M
rlsf_offsets_room_spec 𝓤 𝓛 𝓜 𝓡 wired =
    let c = f.clauses 𝓛 𝓜.mem 𝓡.returns in let W = walk_of 𝓛 f.ended stayed c in let 𝓣 = tables 𝓤 𝓛.H 𝓜 𝓡 𝓡.env in
    proved 𝓛 f.ended stayed c 𝓜 𝓡 (Goes-dropped 𝓛 0 (plain (λ _. RawPtr)) yes (λ κs x w. refl), tt)
    f.Key.name code.function (code.unfolded 𝓤 𝓛.H 𝓜 𝓡 wired)
    (λ κs. (rawptr_vals, tt)) (λ κs. (rawptr_Tells, tt)) (λ κs qs bounds a before are.
    let s : Ptr → W.Ghost = λ p. ((κs, qs, bounds, (p, tt), (rawptr_vals p, tt)), before) in
    qed 𝓛 (raw (on_entry 𝓛 f.signature κs qs a (s a.0).0.4) ∷ (‵ (lies_at R full_share a.0 before) ⊛ raw (fact 𝓤 (before ≡ ended_space))) ∷ []) ∵ drop ! $ split ! $
    move ! (1 ∷ []) $ heard ! _ (λ was. in_a_block ! a.0 (λ p. lies_at R full_share p before) (id⊢ 𝓤 _) (λ b o e.
    regoal ! (λ p. prop (WpFn 𝓤 𝓛.H 𝓣.C 𝓣.Λ code.function (rawptr_vals p ++ []) (W.post (s p)))) e refl $
    use1 𝓛 (some (λ (v : Val). ‵ (fat full_share (lone R.mir) b o v) ⊛ ‵ (R.own_val before (v ∷ [])))) (part_out 𝓛 R refl full_share before b o) $
    pick ! (λ v. split ! $ move ! (1 ∷ []) $
    peeks ! R (Is R) (shows 𝓛 R) before (v ∷ []) (λ is. let typed = ((laws.the_row_laws.lawful 𝓛).typed before _ is).0 in
    -- [the space; its cell]
    enter ! _ _ _ _ _ $ alloc_all ! (λ l. pass_all ! refl ((tt, tt), tt) $
    sets ! (of_opd ! (get ! refl)) refl (tt, tt) $
    sets ! (of_opd ! (load ! (through ! refl (stop !)) (look ! 1 refl))) refl typed $ forget ! 1 refl $
    let G = triple_of 𝓛 g.signature (g.spec 𝓛 𝓜.mem 𝓡.returns) in
    let y : G.Ghost = ((tt, tt, tt, (before, tt), (v ∷ [], tt)), tt) in
    nothing ! $ move ! (1 ∷ 0 ∷ []) $ join ! $ nothing ! $ join ! $ nothing ! $ move ! (1 ∷ 0 ∷ []) $ use2 𝓛 (raw (G.pre y)) (id⊢ 𝓤 _) $
    calls_at ! (framed 𝓤 𝓛.H 𝓜 (tables 𝓤 𝓛.H 𝓜 𝓡 𝓡.env)) G (met 𝓤 𝓛 𝓜 𝓡 (code.calls-rlsf_pool_calls::space::discard 𝓡.env wired)) y
    (and_then ! (get ! refl) (no_more !)) (λ u.
    use1 𝓛 (later (some (λ (r : Unit {0}). (‵ ftrue ⊛ ‵ (unit.own_val r (u ∷ []))) ⊛
    some (λ (ws : Lasts g.ended tt (before, tt)). ‵ (lasts g.ended y.0.0 y.0.3 ws) ⊛ ‵ ftrue)))) (id⊢ 𝓤 _) $
    await ! tt $ pick ! (λ r. split ! $ split ! $ drop ! $ feq_l ! (λ is_unit. pick ! (λ ws. split ! $ drop ! $ drop ! $
    lands_as ! (ap only is_unit) refl (tt, tt) $
    sets ! (of_opd ! (unit_lit !)) refl (tt, tt) $
    returns ! (look_at ! 0 refl) $ free_all ! refl $
    suffices ! _ (ends_at 𝓛 f.ended stayed c (s (block_ptr b o)) vunit tt (tt, tt) (tt, tt)) $
    feq_i ! _ (vunit ∷ []) _ refl $ nothing ! $ nothing ! $ join ! $ nothing ! $ group ! 3 $ done !))))))))))
