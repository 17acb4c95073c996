-- Shows that `begin` makes a memory of the units, and keeps the ticket for the payload. Assumes `Logic`.
use Rattle.std.proofs.Common.{◌≡◌, ◌∙◌, ◌/◌, ◌%◌, ◌^◌, ◌<◌, Bool, true, false, T, List, [], ◌∷◌, length, refl, sym, arith}
use Rattle.std.proofs.Common.{lit<, w64}
use Rattle.std.specs.Prelude.{◌&&◌}
use mir.Val.{Val}
use base.Logic.{never, id⊢, emp}
use base.Fml.{Fml, ftrue}
use contract.Monad.{fact, fact_i}
use contract.Running.{tables}
use types.Kit.{‵, raw, ◌⊛◌, some, later, at_ret, ◌$◌, ◌∵◌, !, qed, move, keep, drop, use0, use1, use2, split, join, fsplit, fjoin, pick, await, rewrite, suffices}
use types.Kit.{done}
use types.Part.{whole, sub, agg}
use types.Run.{stop, fld, lit, of_opd, no_more, and_then, first, blocks, exec, returns, enter}
use types.ByLocal.{alloc_all, pass_all, free_all, look_at, get, get_in, sets, lands_last, env}
use denote.Builtin.{usize}
use denote.Exit.{yes}
use denote.Laws.{Is, shows}
use denote.RattleType.{owns}
use denote.Plain.{uint_vals, uint_Makes}
use denote.RawPtr.{Ptr, RawPtr, block_ptr, in_a_block, room_for, rawptr_vals, rawptr_Makes}
use denote.Signature.{plain, types_at}
use denote.Steps.{nothing, owned, heard, peeks}
use denote.Struct.Tuple.{Tuple}
use denote.Triple.Call.{calls_at_last}
use denote.Triple.Clauses.{lasts}
use denote.Triple.Spec.{triple_of}
use denote.Triple.Table.{framed}
use denote.Triple.Walked.{Stays, walk_of, stay_dropped, Goes-dropped, ends_at}
use Rattle.core.proofs.alloc.Calls.{Goes-blank}
use Rattle.core.proofs.alloc.Shapes.{after}
use Rattle.core.proofs.mem.Facts.{says_two}
use Rattle.std.proofs.raw_atomic.Walks.{proved}
use Rattle.std_heap.proofs.Handle.{heap_val, heap_Tells}
use Rattle.std_heap.specs.contracts.Global.{the_row as Heap}
use Rattle.rlsf_base.specs.Changes.{IsAllOwn}
use Rattle.rlsf_base.specs.RawParts.{CanStart}
use Rattle.rlsf_base.specs.OpenSpace.{home_of, place_in}
use Rattle.rlsf_base.specs.Steps.Ownership.{room_at, units_ty}
use Rattle.rlsf_base.proofs.RawBlock.PointerValues.{room-complete, spot_val, spot_own, spot_told, spot_made, spot_typed, ptr_typed}
use Rattle.rlsf_base.proofs.RawBlock.Values.{two_val, two_of}
use Rattle.rlsf_base.specs.contracts.memory.open_memory.OpenMemory as memory
use Rattle.rlsf_base.proofs.memory.open_memory.OpenMemory.TheLaws as memory_laws
use Rattle.rlsf_base.specs.contracts.memory.unit_payload.UnitPayload as payload_type
use Rattle.rlsf_base.proofs.memory.unit_payload.UnitPayload.TheLaws.{lowers as payload_lowers}
use Rattle.rlsf_base.specs.contracts.memory.open_memory.OpenMemory.from_raw_parts as g
use Rattle.rlsf_base.proofs.memory.open_memory.OpenMemory.from_raw_parts.Met.{met as made_met}
use Rattle.rlsf_local_heap.specs.contracts.lease.Lease as lease_type
use Rattle.rlsf_local_heap.proofs.SmallerUnits.{units-lent}
use Rattle.rlsf_local_heap.specs.contracts.lease.Lease.begin as f
use Rattle.rlsf_local_heap.proofs.lease.Lease.begin.Statement.{statement}
use Rattle.rlsf_local_heap.proofs.lease.Lease.begin.Code as code

both : (s t : Bool) → T s → T t → T (s && (t && true))
both true true p q = tt
both true false p q = q
both false t p q = p

abbrev stayed : Stays f.ended.signature.params f.ended.kept
stayed = (stay_dropped _ yes, (stay_dropped (plain (λ _. payload_type.the_row)) f.ended.kept.1.0, tt))

pub begin_spec : {M : Type 1} → statement M
begin_spec 𝓤 𝓛 𝓜 𝓡 wired =
    let c = f.clauses 𝓛 𝓜.mem 𝓡.returns in let W = walk_of 𝓛 f.ended stayed c in let 𝓣 = tables 𝓤 𝓛.H 𝓜 𝓡 𝓡.env in
    proved 𝓛 f.ended stayed c 𝓜 𝓡
    (Goes-dropped 𝓛 0 (plain (λ _. Heap)) yes (λ κs x w. refl), (Goes-blank 𝓛 0 (plain (λ _. payload_type.the_row)) f.ended.kept.1.0 (λ κs x w. tt), tt))
    f.Key.name code.function (code.unfolded 𝓤 𝓛.H 𝓜 𝓡 wired)
    (λ κs. ((λ _. heap_val ∷ []), ((λ d. spot_val d.ptr d.len ∷ []), tt))) (λ κs. (heap_Tells, (payload_lowers.val_is, tt))) (λ κs qs bounds a none are.
    let h = a.0 in let d = a.1.0 in let p = d.ptr in let len = d.len in
    let vss : List Val × (List Val × Unit {0}) = (heap_val ∷ [], (spot_val p len ∷ [], tt)) in
    let y : W.Ghost = ((κs, qs, bounds, a, vss), none) in
    let fits : len < 2 ^ 64 = (spot_told p len (spot_val p len ∷ []) are.1.0.0).1 in
    let Asked : Type 0 = (len < 2 ^ 59) × (d.kept ≡ 0) in
    qed 𝓛 ((‵ ftrue ⊛ ‵ (owns (types_at f.signature.params κs) a vss)) ∷ raw (fact 𝓤 Asked) ∷ []) ∵
    move ! (1 ∷ []) $ heard ! Asked (λ asked. split ! $ drop ! $ fsplit ! $ move ! (1 ∷ []) $ fsplit ! $ fsplit ! $ drop ! $ fsplit ! $ keep ! (0 ∷ 1 ∷ 3 ∷ []) $
    -- [the ticket; the room; the handle of the system's heap]
    enter ! _ _ _ _ _ $ alloc_all ! (λ l. pass_all ! refl ((tt, ((tt, tt), tt)), (spot_typed p len fits, tt)) $
    sets ! (of_opd ! (get_in ! (fld ! refl (stop !)) (sub ! 0 refl (whole !)))) refl (ptr_typed p) $
    sets ! (of_opd ! (get_in ! (fld ! refl (stop !)) (sub ! 1 refl (whole !)))) refl (tt, record { fits = fits }) $ move ! (1 ∷ []) $
    rewrite ! 0 (λ (F : Fml). ‵ F) (room-complete p len d.kept asked.1) refl $
    in_a_block ! p (λ (q : Ptr). room_for (units_ty (len / 16)) q) (id⊢ 𝓤 (never 𝓤)) (λ b o e.
    use1 𝓛 (‵ (room_at (block_ptr b o) 64 len)) (units-lent 𝓛 b o 64 len refl d.placed.aligned.1) $ rewrite ! 0 (λ (q : Ptr). ‵ (room_at q 64 len)) (sym e) refl $
    -- [the room; the ticket; the handle]
    let G = triple_of 𝓛 g.signature (g.spec 𝓛 𝓜.mem 𝓡.returns) in
    let z : G.Ghost = ((tt, tt, tt, (h, (p, (64, (len, tt)))), (heap_val ∷ [], (rawptr_vals p, (uint_vals w64 64, (uint_vals w64 len, tt))))), tt) in
    let Can : Type 0 = CanStart 64 len in
    use0 𝓛 (raw (fact 𝓤 Can)) (fact_i 𝓤 Can (emp 𝓤) (refl, omega arith, omega (arith, asked.0), asked.0)) $ move ! (1 ∷ 0 ∷ []) $ join ! $
    nothing ! $ owned ! usize _ (uint_Makes 𝓛 w64) len _ (refl, fits) $ join ! $ owned ! usize _ (uint_Makes 𝓛 w64) 64 _ (refl, lit< tt) $ join ! $
    owned ! RawPtr _ (rawptr_Makes 𝓛) p _ refl $ join ! $
    move ! (3 ∷ 0 ∷ []) $ join ! $ nothing ! $ join ! $ join ! $ use1 𝓛 (raw (G.pre z)) (id⊢ 𝓤 _) $
    first ! $ blocks ! $ calls_at_last ! (framed 𝓤 𝓛.H 𝓜 𝓣) G
    (made_met 𝓤 𝓛 𝓜 𝓡 (code.calls-rlsf_base::memory::open_memory::OpenMemory::from_raw_parts 𝓡.env wired)) z
    (and_then ! (get ! refl) (and_then ! (get ! refl) (and_then ! (lit ! tt) (and_then ! (get ! refl) (no_more !))))) (λ v.
    use1 𝓛 (later (some (λ (r : (memory.the_row).Denot). (‵ ftrue ⊛ ‵ ((memory.the_row).own_val r (v ∷ []))) ⊛
    some (λ (ws : Unit {0} × (Unit {0} × (Unit {0} × (Unit {0} × Unit {0})))). ‵ (lasts g.ended z.0.0 z.0.3 ws) ⊛
    (raw (fact 𝓤 (r.start ≡ 64)) ⊛
    (raw (fact 𝓤 (length r.bytes ≡ len)) ⊛
    (raw (fact 𝓤 ((r.touches ≡ 0) × (r.copied ≡ 0))) ⊛
    (raw (fact 𝓤 ((r.view.base.ptr ≡ p) × (place_in r.view 64 ≡ 0))) ⊛ raw (fact 𝓤 (IsAllOwn r.out)))))))))) (id⊢ 𝓤 _) $
    await ! tt $ pick ! (λ r. split ! $ split ! $ drop ! $
    peeks ! memory.the_row (Is memory.the_row) (shows 𝓛 memory.the_row) r (v ∷ []) (λ is. let typed = ((memory_laws.the_row_laws.lawful 𝓛).typed r _ is).0 in
    lands_last ! refl typed $ exec ! 𝓣.C 𝓣.Λ (env code.Mir.locals l) (after 3 (code.function).body) (at_ret _ (W.post y)) $
    move ! (1 ∷ []) $ pick !
    (λ ws. split ! $ drop ! $ split ! $
    heard ! _ (λ its_start. split ! $ heard ! _ (λ its_len. split ! $ heard ! _ (λ its_counts. split ! $ heard ! _ (λ its_block. heard ! _ (λ its_out.
    -- [the memory; the ticket]
    sets ! (of_opd ! (get ! refl)) refl typed $ sets ! (of_opd ! (get ! refl)) refl typed $
    sets ! (agg ! (and_then ! (get ! refl) (and_then ! (get ! refl) (no_more !)))) refl (spot_typed p len fits) $
    sets ! (agg ! (and_then ! (get ! refl) (and_then ! (get ! refl) (no_more !)))) refl (both _ _ typed.0 (spot_typed p len fits).0, (typed.1, ((spot_typed p len fits).1, tt))) $
    returns ! (look_at ! 0 refl) $ free_all ! refl $
    let x : (lease_type.the_row).Denot = record {
      ptr = p;
      len = len;
      home = d.home;
      name = d.name;
      key = d.key;
      start = d.start;
      placed = d.placed;
      memory = home_of r;
      leased = record { at = its_block.0; first = (λ i. place_in r.view (its_start i)) ∙ its_block.1; long = its_len; aligned = (λ i. its_start i % 16) };
    } in
    move ! (1 ∷ []) $ use0 𝓛 (‵ (spot_own p len (spot_val p len ∷ []))) (spot_made 𝓛 p len fits) $ fjoin ! $ move ! (1 ∷ 0 ∷ []) $
    use2 𝓛 (‵ ((Tuple (memory.the_row ∷ lease_type.the_row ∷ [])).own_val (r, x) (two_val v (spot_val p len) ∷ [])))
    (two_of 𝓛 memory.the_row lease_type.the_row r x v (spot_val p len)) $
    suffices ! _ (ends_at 𝓛 f.ended stayed c y (two_val v (spot_val p len)) (r, x) (tt, (tt, tt)) (tt, (tt, tt))) $ says_two ! ((refl, its_start, its_out), (refl, refl, its_len)) $
    nothing ! $ nothing ! $ join ! $ nothing ! $ join ! $ nothing ! $ done !)))))))))))))
