-- Shows that `readdressed` hands the bytes of a block from one memory to the next. Assumes `Logic`.
use Rattle.std.proofs.Common.{◌≡◌, ℕ, ◌%◌, [], ◌∷◌, length, refl, ap, ◌∙◌, w64, List}
use Rattle.std.specs.Prelude.{eqb, if◌then◌else◌}
use mir.Val.{Val, vint}
use base.Logic.{id⊢}
use base.Fml.{ftrue}
use contract.Monad.{fact, fact_i}
use contract.Running.{tables}
use types.Kit.{at_ret, ‵, raw, ◌⊛◌, some, later, ◌$◌, ◌∵◌, !, qed, move, keep, drop, use0, use1, split, join, fsplit, pick, await, rewrite, suffices, group, done}
use types.Run.{first, blocks, exec, of_opd, no_more, and_then, returns, enter}
use types.ByLocal.{alloc_all, pass_all, free_all, look_at, get, sets, lands_as, lands_last, env}
use base.Logic.{emp}
use denote.Builtin.{usize}
use denote.Exit.{yes}
use denote.Laws.{Is, shows}
use denote.RattleType.{owns}
use denote.Plain.{uint_vals, uint_Tells, uint_Makes}
use denote.RawPtr.{Ptr, RawPtr, rawptr_Lawful}
use denote.Signature.{plain}
use denote.Steps.{nothing, owned, heard, peeks}
use denote.Triple.Call.{calls_at, calls_at_last}
use denote.Triple.Clauses.{lasts}
use denote.Triple.Spec.{triple_of}
use denote.Triple.Walked.{Stays, walk_of, stay_dropped, Goes-dropped, ends_at}
use Rattle.core.proofs.alloc.Calls.{Goes-blank}
use Rattle.core.proofs.atomic.Steps.{fm}
use Rattle.std.proofs.raw_atomic.Walks.{proved}
use Rattle.std_heap.proofs.Handle.{heap_val, heap_Tells}
use Rattle.std_heap.specs.contracts.Global.{the_row as Heap}
use Rattle.rlsf_base.specs.RawParts.{CanStart, LiesAtBlock}
use Rattle.rlsf_base.specs.OpenSpace.{place_in}
use Rattle.rlsf_base.specs.Steps.Ownership.{bytes_at_pointer, bytes_own, units_for, units_from}
use Rattle.rlsf_base.specs.contracts.memory.Memory as memory
use Rattle.rlsf_base.proofs.memory.Memory.TheLaws as memory_laws
use Rattle.rlsf_base.specs.contracts.memory.block.RawParts as parts_type
use Rattle.rlsf_base.proofs.memory.block.RawParts.TheLaws as parts_laws
use Rattle.rlsf_base.specs.contracts.memory.block.RawParts.release as g
use Rattle.rlsf_base.proofs.memory.block.RawParts.release.Met.{met as release_met}
use Rattle.rlsf_base.specs.contracts.memory.Memory.from_raw_parts as k
use Rattle.rlsf_base.proofs.memory.Memory.from_raw_parts.Met.{met as made_met}
use Rattle.rlsf_test_base.specs.contracts.memory.readdressed as f
use Rattle.rlsf_test_base.proofs.memory.readdressed.Statement.{statement}
use Rattle.rlsf_test_base.proofs.memory.readdressed.Code as code

abbrev stayed : Stays f.ended.signature.params f.ended.kept
stayed = (stay_dropped _ yes, (stay_dropped _ yes, (stay_dropped _ yes, (stay_dropped (plain (λ _. parts_type.the_row)) f.ended.kept.1.1.1.0, tt))))

pub readdressed_spec : {M : Type 1} → statement M
readdressed_spec 𝓤 𝓛 𝓜 𝓡 wired =
    let c = f.clauses 𝓛 𝓜.mem 𝓡.returns in let W = walk_of 𝓛 f.ended stayed c in let 𝓣 = tables 𝓤 𝓛.H 𝓜 𝓡 𝓡.env in
    let goes = Goes-dropped 𝓛 0 (plain (λ _. usize)) yes (λ κs x w. refl) in
    proved 𝓛 f.ended stayed c 𝓜 𝓡 (
      Goes-dropped 𝓛 0 (plain (λ _. Heap)) yes (λ κs x w. refl),
      (goes, (goes, (Goes-blank 𝓛 0 (plain (λ _. parts_type.the_row)) f.ended.kept.1.1.1.0 (λ κs x w. tt), tt))),
    )
    f.Key.name code.function (code.unfolded 𝓤 𝓛.H 𝓜 𝓡 wired)
    (λ κs. ((λ _. heap_val ∷ []), (uint_vals w64, (uint_vals w64, ((λ r. parts_laws.lowers.lowered r ∷ []), tt)))))
    (λ κs. (heap_Tells, (uint_Tells w64, (uint_Tells w64, (parts_laws.lowers.val_is, tt))))) (λ κs qs bounds a none are.
    let h = a.0 in let start = a.1.0 in let len = a.1.1.0 in let parts = a.1.1.1.0 in let pv : List Val = parts_laws.lowers.lowered parts ∷ [] in
    let y : W.Ghost = ((κs, qs, bounds, a, (heap_val ∷ [], (uint_vals w64 start, (uint_vals w64 len, (pv, tt))))), none) in
    let Asked : Type 0 = LiesAtBlock parts × (parts.bytes.out ≡ []) × (parts.len ≡ len) × (parts.start % 16 ≡ start % 16) × CanStart start len in
    qed 𝓛 ((‵ ftrue ⊛ ‵ (owns (Heap ∷ usize ∷ usize ∷ parts_type.the_row ∷ []) a y.0.4)) ∷ raw (fact 𝓤 Asked) ∷ []) ∵
    move ! (1 ∷ []) $ heard ! Asked (λ asked. split ! $ drop ! $ fsplit ! $ move ! (1 ∷ []) $ fsplit ! $ drop ! $ fsplit ! $ drop ! $ fsplit ! $ keep ! (0 ∷ 2 ∷ []) $
    -- [the parts; the heap's handle]
    peeks ! parts_type.the_row (Is parts_type.the_row) (shows 𝓛 parts_type.the_row) parts pv (λ is.
    enter ! 𝓣.C 𝓣.Λ code.function (heap_val ∷ vint w64 start ∷ vint w64 len ∷ parts_laws.lowers.lowered parts ∷ []) (W.post y) $ alloc_all !
    (λ l. pass_all ! refl (
      (tt, ((tt, tt), tt)),
      ((tt, record { fits = are.1.0.1 }), ((tt, record { fits = are.1.1.0.1 }), (((parts_laws.the_row_laws.lawful 𝓛).typed parts _ is).0, tt))),
    ) $
    sets ! (of_opd ! (get ! refl)) refl ((parts_laws.the_row_laws.lawful 𝓛).typed parts _ is).0 $
    let G = triple_of 𝓛 g.signature (g.spec 𝓛 𝓜.mem 𝓡.returns) in
    let z : G.Ghost = ((tt, tt, tt, (parts, tt), (pv, tt)), tt) in
    let n = length parts.bytes.bytes in
    let Owed : Type 0 = (parts.bytes.at ≡ parts.base.ptr) × (parts.bytes.skip ≡ 0) × (parts.bytes.out ≡ []) × (parts.bytes.units ≡ units_from parts.start n) in
    nothing ! $ move ! (1 ∷ 0 ∷ []) $ join ! $ nothing ! $ join ! $
    use0 𝓛 (raw (fact 𝓤 Owed)) (fact_i 𝓤 Owed (emp 𝓤) (asked.0.0, asked.0.1, asked.1, asked.0.3)) $ move ! (1 ∷ 0 ∷ []) $ join ! $ use1 𝓛 (raw (G.pre z))
    (id⊢ 𝓤 _) $
    calls_at ! (fm 𝓛 𝓜 𝓡) G (release_met 𝓤 𝓛 𝓜 𝓡 (code.calls-rlsf_base::memory::block::RawParts::release 𝓡.env wired)) z
    (and_then ! (get ! refl) (no_more !)) (λ v.
    use1 𝓛 (later (some (λ (p : Ptr). (‵ ftrue ⊛ ‵ (RawPtr.own_val p (v ∷ []))) ⊛
    some (λ (ws : (Unit {0} × (Unit {0} × (Unit {0} × (Unit {0} × Unit {0})))) × Unit {0}). ‵ (lasts g.ended z.0.0 z.0.3 ws) ⊛
    (‵ (bytes_at_pointer p parts.start parts.bytes.bytes) ⊛ raw (fact 𝓤 (p ≡ parts.base.ptr))))))) (id⊢ 𝓤 _) $
    await ! tt $ pick ! (λ p. split ! $ split ! $ drop ! $
    peeks ! RawPtr (Is RawPtr) (shows 𝓛 RawPtr) p (v ∷ []) (λ is_ptr. lands_as ! refl refl ((rawptr_Lawful 𝓛).typed p _ is_ptr).0 $
    move ! (1 ∷ []) $ pick ! (λ ws. split ! $ drop ! $ split ! $ move ! (1 ∷ []) $ drop ! $
    rewrite ! 0 (λ (u : ℕ). ‵ (bytes_own p 0 parts.bytes.bytes [] u)) (ap (λ r. if eqb r 0 then units_for 0 n else 0) asked.3) refl $
    -- [the bytes; the pointer; the heap's handle]
    let K = triple_of 𝓛 k.signature (k.spec 𝓛 𝓜.mem 𝓡.returns) in
    let m : K.Ghost = ((tt, tt, tt, (h, (p, (start, (len, tt)))), (heap_val ∷ [], (v ∷ [], (uint_vals w64 start, (uint_vals w64 len, tt))))), parts.bytes.bytes) in
    let Given : Type 0 = (length parts.bytes.bytes ≡ len) × CanStart start len in
    use0 𝓛 (raw (fact 𝓤 Given)) (fact_i 𝓤 Given (emp 𝓤) (asked.0.2 ∙ asked.2, asked.4)) $ move ! (1 ∷ 0 ∷ []) $ join ! $
    nothing ! $ owned ! usize _ (uint_Makes 𝓛 w64) len _ (refl, are.1.1.0.1) $ join ! $ owned ! usize _ (uint_Makes 𝓛 w64) start _ (refl, are.1.0.1) $ join ! $
    move ! (2 ∷ 0 ∷ []) $ join ! $ move ! (2 ∷ 0 ∷ []) $ join ! $ nothing ! $ join ! $ join ! $ use1 𝓛 (raw (K.pre m)) (id⊢ 𝓤 _) $
    first ! $ blocks ! $ calls_at_last ! (fm 𝓛 𝓜 𝓡) K (made_met 𝓤 𝓛 𝓜 𝓡 (code.calls-rlsf_base::memory::Memory::from_raw_parts 𝓡.env wired)) m
    (and_then ! (get ! refl) (and_then ! (get ! refl) (and_then ! (get ! refl) (and_then ! (get ! refl) (no_more !))))) (λ u.
    use1 𝓛 (later (some (λ (r : (memory.the_row).Denot). (‵ ftrue ⊛ ‵ ((memory.the_row).own_val r (u ∷ []))) ⊛
    some (λ (ws' : Unit {0} × (Unit {0} × (Unit {0} × (Unit {0} × Unit {0})))). ‵ (lasts k.ended m.0.0 m.0.3 ws') ⊛
    (raw (fact 𝓤 (r.start ≡ start)) ⊛
    (raw (fact 𝓤 (r.bytes ≡ parts.bytes.bytes)) ⊛
    (raw (fact 𝓤 ((r.touches ≡ 0) × (r.copied ≡ 0))) ⊛ raw (fact 𝓤 ((r.view.base.ptr ≡ p) × (place_in r.view start ≡ 0)))))))))) (id⊢ 𝓤 _) $
    await ! tt $ pick ! (λ r. split ! $ split ! $ drop ! $
    peeks ! memory.the_row (Is memory.the_row) (shows 𝓛 memory.the_row) r (u ∷ [])
    (λ is_memory. lands_last ! refl ((memory_laws.the_row_laws.lawful 𝓛).typed r _ is_memory).0 $
    exec ! 𝓣.C 𝓣.Λ (env code.function.locals l) code.Mir.t-4 (at_ret (env code.function.locals l) (W.post y)) $ sets ! (of_opd ! (get ! refl)) refl
    ((memory_laws.the_row_laws.lawful 𝓛).typed r _ is_memory).0 $
    move ! (1 ∷ []) $ pick ! (λ ws'. split ! $ drop ! $ split ! $ heard ! _ (λ its_start. split ! $ heard ! _ (λ its_bytes. drop ! $
    returns ! (look_at ! 0 refl) $ free_all ! refl $
    suffices ! _ (ends_at 𝓛 f.ended stayed c y u r (tt, (tt, (tt, ((tt, (tt, (tt, (tt, tt)))), tt)))) (tt, (tt, (tt, (tt, tt))))) $
    nothing ! $ nothing ! $ join ! $ nothing ! $ join ! $ nothing ! $ join ! $ nothing ! $ join ! $ nothing ! $ group ! 3 $
    use0 𝓛 (raw (fact 𝓤 (r.bytes ≡ parts.bytes.bytes))) (fact_i 𝓤 (r.bytes ≡ parts.bytes.bytes) (emp 𝓤) its_bytes) $
    use0 𝓛 (raw (fact 𝓤 (r.start ≡ start))) (fact_i 𝓤 (r.start ≡ start) (emp 𝓤) its_start) $ join ! $ move ! (1 ∷ 0 ∷ []) $ done !))))))))))))))
