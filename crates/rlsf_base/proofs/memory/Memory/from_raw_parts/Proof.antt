-- Shows that `from_raw_parts` makes a memory of the caller's bytes. Assumes `Logic`.
use Rattle.std.proofs.Common.{◌≡◌, ℕ, [], ◌∷◌, length, refl, ◌∙◌, ap, w64}
use base.Logic.{id⊢}
use base.Fml.{ftrue}
use contract.Monad.{fact}
use contract.Running.{tables}
use types.Kit.{‵, raw, ◌⊛◌, ◌$◌, ◌∵◌, !, qed, move, keep, drop, use1, use2, split, join, fsplit, suffices, group, done}
use types.Run.{of_opd, no_more, and_then, returns, enter}
use types.ByLocal.{alloc_all, pass_all, free_all, look_at, get, sets, lands_as}
use denote.Builtin.{usize}
use denote.RattleType.{owns}
use denote.Plain.{uint_vals, uint_Tells, uint_Makes}
use denote.RawPtr.{RawPtr, rawptr_vals, rawptr_Tells, rawptr_Makes, rawptr_Lawful}
use denote.Steps.{nothing, owned, heard}
use denote.Triple.Call.{calls_at}
use denote.Triple.Clauses.{lasts}
use denote.Triple.Spec.{triple_of}
use denote.Triple.Table.{framed}
use denote.Triple.Walked.{Stays, walk_of, ends_at}
use Rattle.std.proofs.raw_atomic.Walks.{proved}
use Rattle.std_heap.proofs.Handle.{heap_val, heap_Tells}
use Rattle.std_heap.specs.contracts.Global.{the_row as Heap}
use Rattle.rlsf_base.proofs.RawBlock.Dropped.{all_dropped, all_go}
use Rattle.rlsf_base.specs.RawParts.{CanStart}
use Rattle.rlsf_base.specs.OpenSpace.{place_in}
use Rattle.rlsf_base.specs.Steps.Ownership.{bytes_at_pointer, units_from}
use Rattle.rlsf_base.specs.contracts.memory.Memory as memory
use Rattle.rlsf_base.proofs.memory.Memory.TheLaws as memory_laws
use Rattle.rlsf_base.proofs.RawBlock.Walks.{hears, told}
use Rattle.rlsf_base.specs.contracts.memory.block.Bytes as owner
use Rattle.rlsf_base.proofs.memory.block.Bytes.TheLaws as owner_laws
use Rattle.rlsf_base.specs.contracts.memory.Memory.from_raw_parts as f
use Rattle.rlsf_base.proofs.memory.Memory.from_raw_parts.Statement.{statement}
use Rattle.rlsf_base.proofs.memory.Memory.from_raw_parts.Code as code
use Rattle.rlsf_base.specs.contracts.memory.block.adopt as g
use Rattle.rlsf_base.proofs.memory.block.adopt.Met.{met as adopt_met}
use Rattle.rlsf_base.specs.contracts.memory.Memory.over as k
use Rattle.rlsf_base.proofs.memory.Memory.over.Met.{met as over_met}

pub from_raw_parts_spec : {M : Type 1} → statement M
from_raw_parts_spec 𝓤 𝓛 𝓜 𝓡 wired =
    let stayed : Stays f.ended.signature.params f.ended.kept = all_dropped f.ended.signature.params f.ended.kept in
    let c = f.clauses 𝓛 𝓜.mem 𝓡.returns in let W = walk_of 𝓛 f.ended stayed c in
    proved 𝓛 f.ended stayed c 𝓜 𝓡 (all_go 𝓛 0 f.ended.signature.params f.ended.kept ((λ κs x f. tt), ((λ κs x f. tt), ((λ κs x f. tt), ((λ κs x f. tt), tt)))))
    f.Key.name code.function (code.unfolded 𝓤 𝓛.H 𝓜 𝓡 wired)
    (λ κs. ((λ _. heap_val ∷ []), (rawptr_vals, (uint_vals w64, (uint_vals w64, tt))))) (λ κs. (heap_Tells, (rawptr_Tells, (uint_Tells w64, (uint_Tells w64, tt)))))
    (λ κs qs bounds a bytes are.
    let h = a.0 in let p = a.1.0 in let start = a.1.1.0 in let len = a.1.1.1.0 in
    let y : W.Ghost = ((κs, qs, bounds, a, (heap_val ∷ [], (rawptr_vals p, (uint_vals w64 start, (uint_vals w64 len, tt))))), bytes) in
    let Asked : Type 0 = (length bytes ≡ len) × CanStart start len in
    qed 𝓛 ((‵ ftrue ⊛ ‵ (owns (Heap ∷ RawPtr ∷ usize ∷ usize ∷ []) a y.0.4)) ∷ (‵ (bytes_at_pointer p start bytes) ⊛ raw (fact 𝓤 Asked)) ∷ []) ∵
    move ! (1 ∷ []) $ split ! $ move ! (1 ∷ []) $ heard ! Asked (λ asked. move ! (1 ∷ []) $ split ! $ drop ! $ fsplit ! $ keep ! (0 ∷ 2 ∷ []) $
    -- [the heap's handle; the bytes]
    enter ! _ _ _ _ _ $ alloc_all !
    (λ l. pass_all ! refl ((tt, ((tt, tt), tt)), (((rawptr_Lawful 𝓛).typed p _ refl).0, ((tt, record { fits = are.1.1.0.1 }), ((tt, record { fits = are.1.1.1.0.1 }), tt)))) $
    let G = triple_of 𝓛 g.signature (g.spec 𝓛 𝓜.mem 𝓡.returns) in
    let z : G.Ghost = ((tt, tt, tt, (p, (start, tt)), (rawptr_vals p, (uint_vals w64 start, tt))), bytes) in
    move ! (1 ∷ []) $ nothing ! $ owned ! usize _ (uint_Makes 𝓛 w64) start _ (refl, are.1.1.0.1) $ join ! $ owned ! RawPtr _ (rawptr_Makes 𝓛) p _ refl $ join ! $ nothing !
    $ join ! $ join ! $ use1 𝓛 (raw (G.pre z)) (id⊢ 𝓤 _) $
    calls_at ! (framed 𝓤 𝓛.H 𝓜 (tables 𝓤 𝓛.H 𝓜 𝓡 𝓡.env)) G (adopt_met 𝓤 𝓛 𝓜 𝓡 (code.calls-rlsf_base::memory::block::adopt 𝓡.env wired)) z
    (and_then ! (get ! refl) (and_then ! (get ! refl) (no_more !))) (λ v.
    hears ! tt owner.the_row v (lasts g.ended z.0.0 z.0.3)
    (λ d. raw (fact 𝓤 ((d.at ≡ p) × (d.skip ≡ 0) × (d.bytes ≡ bytes) × (d.out ≡ []) × (d.units ≡ units_from start (length bytes))))) (id⊢ 𝓤 _) (λ d is. heard ! _ (λ did.
    lands_as ! refl refl ((owner_laws.the_row_laws.lawful 𝓛).typed d _ is).0 $
    -- [the owner of the bytes; the heap's handle]
    sets ! (of_opd ! (get ! refl)) refl ((owner_laws.the_row_laws.lawful 𝓛).typed d _ is).0 $
    let K = triple_of 𝓛 k.signature (k.spec 𝓛 𝓜.mem 𝓡.returns) in
    let m : K.Ghost = ((tt, tt, tt, (h, (p, (start, (len, (d, tt))))), (heap_val ∷ [], (rawptr_vals p, (uint_vals w64 start, (uint_vals w64 len, (v ∷ [], tt)))))), tt) in
    nothing ! $ move ! (1 ∷ 0 ∷ []) $ join ! $ owned ! usize _ (uint_Makes 𝓛 w64) len _ (refl, are.1.1.1.0.1) $ join ! $ owned ! usize _ (uint_Makes 𝓛 w64) start _
    (refl, are.1.1.0.1) $ join ! $ owned ! RawPtr _ (rawptr_Makes 𝓛) p _ refl $ join ! $ move ! (1 ∷ 0 ∷ []) $ join ! $ nothing ! $ join ! $
    let Owed : Type 0 = (d.at ≡ p) × (d.skip ≡ 0) × (length d.bytes ≡ len) × (d.out ≡ []) × (d.units ≡ units_from start len) in
    told ! asked.1 $ told ! {φ = Owed} (did.0, did.1, ap length did.2 ∙ asked.0, did.3, did.4 ∙ ap (λ (n : ℕ). units_from start n) asked.0) $ join ! $ move ! (1 ∷ 0 ∷ []) $
    use2 𝓛 (raw (K.pre m)) (id⊢ 𝓤 _) $
    calls_at ! (framed 𝓤 𝓛.H 𝓜 (tables 𝓤 𝓛.H 𝓜 𝓡 𝓡.env)) K (over_met 𝓤 𝓛 𝓜 𝓡 (code.calls-rlsf_base::memory::Memory::over 𝓡.env wired)) m
    (and_then ! (get ! refl) (and_then ! (get ! refl) (and_then ! (get ! refl) (and_then ! (get ! refl) (and_then ! (get ! refl) (no_more !)))))) (λ u.
    hears ! tt memory.the_row u (lasts k.ended m.0.0 m.0.3) (λ r. raw (fact 𝓤 (r.start ≡ start)) ⊛ (raw (fact 𝓤 (r.bytes ≡ d.bytes)) ⊛
    (raw (fact 𝓤 ((r.touches ≡ 0) × (r.copied ≡ 0))) ⊛ raw (fact 𝓤 ((r.view.base.ptr ≡ p) × (place_in r.view start ≡ 0)))))) (id⊢ 𝓤 _) (λ r is_memory.
    split ! $ heard ! _ (λ its_start. split ! $ heard ! _ (λ its_bytes. split ! $ heard ! _ (λ its_counts. heard ! _ (λ its_block.
    lands_as ! refl refl ((memory_laws.the_row_laws.lawful 𝓛).typed r _ is_memory).0 $
    returns ! (look_at ! 0 refl) $ free_all ! refl $
    suffices ! _ (ends_at 𝓛 f.ended stayed c y u r (tt, (tt, (tt, (tt, tt)))) (tt, (tt, (tt, (tt, tt))))) $
    nothing ! $ nothing ! $ join ! $ nothing ! $ join ! $ nothing ! $ join ! $ nothing ! $ join ! $ nothing ! $ group ! 3 $
    told ! its_block $ told ! its_counts $ join ! $ told ! (its_bytes ∙ did.2) $ join ! $ told ! its_start $ join ! $ move ! (1 ∷ 0 ∷ []) $ done !))))))))))))
