-- The laws of live payloads.
use Rattle.std.proofs.Common.{◌≡◌, ◌≢◌, ◌⊎◌, ℕ, ◌+◌, ◌-◌, ◌<◌, ◌≤◌, cond, eqb, filter, List, [], ◌∷◌, Option, Some, None}
use Rattle.std.proofs.Common.{true≢false, arith, refl, sym, ◌∙◌, ap, subst, inl, inr}
use Rattle.std.proofs.lemmas.Bool.{eq-eqb, eqb-true, ne_eqb}
use Rattle.rlsf_base.specs.declared.memory.range.Range.{Range}
use Rattle.rlsf_model_sizes.specs.PowerOfTwo.{IsPowerOfTwo}
use Rattle.rlsf_base.specs.Range.{end_of}
use Rattle.rlsf_model_sizes.specs.Sizes.{request_size}
use Rattle.rlsf_model.specs.Allocate.{placed, given, Places}
use Rattle.rlsf_model.specs.Laws.{LiveAddressesAreAligned, LiveAddressHasOneBlock, PayloadsAreDisjoint, PayloadLiesInOneChunk, HasSize, AllocationHasSize, ReallocationHasSize}
use Rattle.rlsf_model.specs.Laws.{ReallocationKeepsBytes, OtherPayloadsStay, UsedWasUsed, HandedOutIsNew, ReallocatedIsLive, LiveStays, ReleasedIsNotLive, FilledHasBytes}
use Rattle.rlsf_model.specs.Laws.{FillLeavesOthers, DeallocationLeavesOthers}
use Rattle.rlsf_model.specs.Lists.{IsIn}
use Rattle.rlsf_model.specs.Reallocate.{Keeps, Plan, plan, ReallocatesBy, Reallocates}
use Rattle.rlsf_model.specs.Run.{Fills, CallNames}
use Rattle.rlsf_model.specs.State.{State, Used, Holds, IsLive, usable, filled}
use Rattle.rlsf_model.specs.WellFormed.{covers, coverage, itself, IsUsed, IsWellFormed}
use Rattle.rlsf_model.proofs.Allocations.{placed-fits, IsUsed-placed}
use Rattle.rlsf_model.proofs.Changes.{Holds-unique, IsIn-others, IsIn-others_from}
use Rattle.rlsf_model.proofs.Choices.{choice-some}
use Rattle.rlsf_model.proofs.Coverage.{by_test, inside, before, behind, where_is, covers-inside, covers-le, coverage-IsIn, coverage-unique}
use Rattle.rlsf_model.proofs.Fillings.{filled_at-none, filled_if-here, IsIn-filled_other, IsIn-filled_other_from, filled_holds}
use Rattle.rlsf_model.proofs.Plans.{IsSoundPlan, IsSound-plan}
use Rattle.rlsf_model.proofs.Payloads.{payload_of-after, IsUsed-aligned, IsUsed-after_start, IsUsed-some}
use Rattle.rlsf_model.proofs.Tiling.{block_of, tiling_of, used-le, blocks-le, lies_in_chunk, IsPart-used}
use Rattle.rlsf_model.proofs.UsedBlocks.{stays, step_goes, was}
use Rattle.rlsf_model.proofs.Names.{moved, used_with_bytes}

pub live_addresses_are_aligned : LiveAddressesAreAligned
live_addresses_are_aligned fllen sllen memory s addr align w (u, (i, at), is) = grind (arith, IsUsed-aligned)

-- ---- one block an address

-- no used block of the list has the address
filter-none : (addr : ℕ) (used : List Used) → ((v : Used) → IsIn v used → v.payload ≢ addr) → filter (λ v. eqb v.payload addr) used ≡ []
filter-none addr [] none = refl
filter-none addr (x ∷ xs) none =
    ap (λ b. cond b (x ∷ filter (λ v. eqb v.payload addr) xs) (filter (λ v. eqb v.payload addr) xs)) (ne_eqb x.payload addr (none x (inl refl)))
    ∙ filter-none addr xs (λ v i. none v (inr i))

filter-one : (addr : ℕ) (u : Used) (used : List Used) (b : ℕ) → IsIn u used → u.payload ≡ addr
    → ((v : Used) → IsIn v used → v.payload ≡ addr → covers v.block b ≡ 1) → coverage block_of used b ≤ 1
    → filter (λ v. eqb v.payload addr) used ≡ u ∷ []
filter-one addr u [] b h at one few = absurd h
filter-one addr u (x ∷ xs) b h at one few = by_test (eqb x.payload addr)
    (λ e. let here = one x (inl refl) (eqb-true x.payload addr e) in
    let none : (v : Used) → IsIn v xs → v.payload ≢ addr = λ v i same. absurd (omega (arith, one v (inr i) same, coverage-IsIn block_of v xs b i)) in
    elim h [
      | inl same ↦ ap (λ b. cond b (x ∷ filter (λ v. eqb v.payload addr) xs) (filter (λ v. eqb v.payload addr) xs)) e ∙ ap (λ l. x ∷ l) (filter-none addr xs none)
          ∙ ap (λ v. v ∷ []) (sym same)
      | inr i ↦ absurd (none u i at)
    ])
    (λ e. elim h [
      | inl same ↦ absurd (true≢false (sym (eq-eqb x.payload addr (ap (λ v. v.payload) (sym same) ∙ at)) ∙ e))
      | inr i ↦ ap (λ b. cond b (x ∷ filter (λ v. eqb v.payload addr) xs) (filter (λ v. eqb v.payload addr) xs)) e
          ∙ filter-one addr u xs b i at (λ v j. one v (inr j)) (omega arith)
    ])

pub live_address_has_one_block : LiveAddressHasOneBlock
live_address_has_one_block fllen sllen memory s addr u w h =
    filter-one addr u s.used (addr - 1) h.0 h.1
    (λ v i at. let iv = w.used v i in covers-inside v.block (addr - 1) (omega (arith, at, IsUsed-after_start v iv)) (omega (arith, at, IsUsed-after_start v iv, iv.within)))
    (used-le s (tiling_of w) (addr - 1))

-- ---- where payloads lie

-- an address in a payload is in its block
usable-inside : (u : Used) → IsUsed u → (a : ℕ) → covers (usable u) a ≡ 1 → covers u.block a ≡ 1
usable-inside u is a one = grind (arith, IsUsed-after_start, where_is, covers-inside)

pub payloads_are_disjoint : PayloadsAreDisjoint
payloads_are_disjoint fllen sllen memory s u v a w iu iv apart =
    elim (where_is (usable u) a) [
      | inside one low high ↦ elim (where_is (usable v) a) [
        | inside two low' high' ↦
            absurd (apart (ap (λ x. x.payload)
            (coverage-unique block_of u v s.used a (used-le s (tiling_of w) a) iu iv (usable-inside u (w.used u iu) a one) (usable-inside v (w.used v iv) a two))))
        | before none low' ↦ omega arith
        | behind none high' ↦ omega arith
      ]
      | before none low ↦ omega (arith, covers-le (usable v) a)
      | behind none high ↦ omega (arith, covers-le (usable v) a)
    ]

pub payload_lies_in_one_chunk : PayloadLiesInOneChunk
payload_lies_in_one_chunk fllen sllen memory s u w i =
    let is = w.used u i in
    let after_start = IsUsed-after_start u is in
    let within = is.within in
    let home = lies_in_chunk s (tiling_of w) u.block (IsUsed-some u is) (IsPart-used s (tiling_of w) u i) in
    let from = home.from in
    let to = home.to in (
      home.chunk,
      home.is_chunk,
      omega arith,
      omega arith,
      λ d a h one has.
          let (low, high) = some_of (usable u) a one in
          coverage-unique itself d home.chunk s.chunks a (w.disjoint a) h home.is_chunk has (covers-inside home.chunk a (omega arith) (omega arith)),
    )
  where
    some_of : (r : Range) (a : ℕ) → covers r a ≡ 1 → (r.start ≤ a) × (a < end_of r)
    some_of r a one = elim (where_is r a) [ inside e low high ↦ (low, high) | before none low ↦ absurd (omega arith) | behind none high ↦ absurd (omega arith) ]

-- ---- what an allocation returns

module _ {fllen sllen : ℕ} {memory : Range} {s : State} (w : IsWellFormed fllen sllen memory s) (size align addr : ℕ) (t : State) (power : IsPowerOfTwo align)
    (step : Places sllen s size align addr t) where
  Holds-placed : Holds t addr (placed step.range size align step.bytes)
  Holds-placed = subst (λ x. Holds x addr (placed step.range size align step.bytes)) (sym step.after) (inl refl, sym step.answer)

  pub HasSize-placed : HasSize t size addr
  HasSize-placed =
      let after_start = payload_of-after step.range.start align in
      (placed step.range size align step.bytes, Holds-placed, omega arith, omega arith)

  -- no used block had the address: it lies in the free range, or at its end
  pub new_address : (v : Used) → IsIn v s.used → v.payload ≡ addr → ⊥
  new_address v i at =
      let f = step.range in
      let is = choice-some sllen (request_size size align) s.free f step.chosen in
      let iv = w.used v i in
      let after_start = IsUsed-after_start v iv in
      let within = iv.within in
      let u_used = IsUsed-placed w f size align power step.chosen step.bytes (step.length ∙ ap (λ p. end_of (placed f size align step.bytes).block - p) step.answer) in
      let u_after = IsUsed-after_start (placed f size align step.bytes) u_used in
      let u_within = u_used.within in
      let fits = placed-fits w f size align power step.chosen in
      let answer = step.answer in
      let a = addr - 1 in
      let one : covers v.block a ≡ 1 = covers-inside v.block a (omega arith) (omega arith) in
      let two : covers f a ≡ 1 = covers-inside f a (omega arith) (omega arith) in
      omega (arith, coverage-IsIn block_of v s.used a i, coverage-IsIn itself f s.free a is.is_in, blocks-le s (tiling_of w) a)

pub allocation_has_size : AllocationHasSize
allocation_has_size fllen sllen memory s t size align None w power step = tt
allocation_has_size fllen sllen memory s t size align (Some addr) w power step = HasSize-placed w size align addr t power step

pub handed_out_is_new : HandedOutIsNew
handed_out_is_new fllen sllen memory s t size align addr w power step = (
  (λ old (u, (i, at), is). new_address w size align addr t power step u i at),
  (placed step.range size align step.bytes, Holds-placed w size align addr t power step, refl),
)

-- a fill of a payload that was just allocated is an allocation with other bytes
pub allocated_filled : {fllen sllen : ℕ} {memory : Range} {s t x : State} {size align addr : ℕ} {bytes : List ℕ} → IsWellFormed fllen sllen memory s → IsPowerOfTwo align
    → (places : Places sllen s size align addr t) → Fills t addr bytes x → x ≡ given sllen s places.range (placed places.range size align bytes)
allocated_filled {sllen = sllen} {s = s} {t = t} {size = size} {align = align} {addr = addr} {bytes = bytes} w power places step =
    let now = given sllen s places.range (placed places.range size align bytes) in
    step.after ∙ ap (λ y. filled y addr bytes) places.after ∙ (λ k. record {
      chunks = now.chunks;
      used =
          filled_if-here addr bytes (placed places.range size align places.bytes) (sym places.answer) k
          ∷ filled_at-none addr bytes s.used (new_address w size align addr t power places) k;
      free = now.free;
    })

-- ---- what a reallocation returns

module _ {fllen sllen : ℕ} {memory : Range} {s : State} (w : IsWellFormed fllen sllen memory s) (u : Used) (h : IsIn u s.used) (size addr : ℕ) (t : State) where
  -- the block that it leaves: its alignment, its bytes, its size, and that its address is the old one or new
  record IsMoved : Type 0 where
    block : Used
    holds : Holds t addr block
    same : block.align ≡ u.align
    kept : Keeps u.bytes block.bytes
    enough : size ≤ (usable block).len
    few : (usable block).len < size + 32
    new : (v : Used) → IsIn v s.used → v.payload ≡ addr → addr ≡ u.payload

  -- a block by a plan takes what its old one had, and free bytes
  planned_new : (p : Plan) → IsSoundPlan s u size p → (v : Used) → IsIn v s.used → v.payload ≡ p.payload → p.payload ≡ u.payload
  planned_new p sound v i at =
      let iv = w.used v i in
      let after_start = IsUsed-after_start v iv in
      let within = iv.within in
      let p_placed = sound.placed in
      let p_after = payload_of-after p.block.start u.align in
      let p_within = sound.within in
      let a = p.payload - 1 in
      let one : covers v.block a ≡ 1 = covers-inside v.block a (omega arith) (omega arith) in
      let two : covers p.block a ≡ 1 = covers-inside p.block a (omega arith) (omega arith) in
      let mine : covers u.block a ≡ 1 = omega (arith, sound.cover a, coverage-IsIn block_of v s.used a i, blocks-le s (tiling_of w) a, covers-le u.block a) in
      sym at ∙ ap (λ x. x.payload) (coverage-unique block_of v u s.used a (used-le s (tiling_of w) a) i h one mine)

  moved_by : (o : Option Plan) → plan s u size ≡ o → ReallocatesBy sllen s u size o (Some addr) t → IsMoved
  moved_by (Some p) e step =
      let sound = IsSound-plan w u h size p e in
      let enough = sound.enough in
      let few = sound.few in
      let v = moved u p step.bytes in
      record {
        block = v;
        holds = subst (λ x. Holds x addr v) (sym step.after) (inl refl, sym step.answer);
        same = refl;
        kept = step.kept;
        enough = enough;
        few = few;
        new = λ x i at. step.answer ∙ planned_new p sound x i (at ∙ step.answer);
      }
  moved_by None e step =
      let power = (w.used u h).power in
      let placing = step.allocated in
      let v = placed placing.range size u.align placing.bytes in
      let held = Holds-placed w size u.align addr step.meanwhile power placing in
      let new : (x : Used) → IsIn x s.used → x.payload ≡ addr → ⊥ = new_address w size u.align addr step.meanwhile power placing in
      let after_start = payload_of-after placing.range.start u.align in
      let gone = step.released in
      let (i, at) = step.holds in
      let meanwhile_used : (step.block ≡ v) ⊎ IsIn step.block s.used = subst (λ x. IsIn step.block x.used) placing.after i in
      record {
        block = v;
        holds = (
          subst (λ x. IsIn v x.used) (sym gone.after)
              (IsIn-others_from gone.block.payload v step.meanwhile.used held.0 (λ at. new u h (sym gone.holds.1 ∙ sym at ∙ held.1))),
          held.1,
        );
        same = refl;
        kept = elim meanwhile_used [ inl is ↦ subst (λ x. Keeps u.bytes x.bytes) is step.kept | inr j ↦ absurd (new step.block j at) ];
        enough = omega arith;
        few = omega arith;
        new = λ x i at. absurd (new x i at);
      }

module _ {fllen sllen : ℕ} {memory : Range} {s : State} (w : IsWellFormed fllen sllen memory s) (addr size to : ℕ) (t : State)
    (step : Reallocates sllen s addr size (Some to) t) where
  moved_block : IsMoved w step.block step.holds.0 size to t
  moved_block = moved_by w step.block step.holds.0 size to t (plan s step.block size) refl step.step

  pub HasSize-moved : HasSize t size to
  HasSize-moved = let m = moved_block in (m.block, m.holds, m.enough, m.few)

  pub IsLive-moved : (align : ℕ) → IsLive s addr align → IsLive t to align × ((other : ℕ) → IsLive s to other → to ≡ addr)
  IsLive-moved align (v, hv, is) =
      let m = moved_block in
      let same : step.block ≡ v = Holds-unique w addr step.block v step.holds hv in (
        (m.block, m.holds, m.same ∙ ap (λ x. x.align) same ∙ is),
        (λ other (x, (i, at), _). m.new x i at ∙ step.holds.1),
      )

  pub IsMoved-kept : (u : Used) → Holds s addr u
      → (v : Used) × Holds t to v × (v.align ≡ u.align) × Keeps u.bytes v.bytes × (size ≤ (usable v).len) × ((usable v).len < size + 32)
  IsMoved-kept u holds =
      let m = moved_block in
      let same : step.block ≡ u = Holds-unique w addr step.block u step.holds holds in
      (m.block, m.holds, m.same ∙ ap (λ x. x.align) same, subst (λ x. Keeps x.bytes m.block.bytes) same m.kept, m.enough, m.few)

pub reallocation_keeps_bytes : ReallocationKeepsBytes
reallocation_keeps_bytes fllen sllen memory s t addr size to u w holds step = IsMoved-kept w addr size to t step u holds

pub reallocation_has_size : ReallocationHasSize
reallocation_has_size fllen sllen memory s t addr size None w step = tt
reallocation_has_size fllen sllen memory s t addr size (Some to) w step = HasSize-moved w addr size to t step

pub reallocated_is_live : ReallocatedIsLive
reallocated_is_live fllen sllen memory s t addr size to align w live step = IsLive-moved w addr size to t step align live

-- ---- payloads that a step doesn't name

pub other_payloads_stay : OtherPayloadsStay
other_payloads_stay fllen sllen s t e u step i apart = stays u apart (step_goes fllen sllen s t e step) i

pub live_stays : LiveStays
live_stays fllen sllen s t e addr align step (u, (i, at), is) apart = (u, (other_payloads_stay fllen sllen s t e u step i (λ names. apart (subst (CallNames e) at names)), at), is)

pub released_is_not_live : ReleasedIsNotLive
released_is_not_live s t addr align step (v, (i, at), is) =
    (IsIn-others step.block.payload v s.used (subst (λ x. IsIn v x.used) step.after i)).1 (at ∙ sym step.holds.1)

pub used_was_used : UsedWasUsed
used_was_used fllen sllen s t e u step i other new = was u other new (step_goes fllen sllen s t e step) i

-- ---- what a fill and a deallocation leave

pub filled_has_bytes : FilledHasBytes
filled_has_bytes fllen sllen memory s t addr align bytes w (u, held, is) step =
    let same : step.block ≡ u = Holds-unique w addr step.block u step.holds held in
    let v = used_with_bytes step.block bytes in
    ((v, filled_holds step, ap (λ x. x.align) same ∙ is), (v, filled_holds step, refl))

pub fill_leaves_others : FillLeavesOthers
fill_leaves_others s t addr bytes step = (
  ap (λ x. x.chunks) step.after,
  ap (λ x. x.free) step.after,
  λ u apart. (
    (λ i. subst (λ x. IsIn u x.used) (sym step.after) (IsIn-filled_other addr bytes u s.used i apart)),
    (λ i. IsIn-filled_other_from addr bytes u s.used (subst (λ x. IsIn u x.used) step.after i) apart),
  ),
)

pub deallocation_leaves_others : DeallocationLeavesOthers
deallocation_leaves_others s t addr step = grind (arith, IsIn-others, IsIn-others_from)
