-- Runs whose calls ask for little enough that none is refused.
use Rattle.std.proofs.Common.{◌≡◌, ℕ, ◌+◌, ◌-◌, ◌*◌, ◌<◌, ◌≤◌, Bool, cond, eqb, not, filter, List, [], ◌∷◌, Option, Some, None, length, arith, refl, sym}
use Rattle.std.proofs.Common.{◌∙◌, ap, subst, inl, inr}
use Rattle.std.proofs.lemmas.List.{length-map}
use Rattle.std.proofs.lemmas.List.Sums.{sum_by-cons}
use Rattle.std.proofs.lemmas.List.Filters.{length-filter_both}
use Rattle.std.proofs.Math.Nat.{mul-le-mul_right}
use Rattle.rlsf_base.specs.declared.memory.range.Range.{Range}
use Rattle.rlsf_model_sizes.specs.PowerOfTwo.{IsPowerOfTwo}
use Rattle.rlsf_model_sizes.specs.Sizes.{request_size}
use Rattle.rlsf_base.proofs.Numbers.Roundings.{round32-mono}
use Rattle.rlsf_model.specs.Allocate.{placed, Allocates}
use Rattle.rlsf_model.specs.Budget.{total_len, used_bytes, AreFronts, AreAtMost, IsModest, IsFrugal, IsRequest, RunsFrugally, RunsModestly, HasBudget, HasRoomForBudget, IsDenied, live_after, AsksWithin, AreWithin}
use Rattle.rlsf_model.specs.Lists.{IsIn}
use Rattle.rlsf_model.specs.Reallocate.{Plan, plan, ReallocatesBy}
use Rattle.rlsf_model.specs.Release.{Deallocates}
use Rattle.rlsf_model.specs.Run.{Event, insert, append, allocate, deallocate, reallocate, fill, remove, trim, IsRemoval, Leads, MayCall, Runs}
use Rattle.rlsf_model.specs.Sizing.{FrugalRunsAreNotDenied, ModestRunsAreNotDenied, LiveIsCounted, BoundedRunsAreNotDenied}
use Rattle.rlsf_model.specs.State.{State, Used, Holds, others}
use Rattle.rlsf_model.specs.WellFormed.{IsWellFormed}
use Rattle.rlsf_model.proofs.Allocations.{Allocates-keeps}
use Rattle.rlsf_model.proofs.Changes.{IsIn-others}
use Rattle.rlsf_model.proofs.Choices.{choice-none, choice-some}
use Rattle.rlsf_model.proofs.Chunks.{chunks_stay, used-inserted, used-appended}
use Rattle.rlsf_model.proofs.Coverage.{by_test, covers-le, IsIn-filter}
use Rattle.rlsf_model.proofs.Fillings.{shape-filled_from}
use Rattle.rlsf_model.proofs.Live.{live_address_has_one_block}
use Rattle.rlsf_model.proofs.Parts.{begins_in, part, length-filter_le, part_is_well_formed, have_chunks}
use Rattle.rlsf_model.proofs.Payloads.{payload_of-le, block_length-request}
use Rattle.rlsf_model.proofs.Plans.{IsSoundPlan, IsSound-plan}
use Rattle.rlsf_model.proofs.Steps.{steps_keep_well_formed}
use Rattle.rlsf_model.proofs.Sums.{bytes_add_up, taken_free}
use Rattle.rlsf_model.proofs.UsedBlocks.{Goes, IsGivenAlign, as_before, in_turn, one_filled, one_less, one_more, step_goes}
use Rattle.rlsf_model.proofs.Names.{filled_if, filled_at}

-- ---- one call

used_bytes-le : (most : ℕ) (us : List Used) → AreAtMost most us → used_bytes us ≤ length us * most
used_bytes-le most [] small = omega arith
used_bytes-le most (u ∷ us) small = omega (arith, sum_by-cons (λ v. v.block.len) u us, small u (inl refl), used_bytes-le most us (λ v i. small v (inr i)))

used_bytes-filter : (p : Used → Bool) (us : List Used) → used_bytes (filter p us) ≤ used_bytes us
used_bytes-filter p [] = omega arith
used_bytes-filter p (u ∷ us) =
    let rest = used_bytes-filter p us in
    by_test (p u)
    (λ e. let is : used_bytes (filter p (u ∷ us)) ≡ used_bytes (u ∷ filter p us) = ap (λ b. used_bytes (cond b (u ∷ filter p us) (filter p us))) e in
    omega (arith, is, rest, sum_by-cons (λ v. v.block.len) u us, sum_by-cons (λ v. v.block.len) u (filter p us)))
    (λ e. let is : used_bytes (filter p (u ∷ us)) ≡ used_bytes (filter p us) = ap (λ b. used_bytes (cond b (u ∷ filter p us) (filter p us))) e in
    omega (arith, is, rest, sum_by-cons (λ v. v.block.len) u us))

-- where there is room for the used blocks and one more, an allocation is not refused
pub never_denied : (live bytes most : ℕ) {fllen sllen : ℕ} {memory : Range} {s : State} → IsWellFormed fllen sllen memory s → (fronts : List Range)
    → AreFronts s.chunks fronts → HasRoomForBudget live bytes most sllen fronts → length s.used ≤ live → used_bytes s.used ≤ bytes
    → (size align : ℕ) → request_size size align ≤ most → (t : State) → Allocates sllen s size align None t → ⊥
never_denied live bytes most {fllen} {sllen} {memory} {s} w fronts are room few little size align fits t step =
    let have = have_chunks s.chunks w.disjoint fronts are.each are.disjoint in
    let cs = have.whole in
    let n = length cs in
    let p = part cs s in
    let wp = part_is_well_formed w cs have.are have.disjoint in
    let least = room.least in
    let fewer : length p.used ≤ live = omega (arith, length-filter_le (λ u. begins_in cs u.block) s.used) in
    let gaps : (length p.used + n) * (least - 32) ≤ (live + n) * (least - 32) = mul-le-mul_right (least - 32) (omega arith) in
    let same : 32 * n + bytes + (live + n) * (least - 32) < total_len fronts =
    subst (λ k. 32 * k + bytes + (live + k) * (least - 32) < total_len fronts) (sym have.count) room.enough in
    let used = used_bytes-filter (λ u. begins_in cs u.block) s.used in
    let (f, i, reached) = taken_free p wp most least (request_size size align) room.taken fits (omega (arith, bytes_add_up fllen sllen memory p wp, used, have.longer)) in
    choice-none sllen (request_size size align) s.free step.0 f (IsIn-filter (begins_in cs) f s.free i).0 reached

-- a budget is room for as many blocks of the greatest length
HasRoomForBudget-budget : {live most sllen : ℕ} {fronts : List Range} → HasBudget live most sllen fronts → HasRoomForBudget live (live * most) most sllen fronts
HasRoomForBudget-budget budget = record { least = budget.least; taken = budget.taken; enough = budget.enough }

within_budget : (live most : ℕ) (us : List Used) → AreAtMost most us → length us ≤ live → used_bytes us ≤ live * most
within_budget live most us small few =
    let blocks : length us * most ≤ live * most = mul-le-mul_right most few in
    omega (arith, used_bytes-le most us small)

-- so within the budget an allocation is not refused
pub not_denied : (live most : ℕ) {fllen sllen : ℕ} {memory : Range} {s : State} → IsWellFormed fllen sllen memory s → (fronts : List Range) → AreFronts s.chunks fronts
    → AreAtMost most s.used
    → HasBudget live most sllen fronts → length s.used ≤ live → (size align : ℕ) → request_size size align ≤ most → (t : State)
    → Allocates sllen s size align None t → ⊥
not_denied live most {s = s} w fronts are small budget few size align fits t step =
    never_denied live (live * most) most w fronts are (HasRoomForBudget-budget budget) few (within_budget live most s.used small few) size align fits t step

-- ---- steps

-- a call within a budget takes no memory away
pub IsModest-stays : (live most : ℕ) (s : State) (e : Event) → IsModest live most s e → IsRemoval e → ⊥
IsModest-stays live most s e modest removal = grind arith

-- each step that takes no memory away keeps the fronts of chunks
pub AreFronts-kept : (fllen sllen : ℕ) (s : State) (fronts : List Range) → AreFronts s.chunks fronts → (t : State) (e : Event) → (IsRemoval e → ⊥)
    → Leads fllen sllen s e t → AreFronts t.chunks fronts
AreFronts-kept fllen sllen s fronts are t e left step = record {
  each = λ r i.
      let (c, j, start, long, some) = are.each r i in
      let (d, k, at, grew) = chunks_stay fllen sllen s t e c left step j in
      (d, k, at ∙ start, elim grew [ inl same ↦ (let len : d.len ≡ c.len = ap (λ x. x.len) same in omega arith) | inr more ↦ omega arith ], some);
  disjoint = are.disjoint;
}

still : {most : ℕ} {s t : State} → t ≡ s → AreAtMost most s.used → AreAtMost most t.used
still {most} is = subst (λ x. AreAtMost most x.used) (sym is)

deallocate_modest : (most : ℕ) (s t : State) (addr : ℕ) → AreAtMost most s.used → Deallocates s addr t → AreAtMost most t.used
deallocate_modest most s t addr small step = still step.after (λ u i. small u (IsIn-others step.block.payload u s.used i).0)

filled_modest : (most : ℕ) (used : List Used) (addr : ℕ) (bytes : List ℕ) → AreAtMost most used → AreAtMost most (filled_at addr bytes used)
filled_modest most used addr bytes small v i =
    let (u, j, same) = shape-filled_from addr bytes v used i in
    subst (λ b. b.len ≤ most) (sym (ap (λ h. h.block) same)) (small u j)

module _ (most : ℕ) {fllen sllen : ℕ} {memory : Range} {s : State} (w : IsWellFormed fllen sllen memory s) (small : AreAtMost most s.used) where
  allocate_modest : (size align : ℕ) (reply : Option ℕ) (t : State) → IsPowerOfTwo align → request_size size align ≤ most → Allocates sllen s size align reply t
      → AreAtMost most t.used
  allocate_modest size align None t power fits step = still step.1 small
  allocate_modest size align (Some addr) t power fits step =
      let f = step.range in
      let chosen = choice-some sllen (request_size size align) s.free f step.chosen in
      let v = placed f size align step.bytes in
      let v_len : v.block.len ≤ most = omega (arith, block_length-request f.start size align (w.free f chosen.is_in).whole.start power) in
      still step.after (λ u. elim [ inl same ↦ subst (λ x. x.block.len ≤ most) (sym same) v_len | inr i ↦ small u i ])

  plan_modest : (u : Used) (size : ℕ) (p : Plan) → IsPowerOfTwo u.align → IsSoundPlan s u size p → request_size size u.align ≤ most → p.block.len ≤ most
  plan_modest u size p power sound fits = grind (arith, payload_of-le)

module _ (most : ℕ) {fllen sllen : ℕ} {memory : Range} {s : State} (w : IsWellFormed fllen sllen memory s) (small : AreAtMost most s.used) where
  reallocate_modest : (u : Used) → IsIn u s.used → (size : ℕ) → request_size size u.align ≤ most → (o : Option Plan) → plan s u size ≡ o
      → (reply : Option ℕ) (t : State) → ReallocatesBy sllen s u size o reply t → AreAtMost most t.used
  reallocate_modest u h size fits (Some p) e None t step = absurd step
  reallocate_modest u h size fits (Some p) e (Some addr) t step =
      let p_len = plan_modest most w small u size p (w.used u h).power (IsSound-plan w u h size p e) fits in
      still step.after (λ v. elim [ inl same ↦ subst (λ x. x.block.len ≤ most) (sym same) p_len | inr i ↦ small v (IsIn-others u.payload v s.used i).0 ])
  reallocate_modest u h size fits None e None t step = still step.1 small
  reallocate_modest u h size fits None e (Some addr) t step =
      deallocate_modest most step.meanwhile t u.payload (allocate_modest most w small size u.align (Some addr) step.meanwhile (w.used u h).power fits step.allocated) step.released

  pub step_modest : (live : ℕ) (t : State) (e : Event) → MayCall memory s e → IsModest live most s e → Leads fllen sllen s e t → AreAtMost most t.used
  step_modest live t (insert r reply) may modest step = subst (AreAtMost most) (sym (used-inserted fllen s t r reply step)) small
  step_modest live t (append r reply) may modest step = subst (AreAtMost most) (sym (used-appended fllen s t r reply step)) small
  step_modest live t (allocate size align reply) may modest step = allocate_modest most w small size align reply t may modest.1 step
  step_modest live t (deallocate addr) may modest step = deallocate_modest most s t addr small step
  step_modest live t (reallocate addr size reply) may modest step =
      reallocate_modest step.block step.holds.0 size (modest.1 step.block step.holds) (plan s step.block size) refl reply t step.step
  step_modest live t (fill addr bytes) may modest step = still step.after (filled_modest most s.used addr bytes small)
  step_modest live t e may modest step = absurd modest

-- ---- calls for which there is room

module _ (live bytes most : ℕ) {fllen sllen : ℕ} {memory : Range} {s : State} (w : IsWellFormed fllen sllen memory s) (fronts : List Range)
    (are : AreFronts s.chunks fronts) (room : HasRoomForBudget live bytes most sllen fronts) where
  step_not_denied : (t : State) (e : Event) → IsFrugal live bytes most s e → Leads fllen sllen s e t → IsDenied e → ⊥
  step_not_denied t (insert r reply) frugal step denied = absurd denied
  step_not_denied t (append r reply) frugal step denied = absurd denied
  step_not_denied t (allocate size align reply) (modest, little) step denied =
      never_denied live bytes most w fronts are room modest.0 (little tt) size align modest.1 t (subst (λ r. Allocates sllen s size align r t) denied step)
  step_not_denied t (deallocate addr) frugal step denied = absurd denied
  step_not_denied t (reallocate addr size reply) (modest, little) step denied =
      let u = step.block in
      none_left (plan s u size) (subst (λ r. ReallocatesBy sllen s u size (plan s u size) r t) denied step.step)
    where
      none_left : (o : Option Plan) → ReallocatesBy sllen s step.block size o None t → ⊥
      none_left (Some p) impossible = impossible
      none_left None allocated = never_denied live bytes most w fronts are room modest.0 (little tt) size step.block.align (modest.1 step.block step.holds) t allocated
  step_not_denied t (fill addr bytes) frugal step denied = absurd denied
  step_not_denied t (remove r) frugal step denied = absurd denied
  step_not_denied t (trim n) frugal step denied = absurd denied

-- ---- runs

pub frugal_runs_are_not_denied : FrugalRunsAreNotDenied
frugal_runs_are_not_denied live bytes most fllen sllen memory s t fronts [] w are room run e i denied = absurd i
frugal_runs_are_not_denied live bytes most fllen sllen memory s t fronts (d ∷ es) w are room (u, may, frugal, step, rest) e i denied = elim i [
  | inl same ↦ step_not_denied live bytes most w fronts are room u d frugal step (subst IsDenied same denied)
  | inr j ↦
      frugal_runs_are_not_denied live bytes most fllen sllen memory u t fronts es (steps_keep_well_formed fllen sllen memory s u d w may step)
      (AreFronts-kept fllen sllen s fronts are u d (IsModest-stays live most s d frugal.0) step) room rest e j denied
]

-- few payloads are live before a modest call that requests bytes
few_live : (live most : ℕ) (s : State) (e : Event) → IsModest live most s e → IsRequest e → length s.used ≤ live
few_live live most s e modest asks = grind arith

-- a modest run is frugal: the used blocks have the bytes of as many of the greatest length, or fewer
runs_frugally : (live most fllen sllen : ℕ) (memory : Range) (s t : State) (es : List Event) → IsWellFormed fllen sllen memory s → AreAtMost most s.used
    → RunsModestly live most fllen sllen memory s es t → RunsFrugally live (live * most) most fllen sllen memory s es t
runs_frugally live most fllen sllen memory s t [] w small run = run
runs_frugally live most fllen sllen memory s t (e ∷ es) w small (u, may, modest, step, rest) = (
  u,
  may,
  (modest, λ asks. within_budget live most s.used small (few_live live most s e modest asks)),
  step,
  runs_frugally live most fllen sllen memory u t es (steps_keep_well_formed fllen sllen memory s u e w may step) (step_modest most w small live u e may modest step) rest,
)

pub modest_runs_are_not_denied : ModestRunsAreNotDenied
modest_runs_are_not_denied live most fllen sllen memory s t fronts es w are small budget run =
    frugal_runs_are_not_denied live (live * most) most fllen sllen memory s t fronts es w are (HasRoomForBudget-budget budget)
    (runs_frugally live most fllen sllen memory s t es w small run)

-- ---- how many payloads are live

length-others : {fllen sllen : ℕ} {memory : Range} {s : State} → IsWellFormed fllen sllen memory s → (addr : ℕ) (u : Used) → Holds s addr u
    → length s.used ≡ length (others addr s.used) + 1
length-others {fllen} {sllen} {memory} {s} w addr u h =
    let one : length (filter (λ v. eqb v.payload addr) s.used) ≡ 1 = ap length (live_address_has_one_block fllen sllen memory s addr u w h) in
    let both = length-filter_both (λ (v : Used). eqb v.payload addr) (λ v. not (eqb v.payload addr)) (λ v. refl) s.used in
    omega arith

length-deallocated : {fllen sllen : ℕ} {memory : Range} {s : State} → IsWellFormed fllen sllen memory s → (addr : ℕ) (t : State) → Deallocates s addr t
    → length s.used ≡ length t.used + 1
length-deallocated {s = s} w addr t step =
    let left : length t.used ≡ length (others step.block.payload s.used) = ap (λ x. length x.used) step.after in
    omega (arith, length-others w step.block.payload step.block (step.holds.0, refl))

length-reallocated : {fllen sllen : ℕ} {memory : Range} {s : State} → IsWellFormed fllen sllen memory s → (u : Used) → IsIn u s.used
    → (size : ℕ) (o : Option Plan) (reply : Option ℕ) (t : State) → ReallocatesBy sllen s u size o reply t → length t.used ≡ length s.used
length-reallocated w u h size (Some p) None t step = absurd step
length-reallocated {s = s} w u h size (Some p) (Some addr) t step =
    let now : length t.used ≡ length (others u.payload s.used) + 1 = ap (λ x. length x.used) step.after ∙ omega arith in
    omega (arith, length-others w u.payload u (h, refl))
length-reallocated w u h size None None t step = ap (λ x. length x.used) step.1
length-reallocated {s = s} w u h size None (Some addr) t step =
    let kept = Allocates-keeps w size u.align (Some addr) step.meanwhile (w.used u h).power step.allocated in
    let first : length step.meanwhile.used ≡ length s.used + 1 = ap (λ x. length x.used) step.allocated.after ∙ omega arith in
    omega (arith, length-deallocated kept u.payload t step.released)

pub live_is_counted : LiveIsCounted
live_is_counted fllen sllen memory s t (insert r reply) w may step = ap length (used-inserted fllen s t r reply step)
live_is_counted fllen sllen memory s t (append r reply) w may step = ap length (used-appended fllen s t r reply step)
live_is_counted fllen sllen memory s t (allocate size align None) w may step = ap (λ x. length x.used) step.1
live_is_counted fllen sllen memory s t (allocate size align (Some addr)) w may step = ap (λ x. length x.used) step.after ∙ omega arith
live_is_counted fllen sllen memory s t (deallocate addr) w may step = omega (arith, length-deallocated w addr t step)
live_is_counted fllen sllen memory s t (reallocate addr size reply) w may step = length-reallocated w step.block step.holds.0 size (plan s step.block size) reply t step.step
live_is_counted fllen sllen memory s t (fill addr bytes) w may step = ap (λ x. length x.used) step.after ∙ length-map s.used (filled_if addr bytes)
live_is_counted fllen sllen memory s t (remove r) w may step = ap (λ (x : State). length x.used) step
live_is_counted fllen sllen memory s t (trim n) w may step = absurd step

-- ---- alignments

-- no used block has a greater alignment
pub AreAligned : ℕ → List Used → Type 0
AreAligned most used = (u : Used) → IsIn u used → u.align ≤ most

module _ (most : ℕ) where
  pub aligned_none : (used : List Used) → used ≡ [] → AreAligned most used
  unfolding AreAligned
  aligned_none used is u i = absurd (subst (IsIn u) is i)

  aligned_at : (u : Used) (used : List Used) → AreAligned most used → IsIn u used → u.align ≤ most
  unfolding AreAligned
  aligned_at u used small i = small u i

  aligned_after : {first : List Used} {e : Event} {before after : List Used} → ((n : ℕ) → IsGivenAlign first e n → n ≤ most) → Goes first e before after
      → AreAligned most before → AreAligned most after
  unfolding AreAligned
  aligned_after fits (as_before is) small u i = small u (subst (IsIn u) is i)
  aligned_after fits (one_more v returns align is) small u i = elim (subst (IsIn u) is i) [
    | inl at ↦ subst (λ x. x.align ≤ most) (sym at) (fits v.align align)
    | inr j ↦ small u j
  ]
  aligned_after {before = before} fits (one_less a names is) small u i = small u (IsIn-others a u before (subst (IsIn u) is i)).0
  aligned_after {before = before} fits (one_filled a bytes names is) small v i =
      let (u, j, same) = shape-filled_from a bytes v before (subst (IsIn v) is i) in
      subst (λ n. n ≤ most) (sym (ap (λ h. h.align) same)) (small u j)
  aligned_after fits (in_turn between x y) small u i = aligned_after fits y (aligned_after fits x small) u i

  pub step_aligned : (live size n fllen sllen : ℕ) (s t : State) (e : Event) → AsksWithin live size most n e → AreAligned most s.used → Leads fllen sllen s e t
      → AreAligned most t.used
  step_aligned live size n fllen sllen s t e within small step = grind (arith, aligned_after, step_goes, aligned_at)

-- ---- runs, by their calls alone

pub request_size-mono : (size align most_size most_align : ℕ) → size ≤ most_size → align ≤ most_align → request_size size align ≤ request_size most_size most_align
request_size-mono size align most_size most_align short fits = round32-mono (size + (align - 16) + 16) (most_size + (most_align - 16) + 16) (omega arith)

pub modest_by : (live size align n : ℕ) (s : State) (e : Event) → length s.used ≡ n → AreAligned align s.used → AsksWithin live size align n e
    → IsModest live (request_size size align) s e
modest_by live size align n s e count small within = grind (arith, request_size-mono, aligned_at)

runs_modestly : (live size align n fllen sllen : ℕ) (memory : Range) (s t : State) (es : List Event) → IsWellFormed fllen sllen memory s → length s.used ≡ n
    → AreAligned align s.used
    → Runs fllen sllen memory s es t → AreWithin live size align n es → RunsModestly live (request_size size align) fllen sllen memory s es t
runs_modestly live size align n fllen sllen memory s t [] w count small run within = run
runs_modestly live size align n fllen sllen memory s t (e ∷ es) w count small (u, may, step, rest) (asks, within) = (
  u,
  may,
  modest_by live size align n s e count small asks,
  step,
  runs_modestly live size align (live_after e n) fllen sllen memory u t es (steps_keep_well_formed fllen sllen memory s u e w may step)
      (live_is_counted fllen sllen memory s u e w may step ∙ ap (live_after e) count)
      (step_aligned align live size n fllen sllen s u e asks small step) rest within,
)

pub bounded_runs_are_not_denied : BoundedRunsAreNotDenied
bounded_runs_are_not_denied live size align fllen sllen memory s t fronts es w idle are budget run within =
    let most = request_size size align in
    modest_runs_are_not_denied live most fllen sllen memory s t fronts es w are (subst (AreAtMost most) (sym idle) (λ u i. absurd i)) budget
    (runs_modestly live size align 0 fllen sllen memory s t es w (ap length idle) (aligned_none align s.used idle) run within)

-- ---- fronts

-- a chunk that isn't empty is one front
pub AreFronts-one : (c : Range) (chunks : List Range) → IsIn c chunks → 0 < c.len → AreFronts chunks (c ∷ [])
AreFronts-one c chunks i some = grind (arith, covers-le)
