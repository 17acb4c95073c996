-- Pools of the lengths that are computed for many payloads.
use Rattle.std.proofs.Common.{◌≡◌, ℕ, ◌+◌, ◌-◌, ◌*◌, ◌%◌, ◌<◌, ◌≤◌, [], ◌∷◌, length, arith, ◌∙◌, ap, subst, inl, inr}
use Rattle.std.proofs.lemmas.List.Sums.{sum_by-cons}
use Rattle.std.proofs.lemmas.Nat.{div-mul-add}
use Rattle.rlsf_base.specs.declared.memory.range.Range.{Range}
use Rattle.rlsf_model_sizes.specs.SizeClass.{Reaches, class_of}
use Rattle.rlsf_model_sizes.specs.Sizes.{IsSize, payloads_length, request_size}
use Rattle.rlsf_base.proofs.Numbers.Roundings.{round32-same}
use Rattle.rlsf_base.proofs.SizeMaps.ChunkLengths.{IsBudgetPool, IsBudgetPool-some, IsObjectPool-some, IsPayloadPool, IsPayloadPool-some}
use Rattle.rlsf_base.proofs.SizeMaps.Laws.{IsSize-request_size}
use Rattle.rlsf_model.specs.Budget.{HasBudget, HasRoomForBudget}
use Rattle.rlsf_model.specs.Insert.{body}
use Rattle.rlsf_model.specs.Lists.{IsIn}
use Rattle.rlsf_model.specs.Run.{Event}
use Rattle.rlsf_model.specs.Sizing.{BudgetPoolIsEnough, PayloadPoolIsEnough, ObjectPoolIsExact}
use Rattle.rlsf_model.specs.State.{State}
use Rattle.rlsf_model.specs.Uniform.{AreDeniedOnlyAt, AsksForObject, AsksUniformly, IsUniform, blocks_in}
use Rattle.rlsf_model.specs.WellFormed.{coverage, IsWellFormed}
use Rattle.rlsf_model.proofs.Budgets.{AreFronts-one, bounded_runs_are_not_denied, frugal_runs_are_not_denied}
use Rattle.rlsf_model.proofs.Coverage.{covers-inside}
use Rattle.rlsf_model.proofs.Room.{idle_chunk_is_one_range}
use Rattle.rlsf_model.proofs.Tiling.{IsPart-free, lies_in_chunk, tiling_of}
use Rattle.rlsf_model.proofs.Uniform.{uniform_runs_answer}

-- ---- payloads up to a layout

-- what is left for the free ranges, and more
gaps : (count size n len : ℕ) → count * size + count * n + (n + 64) ≤ len → 32 * 1 + count * size + (count + 1) * n < len
gaps count size n len short = omega arith

pub HasBudget-reached : (count size sllen least : ℕ) (c : Range) → IsSize least → Reaches sllen (class_of sllen least) size → payloads_length count size least ≤ c.len
    → HasBudget count size sllen (c ∷ [])
HasBudget-reached count size sllen least c is reaches long = grind (arith, sum_by-cons, gaps)

pub HasBudget-pool : {fllen : ℕ} (count size sllen len : ℕ) (c : Range) → IsPayloadPool fllen sllen count size len → len ≤ c.len → HasBudget count size sllen (c ∷ [])
HasBudget-pool count size sllen len c pool long = HasBudget-reached count size sllen pool.least c pool.is pool.reaches (omega (arith, pool.length, long))

pub payload_pool_is_enough : PayloadPoolIsEnough
payload_pool_is_enough fl_bits sl_bits fllen sllen count size align len memory s t c es valid w told idle is_chunk long run within =
    let room = (w.chunks c is_chunk).has_room in
    let sought = request_size size align in
    let pool = IsPayloadPool-some fllen sllen count sought len valid.power_of_two (IsSize-request_size size align) told in
    bounded_runs_are_not_denied count size align fllen sllen memory s t (c ∷ []) es w idle (AreFronts-one c s.chunks is_chunk (omega arith))
    (HasBudget-pool count sought sllen len c pool long) run within

-- ---- payloads whose blocks have so many bytes together

sums : (count bytes n len : ℕ) → 32 + bytes + (count + 1) * n + 32 < len + 32 → 32 * 1 + bytes + (count + 1) * n < len
sums count bytes n len long = omega arith

-- bytes that a chunk's length leaves out, since it is a multiple of 32, do no harm
pub HasRoomForBudget-pool : {fllen : ℕ} (count bytes size sllen len : ℕ) (c : Range) → IsBudgetPool fllen sllen count bytes size len → len < c.len + 32
    → HasRoomForBudget count bytes size sllen (c ∷ [])
HasRoomForBudget-pool count bytes size sllen len c pool long = grind (arith, sum_by-cons, sums)

pub budget_pool_is_enough : BudgetPoolIsEnough
budget_pool_is_enough fl_bits sl_bits fllen sllen count bytes size align len memory s t c es valid w told is_chunk long run =
    let room = (w.chunks c is_chunk).has_room in
    let sought = request_size size align in
    let pool = IsBudgetPool-some fllen sllen count bytes sought len valid.power_of_two (IsSize-request_size size align) told in
    frugal_runs_are_not_denied count bytes sought fllen sllen memory s t (c ∷ []) es w (AreFronts-one c s.chunks is_chunk (omega arith))
    (HasRoomForBudget-pool count bytes sought sllen len c pool (omega arith)) run

-- ---- objects of one size

IsUniform-idle : {fllen sllen : ℕ} {memory : Range} {s : State} → IsWellFormed fllen sllen memory s → (c : Range) (len : ℕ) → s.used ≡ [] → s.chunks ≡ c ∷ []
    → IsUniform len c s
IsUniform-idle {fllen} {sllen} {memory} {s} w c len idle alone = record {
  chunks = alone;
  used = λ u i. absurd (subst (IsIn u) idle i);
  free = λ f i.
      let home = lies_in_chunk s (tiling_of w) f ((w.free f i).some) (IsPart-free s (tiling_of w) f i) in
      let from = home.from in
      let to = home.to in
      let some = (w.free f i).some in
      let d = home.chunk in
      let is : f ≡ body d =
      (idle_chunk_is_one_range fllen sllen memory s d w (λ a low high. ap (λ l. coverage (λ u. u.block) l a) idle) home.is_chunk).1 f i
      (covers-inside d f.start (omega arith) (omega arith)) in
      elim (subst (IsIn d) alone home.is_chunk) [
        | inl same ↦ (0, ap (λ r. r.start) is ∙ ap (λ r. r.start) same ∙ omega arith)
        | inr none ↦ absurd none
      ];
}

request_size-object : (block asked align : ℕ) → block % 32 ≡ 0 → 0 < block → asked ≡ block - 16 → align ≤ 16 → request_size asked align ≡ block
request_size-object block asked align whole some is small = grind (arith, round32-same)

asks_uniformly : (block asked : ℕ) → block % 32 ≡ 0 → 0 < block → asked ≡ block - 16 → (e : Event) → AsksForObject asked e → AsksUniformly block e
asks_uniformly block asked whole some is e asks = grind (arith, request_size-object)

blocks_in-pool : (count block : ℕ) (c : Range) → 0 < block → c.len ≡ count * block + 32 → blocks_in block c ≡ count
blocks_in-pool count block c some is = grind (arith, div-mul-add)

pub object_pool_is_exact : ObjectPoolIsExact
object_pool_is_exact fl_bits sl_bits fllen sllen count size len asked memory s t c es valid w told idle alone long run asks =
    let pool = IsObjectPool-some fllen sllen count size len asked valid.power_of_two told in
    let block = pool.block in
    let some = pool.whole.0 in
    let answers = uniform_runs_answer block fllen sllen memory s t c es w (IsUniform-idle w c block idle alone) some pool.begins run
    (λ e i. asks_uniformly block asked pool.whole.1 some pool.asks e (asks e i)) in
    let none_live : length s.used ≡ 0 = ap length idle in (
      omega (arith, pool.enough, pool.asks),
      subst (λ n. AreDeniedOnlyAt n 0 es) (blocks_in-pool count block c some (long ∙ pool.length)) (subst (λ n. AreDeniedOnlyAt (blocks_in block c) n es) none_live answers),
    )
