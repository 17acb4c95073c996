-- Lists of calls that are refused in a chunk that is 32 bytes shorter than what is computed for many payloads.
use Rattle.std.proofs.Common.{◌≡◌, ◌≢◌, ℕ, zero, suc, ◌+◌, ◌-◌, ◌*◌, ◌%◌, ◌<◌, ◌≤◌, List, [], ◌∷◌, length, Option, Some, None, arith}
use Rattle.std.proofs.Common.{refl, sym, ◌∙◌, ap, subst, inl, inr}
use Rattle.std.proofs.lemmas.Bool.{cases_lt}
use Rattle.std.proofs.lemmas.Option.{none-some}
use Rattle.std.proofs.Math.Nat.{le_of_mul-le-mul_right, mul-le-mul_left}
use Rattle.std.specs.Option.{option_and_then}
use Rattle.rlsf_base.specs.declared.memory.range.Range.{Range}
use Rattle.rlsf_base.specs.Range.{end_of, range_at}
use Rattle.rlsf_model_sizes.specs.Rounding.{round32}
use Rattle.rlsf_model_sizes.specs.SizeClass.{IsValid, Reaches, class_of, reaching_class}
use Rattle.rlsf_model_sizes.specs.Sizes.{IsSize, chunk_length, map_ceil_and_unmap, payloads_length, pool_size_for_payloads, request_size}
use Rattle.rlsf_base.proofs.Numbers.PowersOfTwo.{IsPowerOfTwo-positive}
use Rattle.rlsf_base.proofs.Numbers.Roundings.{round32-same}
use Rattle.rlsf_base.proofs.SizeClasses.Order.{IsFirstReaching-reaching_class, class_start-mono}
use Rattle.rlsf_base.proofs.SizeClasses.Reach.{Reaches-from_slack, class_start-le, division-lt}
use Rattle.rlsf_base.proofs.SizeMaps.ChunkLengths.{chunk_length-is, least_is_taken}
use Rattle.rlsf_base.proofs.SizeMaps.Laws.{IsSize-request_size, IsUnmapped-some}
use Rattle.rlsf_base.proofs.SizeMaps.RowLengths.{IsPower-row_length}
use Rattle.rlsf_model.specs.Allocate.{Allocates, choice}
use Rattle.rlsf_model.specs.Budget.{AreAtMost, AreWithin, AsksWithin, IsDenied, IsModest, RunsModestly}
use Rattle.rlsf_model.specs.Lists.{IsIn}
use Rattle.rlsf_model.specs.Release.{Deallocates, released}
use Rattle.rlsf_model.specs.Run.{Event, allocate, deallocate, reallocate, Leads, MayCall, Runs}
use Rattle.rlsf_model.specs.Sizing.{EndsRefused, EndsRefusedWithin, LayoutPoolIsExact, NeverRefuses, NeverRefusesWithin, PayloadPoolIsExact}
use Rattle.rlsf_model.specs.State.{State, Used, Holds}
use Rattle.rlsf_model.specs.WellFormed.{IsWellFormed}
use Rattle.rlsf_model.proofs.Budgets.{AreFronts-one, live_is_counted, modest_runs_are_not_denied}
use Rattle.rlsf_model.proofs.Changes.{Holds-unique, IsIn-others, IsIn-others_from}
use Rattle.rlsf_model.proofs.Choices.{choice-from_none}
use Rattle.rlsf_model.proofs.Cuts.{whole_product}
use Rattle.rlsf_model.proofs.PoolLengths.{HasBudget-reached, payload_pool_is_enough}
use Rattle.rlsf_model.proofs.ShortStates.{AreAsked, Gave, IsAt, IsPlain, Shrunk, asked, at_given, behind_is_rest, blocks_others, gives, short, shrinks, within}
use Rattle.rlsf_model.proofs.Steps.{steps_keep_well_formed}

-- ---- runs that end refused

next_place : (a i d gap most : ℕ) → d ≡ most + gap → a + i * d + gap + most ≡ a + suc i * d
next_place a i d gap most is = omega (arith, is)

-- a list of calls that ends refused: the blocks that are sought are in bounds, and so are the sizes and alignments that are asked for
record Ends (live most size align fllen sllen : ℕ) (memory : Range) (s : State) : Type 0 where
  calls : List Event
  after : State
  refused : Event
  modest : RunsModestly live most fllen sllen memory s calls after
  within : AreWithin live size align (length s.used) calls
  is_call : IsIn refused calls
  denied : IsDenied refused

module _ (live fllen sllen most gap size align : ℕ) (asks : ℕ → ℕ) (memory c : Range) (most_is : IsSize most) (are : AreAsked most size asks) (some_align : 1 ≤ align)
    (gap32 : gap % 32 ≡ 0) (twice : gap ≤ 2 * most)
    (unreach : (n : ℕ) → 0 < n → n ≤ gap → Reaches sllen (class_of sllen n) most → ⊥)
    (short_is : end_of c - 32 ≤ c.start + live * (most + gap) + gap) where
  abbrev At : ℕ → ℕ → State → Type 0
  At i p s = IsAt fllen sllen most gap memory c i p s

  abbrev Refuses : State → Type 0
  Refuses s = Ends live most size align fllen sllen memory s

  -- what is asked for the longest block
  abbrev z : ℕ
  z = asks most

  seeks : round32 (z + 16) ≡ most
  seeks = are.seeks most most_is (omega arith)

  first : (s : State) (e : Event) (u : State) → IsWellFormed fllen sllen memory s → MayCall memory s e → IsModest live most s e
      → AsksWithin live size align (length s.used) e → Leads fllen sllen s e u → Refuses u → Refuses s
  first s e u w may modest within step rest = record {
    calls = e ∷ rest.calls;
    after = rest.after;
    refused = rest.refused;
    modest = (u, may, modest, step, rest.modest);
    within = (within, subst (λ n. AreWithin live size align n rest.calls) (live_is_counted fllen sllen memory s u e w may step) rest.within);
    is_call = inr rest.is_call;
    denied = rest.denied;
  }

  refusing : (s : State) → length s.used ≤ live → Allocates sllen s z 1 None s → Refuses s
  refusing s few full = record {
    calls = allocate z 1 None ∷ [];
    after = s;
    refused = allocate z 1 None;
    modest = (s, refl, (few, omega (arith, asked z most seeks)), full, refl);
    within = ((few, are.small most most_is (omega arith), some_align), tt);
    is_call = inl refl;
    denied = refl;
  }

  -- a block is allocated, or the list ends refused
  allocating : {i p : ℕ} {s : State} → At i p s → c.start ≤ p → p ≤ c.start + i * (most + gap) + gap → length s.used ≤ live
      → ((g : Gave sllen s p most z) → At i (p + most) g.after → length g.after.used ≡ suc (length s.used) → Refuses g.after) → Refuses s
  allocating {i} {p} {s} is from near few rest =
      elim (gives most_is seeks unreach is from near) [
        | inl full ↦ refusing s few full
        | inr g ↦
            first s (allocate z 1 (Some g.addr)) g.after is.w refl (few, omega (arith, asked z most seeks)) (few, are.small most most_is (omega arith), some_align) g.step
            (rest g (at_given most_is seeks unreach is g) (ap length g.used))
      ]

  -- a block is deallocated that begins behind the gaps
  releasing : {i p : ℕ} {s : State} → At i p s → (x u : Used) → IsIn x s.used → c.start + i * (most + gap) ≤ x.block.start → IsIn u s.used → end_of u.block ≡ p
      → u.payload ≢ x.payload
      → (At i p (released s x) → length (released s x).used ≡ length s.used - 1 → Refuses (released s x)) → Refuses s
  releasing {i} {p} {s} is x u h behind k end apart rest =
      let t = released s x in
      let step : Deallocates s x.payload t = record { block = x; holds = (h, refl); after = refl } in
      first s (deallocate x.payload) t is.w (x, (h, refl)) tt tt step (rest (record {
        w = steps_keep_well_formed fllen sllen memory s t (deallocate x.payload) is.w (x, (h, refl)) step;
        one = is.one;
        blocks = blocks_others is x.payload x (h, refl) behind most_is.0;
        ends = λ v j. is.ends v (IsIn-others x.payload v s.used j).0;
        stop = inr (u, IsIn-others_from x.payload u s.used k apart, end);
      }) (live_is_counted fllen sllen memory s t (deallocate x.payload) is.w (x, (h, refl)) step))

  -- the last block is made shorter
  shrinking : {i p q old : ℕ} {s : State} → At i p s → (x : Used) → IsIn x s.used → IsPlain q old x → c.start + i * (most + gap) ≤ q
      → ((u : Used) → IsIn u s.used → u.payload ≢ q + 16 → end_of u.block ≤ q) → (len : ℕ) → IsSize len → len ≤ old → len ≤ most
      → length s.used ≤ live
      → ((h : Shrunk sllen s q len (asks len)) → At i (q + len) h.after → length h.after.used ≡ length s.used → Refuses h.after) → Refuses s
  shrinking {i} {p} {q} {old} {s} is x k plain behind others_end len len_is less fits few rest =
      let seeks_len : round32 (asks len + 16) ≡ len = are.seeks len len_is fits in
      let h = shrinks fllen sllen memory s x q old len (asks len) k plain seeks_len less in
      let holds : Holds s (q + 16) x = (k, plain.payload) in
      let start : x.block.start ≡ q = ap (λ r. r.start) plain.block in
      let new_end : end_of h.new.block ≡ q + len = ap end_of h.plain.block in
      let may : MayCall memory s (reallocate (q + 16) (asks len) (Some h.addr)) = (x, holds) in
      let modest : IsModest live most s (reallocate (q + 16) (asks len) (Some h.addr)) = (
        few,
        λ u held.
            let same : u ≡ x = Holds-unique is.w (q + 16) u x held holds in
            let one : u.align ≡ 1 = ap (λ v. v.align) same ∙ plain.align in
            omega (arith, ap (request_size (asks len)) one, asked (asks len) len seeks_len),
      ) in
      first s (reallocate (q + 16) (asks len) (Some h.addr)) h.after is.w may modest (few, are.small len len_is fits) h.step (rest h (record {
        w = steps_keep_well_formed fllen sllen memory s h.after (reallocate (q + 16) (asks len) (Some h.addr)) is.w may h.step;
        one = h.chunks ∙ is.one;
        blocks = λ n fewer. let (u, j, at) = blocks_others is (q + 16) x holds (omega arith) most_is.0 n fewer in (u, subst (IsIn u) (sym h.used) (inr j), at);
        ends = λ u j. elim (subst (IsIn u) h.used j) [
          | inl same ↦ omega (arith, ap (λ v. end_of v.block) same, new_end)
          | inr left ↦ let (was, apart) = IsIn-others (q + 16) u s.used left in omega (arith, others_end u was apart)
        ];
        stop = inr (h.new, subst (IsIn h.new) (sym h.used) (inl refl), new_end);
      }) (live_is_counted fllen sllen memory s h.after (reallocate (q + 16) (asks len) (Some h.addr)) is.w may h.step))

  -- one more gap with a used block behind it
  more : {i p : ℕ} {s : State} → At i p s → (u : Used) → IsIn u s.used → u.block ≡ range_at (c.start + i * (most + gap) + gap) most → At (suc i) p s
  more {i} {p} {s} is u j at = record {
    w = is.w;
    one = is.one;
    blocks = λ k less. elim (cases_lt k i) [
      | inl before ↦ is.blocks k before
      | inr last ↦ let same : i ≡ k = omega arith in (u, j, subst (λ n. u.block ≡ range_at (c.start + n * (most + gap) + gap) most) same at)
    ];
    ends = is.ends;
    stop = is.stop;
  }

  -- behind a gap in which a block is, one is allocated, and that one is deallocated
  closing : {i : ℕ} {s : State} → At i (c.start + i * (most + gap) + gap) s → (x : Used) (q len : ℕ) → IsIn x s.used → IsPlain q len x
      → c.start + i * (most + gap) ≤ q → q < c.start + i * (most + gap) + gap
      → length s.used ≡ suc i → suc i ≤ live
      → ((t : State) → At (suc i) (c.start + suc i * (most + gap)) t → length t.used ≡ suc i → Refuses t) → Refuses s
  closing {i} {s} is x q len k plain behind before count few rest =
      let p = c.start + i * (most + gap) + gap in
      allocating is (omega arith) (omega arith) (omega (arith, count, few)) (λ g at counted.
      let old : IsIn x g.after.used = subst (IsIn x) (sym g.used) (inr k) in
      let new : IsIn g.new g.after.used = subst (IsIn g.new) (sym g.used) (inl refl) in
      let start : x.block.start ≡ q = ap (λ r. r.start) plain.block in
      let new_end : end_of g.new.block ≡ p + most = ap end_of g.plain.block in
      let apart : g.new.payload ≢ x.payload = λ same. absurd (omega (arith, same, g.plain.payload, plain.payload, before)) in
      releasing at x g.new old (omega (arith, start, behind)) new new_end apart (λ left counted'.
      rest (released g.after x)
      (subst (λ n. At (suc i) n (released g.after x)) (next_place c.start i (most + gap) gap most refl)
      (more left g.new (IsIn-others_from x.payload g.new g.after.used new apart) g.plain.block))
      (omega (arith, counted', counted, count))))

  -- ---- rounds

  last : {s : State} → At live (c.start + live * (most + gap)) s → length s.used ≡ live → Refuses s
  last {s} is count =
      let p = c.start + live * (most + gap) in
      let few : (f : Range) → IsIn f s.free → f.len ≤ gap = λ f j.
      let (f_from, f_to, f_some) = within is f j in
      elim (cases_lt p (end_of f)) [
        | inl behind ↦
            let rest = behind_is_rest is (omega arith) (omega arith) f j behind in
            omega (arith, ap (λ r. r.len) rest, short_is)
        | inr before ↦ short is most_is.0 (omega arith) f j before
      ] in
      let none : choice sllen (request_size z 1) s.free ≡ None = choice-from_none sllen (request_size z 1) s.free
      (λ f j reached. unreach f.len (is.w.free f j).some (few f j) (subst (Reaches sllen (class_of sllen f.len)) (asked z most seeks) reached)) in
      refusing s (omega (arith, count)) (none, refl)

  rounds : (j i : ℕ) (s : State) → i + j ≡ live → At i (c.start + i * (most + gap)) s → length s.used ≡ i → Refuses s
  rounds zero i s sum is count =
      let same : i ≡ live = omega arith in
      last (subst (λ n. At n (c.start + n * (most + gap)) s) same is) (count ∙ same)
  rounds (suc j) i s sum is count =
      let later = λ (t : State). rounds j (suc i) t (omega arith) in
      let p = c.start + i * (most + gap) in
      elim (cases_lt 0 gap) [
        | inr none ↦
            allocating is (omega arith) (omega arith) (omega arith) (λ g at counted.
            later g.after
            (subst (λ n. At (suc i) n g.after) (plain_place (omega arith) c.start i)
            (more at g.new (subst (IsIn g.new) (sym g.used) (inl refl)) (subst (λ n. g.new.block ≡ range_at n most) (omega arith) g.plain.block)))
            (omega (arith, counted, count)))
        | inl some ↦ elim (cases_lt most gap) [
          | inr fits ↦
              allocating is (omega arith) (omega arith) (omega arith) (λ g at counted.
              shrinking at g.new (subst (IsIn g.new) (sym g.used) (inl refl)) g.plain (omega arith)
              (λ u h apart. elim (subst (IsIn u) g.used h) [ inl same ↦ absurd (apart (ap (λ v. v.payload) same ∙ g.plain.payload)) | inr old ↦ is.ends u old ])
              gap (some, gap32) fits fits (omega (arith, counted, count)) (λ h shrunk counted'.
              closing shrunk h.new p gap (subst (IsIn h.new) (sym h.used) (inl refl)) h.plain (omega arith) (omega arith) (omega (arith, counted', counted, count)) (omega arith)
              later))
          | inl long ↦
              allocating is (omega arith) (omega arith) (omega arith) (λ g at counted.
              allocating at (omega arith) (omega arith) (omega (arith, counted, count)) (λ g' at' counted'.
              let x = g.new in
              let y = g'.new in
              let x_in : IsIn x g'.after.used = subst (IsIn x) (sym g'.used) (inr (subst (IsIn x) (sym g.used) (inl refl))) in
              let y_in : IsIn y g'.after.used = subst (IsIn y) (sym g'.used) (inl refl) in
              let apart : y.payload ≢ x.payload = λ same. absurd (omega (arith, same, g.plain.payload, g'.plain.payload, most_is.0)) in
              releasing at' x y x_in (omega (arith, ap (λ r. r.start) g.plain.block)) y_in (ap end_of g'.plain.block) apart (λ left counted''.
              let y_left : IsIn y (released g'.after x).used = IsIn-others_from x.payload y g'.after.used y_in apart in
              shrinking left y y_left g'.plain (omega arith)
              (λ u h off. elim (subst (IsIn u) g'.used (IsIn-others x.payload u g'.after.used h).0) [
                | inl same ↦ absurd (off (ap (λ v. v.payload) same ∙ g'.plain.payload))
                | inr old ↦ at.ends u old
              ])
              (gap - most) (omega arith, omega (arith, gap32, most_is.1)) (omega arith) (omega arith) (omega (arith, counted'', counted', counted, count)) (λ h shrunk counted'''.
              closing (subst (λ n. At i n h.after) (omega arith) shrunk) h.new (p + most) (gap - most) (subst (IsIn h.new) (sym h.used) (inl refl)) h.plain (omega arith)
              (omega arith)
              (omega (arith, counted''', counted'', counted', counted, count)) (omega arith) later))))
        ]
      ]
    where
      plain_place : gap ≡ 0 → (a i : ℕ) → a + i * (most + gap) + most ≡ a + suc i * (most + gap)
      plain_place none a i = omega (arith, none, next_place a i (most + gap) gap most refl)

-- ---- the law

end_is : (n most gap a len : ℕ) → len < n * most + n * gap + (gap + 64) → len % 32 ≡ 0 → gap % 32 ≡ 0 → most % 32 ≡ 0
    → a + len - 32 ≤ a + n * (most + gap) + gap
end_is n most gap a len less len32 gap32 most32 =
    let whole : n * (most + gap) % 32 ≡ 0 = whole_product (most + gap) n (omega arith) in
    let sum : n * (most + gap) ≡ n * most + n * gap = omega arith in
    go (n * (most + gap)) whole (omega (arith, less, sum))
  where
    go : (d : ℕ) → d % 32 ≡ 0 → len < d + (gap + 64) → a + len - 32 ≤ a + d + gap
    go d whole fewer = omega arith

slack : (m n : ℕ) → 0 < n → m * (n + 1) ≤ 2 * m * n
slack m n some = let times : m * 1 ≤ m * n = mul-le-mul_left m some in omega arith

-- a chunk alone, in which nothing lives, that is shorter than what is computed ends refused
ends_refused : (fl_bits sl_bits fllen sllen live most least size align : ℕ) (asks : ℕ → ℕ) (memory : Range) (s : State) (c : Range) → IsValid fl_bits sl_bits fllen sllen
    → IsWellFormed fllen sllen memory s → IsSize most
    → AreAsked most size asks → 1 ≤ align → map_ceil_and_unmap fllen sllen most ≡ Some least → s.used ≡ [] → s.chunks ≡ c ∷ []
    → c.len < payloads_length live most least → Ends live most size align fllen sllen memory s
ends_refused fl_bits sl_bits fllen sllen live most least size align asks memory s c valid w most_is are some_align told idle alone shorter =
    let row = valid.power_of_two in
    let start = (IsUnmapped-some fllen sllen most least row most_is told).start in
    let some = (IsPower-row_length sllen row).some in
    let first = IsFirstReaching-reaching_class sllen most some most_is.0 in
    let gap = least - 32 in
    let least_some : 32 ≤ least = omega (arith, start.enough, most_is.0, start.multiple) in
    let minimal : (n : ℕ) → 0 < n → Reaches sllen (class_of sllen n) most → least ≤ n = λ n n_some reached.
    let order = class_start-mono sllen (reaching_class sllen most) (class_of sllen n) first.in_row (first.first (class_of sllen n) (division-lt sllen n n_some some) reached) in
    le_of_mul-le-mul_right {k = sllen} (omega (arith, order, start.begins, class_start-le sllen n n_some)) some in
    let twice : least ≤ 2 * most = minimal (2 * most) (omega (arith, most_is.0)) (Reaches-from_slack sllen (2 * most) (omega (arith, most_is.0)) most (slack most sllen some)) in
    let is_chunk : IsIn c s.chunks = subst (IsIn c) (sym alone) (inl refl) in
    rounds live fllen sllen most gap size align asks memory c most_is are some_align (omega (arith, start.multiple)) (omega arith)
    (λ n n_some fewer reached. absurd (omega (arith, minimal n n_some reached)))
    (end_is live most gap c.start c.len (omega arith) (w.chunks c is_chunk).whole.len (omega (arith, start.multiple)) most_is.1) live 0 s (omega arith)
    (record {
      w = w;
      one = alone;
      blocks = λ k less. absurd (omega arith);
      ends = λ u j. absurd (subst (IsIn u) idle j);
      stop = inl (omega arith);
    })
    (ap length idle)

pub payload_pool_is_exact : PayloadPoolIsExact
payload_pool_is_exact fl_bits sl_bits fllen sllen live most least memory s c valid w most_is told idle alone =
    (never, ends)
  where
    never : payloads_length live most least ≤ c.len → NeverRefuses live most fllen sllen memory s
    never long es t e run i denied =
        let is_chunk : IsIn c s.chunks = subst (IsIn c) (sym alone) (inl refl) in
        let room = (w.chunks c is_chunk).has_room in
        modest_runs_are_not_denied live most fllen sllen memory s t (c ∷ []) es w (AreFronts-one c s.chunks is_chunk (omega arith))
        (subst (AreAtMost most) (sym idle) (λ u j. absurd j))
        (let taken = least_is_taken fllen sllen most least valid.power_of_two most_is told in HasBudget-reached live most sllen least c taken.0 taken.1 long) run e i denied

    ends : c.len < payloads_length live most least → EndsRefused live most fllen sllen memory s
    ends shorter =
        let asks : ℕ → ℕ = λ len. len - 16 in
        let are : AreAsked most (most - 16) asks = record {
          seeks = λ len is fits. let sum : len - 16 + 16 ≡ len = omega (arith, is.0, is.1) in ap round32 sum ∙ round32-same len is.1;
          small = λ len is fits. omega arith;
        } in
        let list = ends_refused fl_bits sl_bits fllen sllen live most least (most - 16) 1 asks memory s c valid w most_is are (omega arith) told idle alone shorter in
        record { calls = list.calls; after = list.after; refused = list.refused; run = list.modest; is_call = list.is_call; denied = list.denied }

-- ---- layouts

-- for a layout with an alignment of 16 or less the size itself is asked for where the longest block is sought
layout_is_asked : (size align : ℕ) → align ≤ 16 → AreAsked (request_size size align) size (λ len. size - (size - (len - 16)))
layout_is_asked size align small = grind arith

-- what is modest is a run
runs_of : (live most fllen sllen : ℕ) (memory : Range) (es : List Event) (s t : State) → RunsModestly live most fllen sllen memory s es t → Runs fllen sllen memory s es t
runs_of live most fllen sllen memory [] s t is = is
runs_of live most fllen sllen memory (e ∷ es) s t (u, may, modest, step, rest) = (u, may, step, runs_of live most fllen sllen memory es u t rest)

-- the length that is computed is that of the least size of the class that reaches what is sought
unmapped : (fllen sllen count size align len : ℕ) → pool_size_for_payloads fllen sllen count size align ≡ Some len
    → (least : ℕ) × (map_ceil_and_unmap fllen sllen (request_size size align) ≡ Some least) × (payloads_length count (request_size size align) least ≡ len)
unmapped fllen sllen count size align len told = go (map_ceil_and_unmap fllen sllen (request_size size align)) refl told
  where
    go : (o : Option ℕ) → map_ceil_and_unmap fllen sllen (request_size size align) ≡ o
        → option_and_then (λ least. chunk_length fllen (payloads_length count (request_size size align) least)) o ≡ Some len
        → (least : ℕ) × (map_ceil_and_unmap fllen sllen (request_size size align) ≡ Some least) × (payloads_length count (request_size size align) least ≡ len)
    go None e none = absurd (none-some len none)
    go (Some least) e some = (least, e, chunk_length-is fllen (payloads_length count (request_size size align) least) len some)

pub layout_pool_is_exact : LayoutPoolIsExact
layout_pool_is_exact fl_bits sl_bits fllen sllen count size align len memory s c valid w power small told idle alone =
    (never, ends)
  where
    never : len ≤ c.len → NeverRefusesWithin count size align fllen sllen memory s
    never long es t e run within i denied =
        payload_pool_is_enough fl_bits sl_bits fllen sllen count size align len memory s t c es valid w told idle (subst (IsIn c) (sym alone) (inl refl)) long run within e i denied

    ends : c.len < len → EndsRefusedWithin count size align fllen sllen memory s
    ends shorter =
        let (least, is, length_is) = unmapped fllen sllen count size align len told in
        let asks : ℕ → ℕ = λ l. size - (size - (l - 16)) in
        let list =
        ends_refused fl_bits sl_bits fllen sllen count (request_size size align) least size align asks memory s c valid w (IsSize-request_size size align)
        (layout_is_asked size align small) (IsPowerOfTwo-positive align power) is idle alone
        (omega (arith, shorter, length_is)) in
        record {
          calls = list.calls;
          after = list.after;
          refused = list.refused;
          run = runs_of count (request_size size align) fllen sllen memory list.calls s list.after list.modest;
          within = subst (λ n. AreWithin count size align n list.calls) (ap length idle) list.within;
          is_call = list.is_call;
          denied = list.denied;
        }
