-- Memory that comes from a source leaves a state well-formed.
use Rattle.std.proofs.Common.{◌≡◌, ℕ, ◌+◌, ◌-◌, ◌≤◌, Bool, true, false, List, [], ◌∷◌, Option, Some, arith, refl, sym, ◌∙◌, ap, subst, inl, inr, ◌||◌}
use Rattle.std.specs.Bool.{then_some}
use Rattle.std.proofs.lemmas.Bool.{false≢true}
use Rattle.std.proofs.lemmas.Option.{same_Some}
use Rattle.rlsf_base.specs.declared.memory.range.Range.{Range}
use Rattle.rlsf_base.specs.Range.{end_of, range_at}
use Rattle.rlsf_model_sizes.specs.Rounding.{round32}
use Rattle.rlsf_base.proofs.Numbers.Roundings.{round32-le}
use Rattle.rlsf_model_sizes.specs.SizeClass.{IsValid}
use Rattle.rlsf_model_sizes.specs.Sizes.{pool_size_to_contain_allocation}
use Rattle.rlsf_model.specs.Allocate.{Allocates}
use Rattle.rlsf_model.specs.Answers.{MayAnswerAll}
use Rattle.rlsf_model.specs.ChunkRows.{IsRow}
use Rattle.rlsf_model.specs.FlexRun.{HandsIn}
use Rattle.rlsf_model.specs.FlexState.{FlexState, KeptPool}
use Rattle.rlsf_model.specs.FlexWellFormed.{AreHoused, AreOutstanding, ArePools, IsFlexWellFormed, IsKeptPool, IsNewest, IsPool}
use Rattle.rlsf_model.specs.Growth.{IsPossible, Outcome, range_came, growth_came, is_more, longer, notes_of, questions, refused, TakesIn}
use Rattle.rlsf_model.specs.Insert.{Appends, Inserts, IsClear, IsFresh, IsNext}
use Rattle.rlsf_model.specs.Laws.{GrowthHasRoom, GrowthKeepsWellFormed}
use Rattle.rlsf_model.specs.Lists.{IsIn}
use Rattle.rlsf_model.specs.PoolLength.{HasFreePool}
use Rattle.rlsf_model.specs.Run.{Event, insert, append, Leads, MayCall}
use Rattle.rlsf_model.specs.State.{State, between}
use Rattle.rlsf_model.specs.Terms.{IsGiven, IsGrown, Terms, with_len}
use Rattle.rlsf_model.specs.WellFormed.{IsWellFormed}
use Rattle.rlsf_model.proofs.Appends.{Appends-keeps}
use Rattle.rlsf_model.proofs.ChunkRows.{IsRow-appended, IsRow-kept_apart}
use Rattle.rlsf_model.proofs.Coverage.{before, behind as past, covers-inside, inside, where_is}
use Rattle.rlsf_model.proofs.GivenAnswers.{given_answer, grown_answer, more_wanted}
use Rattle.rlsf_model.proofs.RangesInChunks.{AreHoused-inserted, AreHoused-longer, AreOutstanding-more, AreOutstanding-rest, IsClear-housed, coverage-in, coverage-none}
use Rattle.rlsf_model.proofs.Insertions.{Inserts-keeps}
use Rattle.rlsf_model.proofs.RangePools.{IsPool-inserted, IsPool-inserted_other, IsPool-kept}
use Rattle.rlsf_model.proofs.RangeLengths.{HasAlignedPart-given, range_asked}
use Rattle.rlsf_model.proofs.TakenPools.{IsTaken, appended_pool, appended_taken, inserted_pool, inserted_taken, longer as wider, new, old, pool_has_a_choice, pool_size_is}
use Rattle.rlsf_model.proofs.Names.{behind}

-- a state by its parts
IsFlexWellFormed-at : {fllen sllen : ℕ} {memory : Range} {t : Terms} {s : FlexState} → IsFlexWellFormed fllen sllen memory t s
    → (u : FlexState) (pools : List Range) (kept : Option KeptPool) → u.pools ≡ pools → u.kept ≡ kept
    → IsWellFormed fllen sllen memory u.machine → AreOutstanding t.space pools → AreHoused pools u.machine.chunks → IsNewest t kept pools u.machine.chunks
    → ArePools u.machine pools → IsFlexWellFormed fllen sllen memory t u
IsFlexWellFormed-at {t = t} w u pools kept is_pools is_kept machine outstanding housed newest pooled = record {
  machine = machine;
  space = w.space;
  pools = subst (AreOutstanding t.space) (sym is_pools) outstanding;
  housed = subst (λ ps. AreHoused ps u.machine.chunks) (sym is_pools) housed;
  newest = subst (λ ps. IsNewest t u.kept ps u.machine.chunks) (sym is_pools) (subst (λ k. IsNewest t k pools u.machine.chunks) (sym is_kept) newest);
  pooled = subst (ArePools u.machine) (sym is_pools) pooled;
}

-- a range whose last bytes r were taken, n of them, is kept up to there
IsKeptPool-taken : (t : Terms) (range : Range) (len : ℕ) (rest : List Range) (s u : State) (r : Range) (n : ℕ) → (t.dealloc || t.grow) ≡ true → range.start ≤ r.start
    → end_of r ≡ end_of range
    → range.start + len ≡ r.start + n → IsClear r s.chunks → IsTaken s r n u → IsKeptPool t (record { range = range; len = len }) (range ∷ rest) u.chunks
IsKeptPool-taken t range len rest s u r n keep from ends at clear taken =
    let (c, is_chunk, c_ends) = taken.last in
    record {
      rest = rest;
      split = refl;
      keeping = keep;
      within = omega (arith, taken.within);
      nearly = omega (arith, taken.nearly);
      last = (c, is_chunk, c_ends ∙ sym at);
      unused = λ a low high. coverage-none u.chunks a (λ d i d_low d_high. elim (taken.origin d i) [
        | old j ↦ omega (arith, coverage-in d s.chunks a j d_low d_high, clear a (omega arith) (omega arith))
        | new starts d_ends ↦ omega arith
        | wider b j starts b_ends d_ends ↦ omega arith
      ]);
    }

module _ {fllen sllen : ℕ} {memory : Range} {t : Terms} {s : FlexState} (w : IsFlexWellFormed fllen sllen memory t s) where
  -- ---- a range

  -- a range that a source may give may be inserted
  pub given_fresh : (n : ℕ) (r : Range) → IsGiven t s.pools n r → IsFresh memory s.machine r
  given_fresh n r g = record {
    lies_in = (omega (arith, g.lies_in, w.space), omega (arith, g.lies_in, w.space));
    apart = IsClear-housed r s.pools s.machine.chunks w.housed g.apart;
  }

  -- a range that came and was inserted leaves a well-formed state
  pub given_keeps : (n len : ℕ) (r : Range) (u : FlexState) → IsGiven t s.pools n r → Inserts fllen s.machine r (Some len) u.machine → u.pools ≡ r ∷ s.pools
      → u.kept ≡ then_some (t.dealloc || t.grow) (record { range = r; len = len })
      → IsFlexWellFormed fllen sllen memory t u
  given_keeps n len r u g step is_pools is_kept =
      let (long, taken) = inserted_taken fllen s.machine u.machine r len w.machine.rows step in
      let fresh = given_fresh n r g in
      IsFlexWellFormed-at w u (r ∷ s.pools) (then_some (t.dealloc || t.grow) (record { range = r; len = len })) is_pools is_kept
      (Inserts-keeps w.machine r fresh (Some len) u.machine step)
      (AreOutstanding-more t.space r s.pools w.pools g.lies_in g.apart long)
      (AreHoused-inserted fllen s.machine u.machine r (Some len) s.pools w.housed step)
      (newest_by fresh taken (t.dealloc || t.grow) refl)
      (λ p. elim [
        | inl same ↦ subst (λ (q : Range). (m : ℕ) × IsPool u.machine q m) (sym same)
            (len, IsPool-inserted fllen s.machine u.machine r len long fresh.apart (Inserts-keeps w.machine r fresh (Some len) u.machine step) taken step)
        | inr i ↦ let (m, is) = w.pooled p i in (m, IsPool-inserted_other fllen s.machine u.machine r p m (Some len) s.pools i g.apart step is)
      ])
    where
      newest_by : IsFresh memory s.machine r → IsTaken s.machine r len u.machine → (k : Bool) → (t.dealloc || t.grow) ≡ k
          → IsNewest t (then_some k (record { range = r; len = len })) (r ∷ s.pools) u.machine.chunks
      newest_by fresh taken true keep = IsKeptPool-taken t r len s.pools s.machine u.machine r len keep (omega arith) refl refl fresh.apart taken
      newest_by fresh taken false none = λ keep. absurd (false≢true (sym none ∙ keep))

  -- ---- a growth

  module _ {k : KeptPool} (was : s.kept ≡ Some k) (asked len : ℕ) (kept : IsKeptPool t k s.pools s.machine.chunks) (g : IsGrown t kept.rest k.range asked len)
      (more : k.len + 64 ≤ asked) where
    -- the ranges before, with the kept one in front
    pub old_pools : AreOutstanding t.space (k.range ∷ kept.rest)
    old_pools = subst (AreOutstanding t.space) kept.split w.pools

    old_housed : AreHoused (k.range ∷ kept.rest) s.machine.chunks
    old_housed = subst (λ ps. AreHoused ps s.machine.chunks) kept.split w.housed

    -- the range has grown by all that is behind the kept pool
    pub is_longer : (k.len + 64 ≤ len) × (k.range.len ≤ len) × (64 ≤ k.range.len)
    is_longer = (omega (arith, g.long), omega (arith, g.long, kept.nearly), old_pools.long k.range (inl refl))

    -- the longer range houses the chunks that there were
    pub housed_before : AreHoused (with_len k.range len ∷ kept.rest) s.machine.chunks
    housed_before = AreHoused-longer k.range len kept.rest s.machine.chunks is_longer.1 old_housed

    -- no chunk has a byte behind the kept pool
    behind_clear : IsClear (behind k len) s.machine.chunks
    behind_clear a low high =
        let (room, wide, long) = is_longer in
        elim (where_is k.range a) [
          | inside one from to ↦ kept.unused a low (omega arith)
          | before none from ↦ absurd (omega arith)
          | past none to ↦ coverage-none s.machine.chunks a (λ d i d_low d_high.
              let (p, j, starts, ends) = old_housed d i in
              elim j [
                | inl same ↦ let end : end_of p ≡ end_of k.range = ap end_of {x = p} same in omega arith
                | inr m ↦ omega (arith, coverage-in p kept.rest a m (omega arith) (omega arith), g.apart a (omega arith) (omega arith))
              ])
        ]

    -- what is behind the kept pool may be appended
    pub behind_next : IsNext memory s.machine (behind k len)
    behind_next = grind (arith, is_longer, behind_clear)

    -- the longer range houses the chunks that there are then
    housed_after : (u : State) (n : ℕ) → IsTaken s.machine (behind k len) n u → AreHoused (with_len k.range len ∷ kept.rest) u.chunks
    housed_after u n taken x i =
        let (room, wide, long) = is_longer in
        let now = with_len k.range len in
        elim (taken.origin x i) [
          | old j ↦ housed_before x j
          | new from to ↦ (now, inl refl, omega arith, omega (arith, taken.within))
          | wider b j starts b_ends ends ↦
              let (p, m, low, high) = old_housed b j in
              let b_room = (w.machine.chunks b j).has_room in
              elim m [
                | inl same ↦ let start : p.start ≡ k.range.start = ap (λ q. q.start) {x = p} same in (now, inl refl, omega arith, omega (arith, taken.within))
                | inr other ↦
                    let a = end_of b - 1 in
                    absurd (omega (arith, coverage-in p kept.rest a other (omega arith) (omega arith), g.apart a (omega arith) (omega arith)))
              ]
        ]

    -- the kept range's pool reaches as far as it is kept
    pool_before : IsPool s.machine k.range k.len
    pool_before = let (m, is) = w.pooled k.range (subst (IsIn k.range) (sym kept.split) (inl refl)) in
        subst (IsPool s.machine k.range) (IsPool-kept t k s.machine s.pools m (λ c i. (w.machine.chunks c i).has_room) kept is) is

    kept_after : (u : State) (n : ℕ) → IsTaken s.machine (behind k len) n u
        → IsKeptPool t (record { range = with_len k.range len; len = k.len + n }) (with_len k.range len ∷ kept.rest) u.chunks
    kept_after u n taken =
        let (room, wide, long) = is_longer in
        IsKeptPool-taken t (with_len k.range len) (k.len + n) kept.rest s.machine u (behind k len) n kept.keeping (omega arith) (omega arith) (omega arith) behind_clear taken

    -- so does the longer range's
    grown_pool : (u : State) (n : ℕ) → Appends fllen s.machine (behind k len) n u → IsTaken s.machine (behind k len) n u → IsPool u (with_len k.range len) (k.len + n)
    grown_pool u n step taken =
        let after = kept_after u n taken in
        let some = pool_before.some in
        let its_row = between (round32 k.range.start) (k.range.start + k.len) in
        let same : its_row.len + n ≡ k.range.start + (k.len + n) - round32 k.range.start = omega arith in
        record {
          some = omega arith;
          within = after.within;
          nearly = after.nearly;
          row =
              subst (λ m. IsRow u (range_at (round32 k.range.start) m)) same
              (IsRow-appended w.machine (behind k len) its_row (omega arith) (omega arith) pool_before.row n u step);
          unused = after.unused;
        }

    -- the pools of the other ranges stay
    other_pool : (u : State) (n : ℕ) (p : Range) (m : ℕ) → IsIn p kept.rest → Appends fllen s.machine (behind k len) n u → IsTaken s.machine (behind k len) n u
        → IsPool s.machine p m → IsPool u p m
    other_pool u n p m i step taken is =
        let (room, wide, long) = is_longer in
        let some = is.some in
        let within = is.within in
        let begins = round32-le p.start in
        let its_row = between (round32 p.start) (p.start + m) in
        let near = kept.nearly in
        let kept_within = kept.within in
        let elsewhere : end_of its_row ≡ k.range.start + k.len → ⊥ = λ at.
        let a = k.range.start + k.len - 1 in
        omega (arith, old_pools.disjoint a, covers-inside k.range a (omega arith) (omega arith), coverage-in p kept.rest a i (omega arith) (omega arith)) in
        record {
          some = is.some;
          within = is.within;
          nearly = is.nearly;
          row = IsRow-kept_apart s.machine (behind k len) its_row behind_clear elsewhere is.row fllen n u step;
          unused = λ a low high. coverage-none u.chunks a (λ d j d_low d_high. elim (taken.origin d j) [
            | old h ↦ omega (arith, coverage-in d s.machine.chunks a h d_low d_high, is.unused a low high)
            | new starts ends ↦ omega (arith, coverage-in p kept.rest a i (omega arith) (omega arith), g.apart a (omega arith) (omega (arith, taken.within)))
            | wider b h starts b_ends ends ↦
                let (q, l, q_low, q_high) = housed_after u n taken d j in
                elim l [
                  | inl same ↦
                      let q_start : q.start ≡ k.range.start = ap (λ x. x.start) {x = q} same in
                      let q_end : end_of q ≡ k.range.start + len = ap end_of {x = q} same in
                      omega (arith, coverage-in p kept.rest a i (omega arith) (omega arith), g.apart a (omega arith) (omega arith))
                  | inr other ↦
                      let e = end_of d - 1 in
                      omega (arith, coverage-in q kept.rest e other (omega arith) (omega arith), g.apart e (omega (arith, taken.nearly)) (omega (arith, taken.within)))
                ]
          ]);
        }

    -- a growth that came and was appended leaves a well-formed state
    pub grown_keeps : (n : ℕ) (u : FlexState) → Appends fllen s.machine (behind k len) n u.machine → u.pools ≡ longer len s.pools
        → u.kept ≡ Some (record { range = with_len k.range len; len = k.len + n })
        → IsFlexWellFormed fllen sllen memory t u
    grown_keeps n u step is_pools is_kept =
        let (room, wide, long) = is_longer in
        let now = with_len k.range len in
        let taken = appended_taken fllen sllen memory s.machine u.machine (behind k len) n w.machine behind_next (omega arith) step in
        IsFlexWellFormed-at w u (now ∷ kept.rest) (Some (record { range = now; len = k.len + n })) (is_pools ∙ ap (longer len) kept.split) is_kept
        (Appends-keeps w.machine (behind k len) behind_next.fresh n u.machine step)
        (AreOutstanding-more t.space now kept.rest (AreOutstanding-rest t.space k.range kept.rest old_pools) g.lies_in g.apart (omega arith))
        (housed_after u.machine n taken)
        (kept_after u.machine n taken)
        (λ p. elim [
          | inl same ↦ subst (λ (q : Range). (m : ℕ) × IsPool u.machine q m) (sym same) (k.len + n, grown_pool u.machine n step taken)
          | inr i ↦ let (m, is) = w.pooled p (subst (IsIn p) (sym kept.split) (inr i)) in (m, other_pool u.machine n p m i step taken is)
        ])

  -- ---- what came

  -- a growth that came was asked for, with room for the pool that is wanted
  pub record HasGrown (wanted : Option ℕ) (k : KeptPool) (len : ℕ) : Type 0 where
    pub e : ℕ
    pub is_wanted : wanted ≡ Some e
    pub kept : IsKeptPool t k s.pools s.machine.chunks
    pub is_grown : IsGrown t kept.rest k.range (k.len + e) len
    pub room : k.len + 64 ≤ k.len + e

  pub has_grown : (fl_bits sl_bits size align len : ℕ) (k : KeptPool) → IsValid fl_bits sl_bits fllen sllen → s.kept ≡ Some k
      → IsPossible (questions t s.kept (pool_size_to_contain_allocation fllen sllen size align)) (growth_came len)
      → MayAnswerAll t s.pools (notes_of (questions t s.kept (pool_size_to_contain_allocation fllen sllen size align)) (growth_came len))
      → HasGrown (pool_size_to_contain_allocation fllen sllen size align) k len
  has_grown fl_bits sl_bits size align len k valid was possible answers =
      let (e, wanted) = more_wanted t s.kept (pool_size_to_contain_allocation fllen sllen size align) (growth_came len) refl possible in
      let is_asked : questions t s.kept (pool_size_to_contain_allocation fllen sllen size align) ≡ questions t (Some k) (Some e) =
      ap (λ o. questions t s.kept o) wanted ∙ ap (λ o. questions t o (Some e)) was in
      let kept = subst (λ o. IsNewest t o s.pools s.machine.chunks) was w.newest in
      let room = (pool_size_is fl_bits sl_bits fllen sllen e valid (record { size = size; align = align; is = wanted })).0 in
      let answer =
      grown_answer t s.pools k e len (subst (λ q. IsPossible q (growth_came len)) is_asked possible)
      (subst (λ q. MayAnswerAll t s.pools (notes_of q (growth_came len))) is_asked answers) in
      record { e = e; is_wanted = wanted; kept = kept; is_grown = answer [] kept.rest kept.split; room = omega (arith, room) }

  taken_keeps : (fl_bits sl_bits size align : ℕ) → IsValid fl_bits sl_bits fllen sllen → (outcome : Outcome) (u : FlexState)
      → IsPossible (questions t s.kept (pool_size_to_contain_allocation fllen sllen size align)) outcome
      → MayAnswerAll t s.pools (notes_of (questions t s.kept (pool_size_to_contain_allocation fllen sllen size align)) outcome) → TakesIn fllen t s outcome u
      → IsFlexWellFormed fllen sllen memory t u
  taken_keeps fl_bits sl_bits size align valid refused u possible answers takes = subst (IsFlexWellFormed fllen sllen memory t) (sym takes) w
  taken_keeps fl_bits sl_bits size align valid (range_came r) u possible answers (len, step, pools, kept) =
      let (n, asked, g) = given_answer t s.pools (questions t s.kept (pool_size_to_contain_allocation fllen sllen size align)) r possible answers in
      given_keeps n len r u g step pools kept
  taken_keeps fl_bits sl_bits size align valid (growth_came len) u possible answers (k, n, was, step, pools, is_kept) =
      let g = has_grown fl_bits sl_bits size align len k valid was possible answers in
      grown_keeps was (k.len + g.e) len g.kept g.is_grown g.room n u step pools is_kept

  -- the reference model's callers might insert it
  pub taken_handed_in : (fl_bits sl_bits size align : ℕ) → IsValid fl_bits sl_bits fllen sllen → (outcome : Outcome) (u : FlexState)
      → IsPossible (questions t s.kept (pool_size_to_contain_allocation fllen sllen size align)) outcome
      → MayAnswerAll t s.pools (notes_of (questions t s.kept (pool_size_to_contain_allocation fllen sllen size align)) outcome) → TakesIn fllen t s outcome u
      → is_more outcome ≡ true
      → (h : Event) × HandsIn h × MayCall memory s.machine h × Leads fllen sllen s.machine h u.machine
  taken_handed_in fl_bits sl_bits size align valid refused u possible answers takes more = absurd (false≢true more)
  taken_handed_in fl_bits sl_bits size align valid (range_came r) u possible answers (len, step, pools, kept) more =
      let (n, asked, g) = given_answer t s.pools (questions t s.kept (pool_size_to_contain_allocation fllen sllen size align)) r possible answers in
      (insert r (Some len), tt, given_fresh n r g, step)
  taken_handed_in fl_bits sl_bits size align valid (growth_came len) u possible answers (k, n, was, step, pools, is_kept) more =
      let g = has_grown fl_bits sl_bits size align len k valid was possible answers in
      (append (behind k len) n, tt, behind_next was (k.len + g.e) len g.kept g.is_grown g.room, step)

  -- it has a pool as long as wanted
  taken_has_pool : (fl_bits sl_bits size align e : ℕ) → IsValid fl_bits sl_bits fllen sllen → (outcome : Outcome) (u : FlexState)
      → IsPossible (questions t s.kept (pool_size_to_contain_allocation fllen sllen size align)) outcome
      → MayAnswerAll t s.pools (notes_of (questions t s.kept (pool_size_to_contain_allocation fllen sllen size align)) outcome) → TakesIn fllen t s outcome u
      → is_more outcome ≡ true
      → pool_size_to_contain_allocation fllen sllen size align ≡ Some e → HasFreePool e u.machine
  taken_has_pool fl_bits sl_bits size align e valid refused u possible answers takes more wanted = absurd (false≢true more)
  taken_has_pool fl_bits sl_bits size align e valid (range_came r) u possible answers (len, step, pools, kept) more wanted =
      let (n, asked, g) = given_answer t s.pools (questions t s.kept (pool_size_to_contain_allocation fllen sllen size align)) r possible answers in
      let (room, whole, short) = pool_size_is fl_bits sl_bits fllen sllen e valid (record { size = size; align = align; is = wanted }) in
      let told = range_asked t s.kept e n (ap (λ o. (questions t s.kept o).range) (sym wanted) ∙ asked) in
      let (m, is, taken, pool) = inserted_pool fllen sllen e s.machine u.machine r (Some len) w.machine.rows room whole short (HasAlignedPart-given t s.pools e n r told g) step in
      pool
  taken_has_pool fl_bits sl_bits size align e valid (growth_came len) u possible answers (k, n, was, step, pools, is_kept) more wanted =
      let g = has_grown fl_bits sl_bits size align len k valid was possible answers in
      let (room, whole, short) = pool_size_is fl_bits sl_bits fllen sllen e valid (record { size = size; align = align; is = wanted }) in
      let same : g.e ≡ e = same_Some g.e e (sym g.is_wanted ∙ wanted) in
      (appended_pool fllen sllen e memory s.machine u.machine (behind k len) n w.machine (behind_next was (k.len + g.e) len g.kept g.is_grown g.room) room whole short
      (omega (arith, g.is_grown.long, same)) step).1

pub growth_keeps_well_formed : GrowthKeepsWellFormed
growth_keeps_well_formed fl_bits sl_bits fllen sllen memory t s u size align outcome notes valid w answers step =
    taken_keeps w fl_bits sl_bits size align valid outcome u step.possible (subst (MayAnswerAll t s.pools) step.asked answers) step.after

pub growth_has_room : GrowthHasRoom
growth_has_room fl_bits sl_bits fllen sllen memory t s u size align outcome notes reply m valid w answers step more allocates none =
    let (e, wanted) = more_wanted t s.kept (pool_size_to_contain_allocation fllen sllen size align) outcome more step.possible in
    let pool = taken_has_pool w fl_bits sl_bits size align e valid outcome u step.possible (subst (MayAnswerAll t s.pools) step.asked answers) step.after more wanted in
    pool_has_a_choice fl_bits sl_bits fllen sllen size align e u.machine valid wanted pool (subst (λ o. Allocates sllen u.machine size align o m) none allocates).0
