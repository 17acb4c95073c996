-- Each call over a source that its caller may make has a reply and a state after.
use Rattle.std.proofs.Common.{◌≡◌, ◌≢◌, ℕ, ◌+◌, true, true≢false, map, List, [], ◌∷◌, Option, Some, None, refl, sym, ◌∙◌, ap, subst, inl, inr, ◌||◌}
use Rattle.std.specs.Bool.{then_some}
use Rattle.rlsf_base.specs.declared.memory.range.Range.{Range}
use Rattle.rlsf_model_sizes.specs.PowerOfTwo.{IsPowerOfTwo}
use Rattle.rlsf_model_sizes.specs.SizeClass.{IsValid}
use Rattle.rlsf_model_sizes.specs.Sizes.{max_pool_size, pool_size_to_contain_allocation}
use Rattle.rlsf_model.specs.Allocate.{Allocates}
use Rattle.rlsf_model.specs.Answers.{MayAnswer, MayAnswerAll}
use Rattle.rlsf_model.specs.FlexAllocate.{Asks}
use Rattle.rlsf_model.specs.FlexRun.{IsFlexStep}
use Rattle.rlsf_model.specs.FlexState.{FlexState, KeptPool, with_machine}
use Rattle.rlsf_model.specs.FlexWellFormed.{IsFlexWellFormed}
use Rattle.rlsf_model.specs.Growth.{IsPossible, Outcome, Questions, TakesIn, range_came, growth_came, is_more, longer, notes_of, questions, refused}
use Rattle.rlsf_model.specs.Insert.{Inserts, aligned_part, appended, appended_bytes, bytes_taken, cut, with_chunks}
use Rattle.rlsf_model.specs.Lists.{IsIn}
use Rattle.rlsf_model.specs.Laws.{FlexEachCallAnswers, IsAnswered, MayRespond}
use Rattle.rlsf_model.specs.Note.{Note, dealloc}
use Rattle.rlsf_model.specs.Reallocate.{Plan, ReallocatesBy, plan}
use Rattle.rlsf_model.specs.Release.{released}
use Rattle.rlsf_model.specs.Run.{Event, insert, append, allocate, deallocate, reallocate, fill, remove, trim, IsSameCall}
use Rattle.rlsf_model.specs.State.{State, Used, Holds, filled}
use Rattle.rlsf_model.specs.Terms.{Terms, with_len}
use Rattle.rlsf_model.proofs.Coverage.{IsIn-map_from}
use Rattle.rlsf_model.proofs.Examples.{planned_after, planned_reply, planned_step}
use Rattle.rlsf_model.proofs.FlexGrowths.{growth_has_room}
use Rattle.rlsf_model.proofs.FlexSteps.{asked_keeps}
use Rattle.rlsf_model.proofs.GivenAnswers.{given_answer, more_wanted}
use Rattle.rlsf_model.proofs.Growths.{used-taken}
use Rattle.rlsf_model.proofs.Live.{new_address}
use Rattle.rlsf_model.proofs.RangeLengths.{HasAlignedPart-given, range_asked}
use Rattle.rlsf_model.proofs.Room.{allocation_answers}
use Rattle.rlsf_model.proofs.Trims.{trim_answers}
use Rattle.rlsf_model.proofs.TakenPools.{inserted_pool, pool_size_is}
use Rattle.rlsf_model.proofs.Names.{behind}

module _ {fl_bits sl_bits fllen sllen : ℕ} {memory : Range} {t : Terms} {s : FlexState} (valid : IsValid fl_bits sl_bits fllen sllen)
    (w : IsFlexWellFormed fllen sllen memory t s) where
  -- ---- what came is taken in

  given_taken : (size align : ℕ) (r : Range) → IsPossible (questions t s.kept (pool_size_to_contain_allocation fllen sllen size align)) (range_came r)
      → MayAnswerAll t s.pools (notes_of (questions t s.kept (pool_size_to_contain_allocation fllen sllen size align)) (range_came r))
      → (u : FlexState) × TakesIn fllen t s (range_came r) u
  given_taken size align r possible answers =
      let (e, wanted) = more_wanted t s.kept (pool_size_to_contain_allocation fllen sllen size align) (range_came r) refl possible in
      let (n, asked, g) = given_answer t s.pools (questions t s.kept (pool_size_to_contain_allocation fllen sllen size align)) r possible answers in
      let (room, whole, short) = pool_size_is fl_bits sl_bits fllen sllen e valid (record { size = size; align = align; is = wanted }) in
      let told = range_asked t s.kept e n (ap (λ o. (questions t s.kept o).range) (sym wanted) ∙ asked) in
      let cs = cut (max_pool_size fllen) (aligned_part r) in
      let m = with_chunks cs s.machine in
      let step : Inserts fllen s.machine r (bytes_taken r.start cs) m = record { answer = refl; after = refl } in
      let (len, is, taken, pool) =
      inserted_pool fllen sllen e s.machine m r (bytes_taken r.start cs) w.machine.rows room whole short (HasAlignedPart-given t s.pools e n r told g) step in (
        record { machine = m; pools = r ∷ s.pools; kept = then_some (t.dealloc || t.grow) (record { range = r; len = len }) },
        (len, subst (λ o. Inserts fllen s.machine r o m) is step, refl, refl),
      )

  grown_taken : (size align len : ℕ) (kept : Option KeptPool) → s.kept ≡ kept
      → IsPossible (questions t kept (pool_size_to_contain_allocation fllen sllen size align)) (growth_came len) → (u : FlexState) × TakesIn fllen t s (growth_came len) u
  grown_taken size align len None is possible =
      let (e, wanted) = more_wanted t None (pool_size_to_contain_allocation fllen sllen size align) (growth_came len) refl possible in
      absurd (true≢false (sym (subst (λ o. IsPossible (questions t None o) (growth_came len)) wanted possible)))
  grown_taken size align len (Some k) is possible =
      let most = max_pool_size fllen in
      let r = behind k len in
      let n = appended_bytes most r in (
        record { machine = appended most r s.machine; pools = longer len s.pools; kept = Some (record { range = with_len k.range len; len = k.len + n }) },
        (k, n, is, record { answer = refl; after = refl }, refl, refl),
      )

  taken_exists : (size align : ℕ) (o : Outcome) → IsPossible (questions t s.kept (pool_size_to_contain_allocation fllen sllen size align)) o
      → MayAnswerAll t s.pools (notes_of (questions t s.kept (pool_size_to_contain_allocation fllen sllen size align)) o) → (u : FlexState) × TakesIn fllen t s o u
  taken_exists size align refused possible answers = (s, refl)
  taken_exists size align (range_came r) possible answers = given_taken size align r possible answers
  taken_exists size align (growth_came len) possible answers = grown_taken size align len s.kept refl possible

  -- ---- what is asked

  -- a source that is asked where there is no room
  pub asked_exists : (size align : ℕ) (respond : Questions → Outcome) → MayRespond t s.pools respond → Allocates sllen s.machine size align None s.machine
      → (q : Questions) × (m : FlexState) × Asks fllen sllen t s size align (respond q) (notes_of q (respond q)) m × MayAnswerAll t s.pools (notes_of q (respond q))
  asked_exists size align respond may full =
      let q = questions t s.kept (pool_size_to_contain_allocation fllen sllen size align) in
      let (possible, answers) = may q in
      let (m, takes) = taken_exists size align (respond q) possible answers in
      (q, m, record { full = full; extends = record { possible = possible; asked = refl; after = takes } }, answers)

  module _ (notes : List Note) (answers : MayAnswerAll t s.pools notes) where
    -- a call like this one has a reply
    abbrev pub Replies : Event → Type 0
    Replies e = (e' : Event) × (u : FlexState) × IsSameCall e e' × IsFlexStep fllen sllen memory t s e' notes u

    -- ---- an allocation

    allocated_more : (size align : ℕ) (reply : Option ℕ) (o : Outcome) (m : FlexState) → IsPowerOfTwo align → is_more o ≡ true
        → Asks fllen sllen t s size align o notes m → Replies (allocate size align reply)
    allocated_more size align reply o m power more asks = go (allocation_answers sllen m.machine size align)
      where
        go : (r : Option ℕ) × (x : State) × Allocates sllen m.machine size align r x → Replies (allocate size align reply)
        go (None, x, step) = absurd (growth_has_room fl_bits sl_bits fllen sllen memory t s m size align o notes None x valid w answers asks.extends more step refl)
        go (Some addr, x, step) = (
          allocate size align (Some addr),
          with_machine m x,
          (refl, refl),
          record { may = power; answers = answers; leads = inr (record { outcome = o; meanwhile = m; asks = asks; more = more; machine = x; allocates = step; after = refl }) },
        )

    pub allocated_asked : (size align : ℕ) (reply : Option ℕ) (o : Outcome) (m : FlexState) → IsPowerOfTwo align → Asks fllen sllen t s size align o notes m
        → Replies (allocate size align reply)
    allocated_asked size align reply refused m power asks = (allocate size align None, m, (refl, refl), record { may = power; answers = answers; leads = asks })
    allocated_asked size align reply (range_came r) m power asks = allocated_more size align reply (range_came r) m power refl asks
    allocated_asked size align reply (growth_came len) m power asks = allocated_more size align reply (growth_came len) m power refl asks

    -- ---- a reallocation

    module _ (addr size : ℕ) (reply : Option ℕ) (v : Used) (holds : Holds s.machine addr v) (none : plan s.machine v size ≡ None) where
      moved_more : (o : Outcome) (m : FlexState) → is_more o ≡ true → Asks fllen sllen t s size v.align o notes m → Replies (reallocate addr size reply)
      moved_more o m more asks =
          go (planned_reply sllen m.machine v size None) (planned_after sllen m.machine v size None) (planned_step fllen sllen memory m.machine v is_used size None)
        where
          is_used : IsIn v m.machine.used
          is_used = subst (IsIn v) (sym (used-taken fllen t s m o asks.extends.after)) holds.0

          go : (r : Option ℕ) (x : State) → ReallocatesBy sllen m.machine v size None r x → Replies (reallocate addr size reply)
          go None x step = absurd (growth_has_room fl_bits sl_bits fllen sllen memory t s m size v.align o notes None x valid w answers asks.extends more step refl)
          go (Some to) x step =
              let whole = asked_keeps valid w m notes answers size v.align o m asks in
              let power = (w.machine.used v holds.0).power in
              let elsewhere : to ≢ addr = λ same. new_address whole.machine size v.align to step.meanwhile power step.allocated v is_used (holds.1 ∙ sym same) in (
                reallocate addr size (Some to),
                with_machine m x,
                (refl, refl),
                record {
                  may = (v, holds);
                  answers = answers;
                  leads =
                      inr (record {
                        block = v;
                        holds = holds;
                        no_plan = none;
                        outcome = o;
                        meanwhile = m;
                        asks = asks;
                        more = more;
                        machine = x;
                        moves = step;
                        elsewhere = elsewhere;
                        after = refl;
                      });
                },
              )

      pub moved_asked : (o : Outcome) (m : FlexState) → Asks fllen sllen t s size v.align o notes m → Replies (reallocate addr size reply)
      moved_asked refused m asks = (
        reallocate addr size None,
        m,
        (refl, refl),
        record { may = (v, holds); answers = answers; leads = record { block = v; holds = holds; no_plan = none; asks = asks } },
      )
      moved_asked (range_came r) m asks = moved_more (range_came r) m refl asks
      moved_asked (growth_came len) m asks = moved_more (growth_came len) m refl asks

-- a call has a reply, with notes that the source answered
abbrev Answers : ℕ → ℕ → Range → Terms → FlexState → (Questions → Outcome) → Event → Type 0
Answers fllen sllen memory t s respond e =
    (e' : Event) × (notes : List Note) × (u : FlexState) × IsSameCall e e' × IsAnswered respond notes × IsFlexStep fllen sllen memory t s e' notes u

module _ {fl_bits sl_bits fllen sllen : ℕ} {memory : Range} {t : Terms} {s : FlexState} (respond : Questions → Outcome) (valid : IsValid fl_bits sl_bits fllen sllen)
    (w : IsFlexWellFormed fllen sllen memory t s)
    (may : MayRespond t s.pools respond) where
  allocate_answers : (size align : ℕ) (reply : Option ℕ) → IsPowerOfTwo align → Answers fllen sllen memory t s respond (allocate size align reply)
  allocate_answers size align reply power = go (allocation_answers sllen s.machine size align)
    where
      go : (r : Option ℕ) × (x : State) × Allocates sllen s.machine size align r x → Answers fllen sllen memory t s respond (allocate size align reply)
      go (Some addr, x, step) = (
        allocate size align (Some addr),
        [],
        with_machine s x,
        (refl, refl),
        inl refl,
        record { may = power; answers = λ n i. absurd i; leads = inl (record { machine = x; allocates = step; none = refl; after = refl }) },
      )
      go (None, x, step) =
          let (q, m, asks, answers) = asked_exists valid w size align respond may (step.0, refl) in
          let (e', u, same, is) = allocated_asked valid w (notes_of q (respond q)) answers size align reply (respond q) m power asks in
          (e', notes_of q (respond q), u, same, inr (inl (q, refl)), is)

  reallocate_answers : (addr size : ℕ) (reply : Option ℕ) (v : Used) → Holds s.machine addr v → Answers fllen sllen memory t s respond (reallocate addr size reply)
  reallocate_answers addr size reply v holds =
      go (plan s.machine v size) refl (planned_reply sllen s.machine v size (plan s.machine v size)) (planned_after sllen s.machine v size (plan s.machine v size))
      (planned_step fllen sllen memory s.machine v holds.0 size (plan s.machine v size))
    where
      go : (o : Option Plan) → plan s.machine v size ≡ o → (r : Option ℕ) (x : State) → ReallocatesBy sllen s.machine v size o r x
          → Answers fllen sllen memory t s respond (reallocate addr size reply)
      go o is (Some to) x step = (
        reallocate addr size (Some to),
        [],
        with_machine s x,
        (refl, refl),
        inl refl,
        record {
          may = (v, holds);
          answers = λ n i. absurd i;
          leads =
              inl (record {
                machine = x;
                reallocates = record { block = v; holds = holds; step = subst (λ p. ReallocatesBy sllen s.machine v size p (Some to) x) (sym is) step };
                none = refl;
                after = refl;
              });
        },
      )
      go (Some p) is None x step = absurd step
      go None is None x step =
          let (q, m, asks, answers) = asked_exists valid w size v.align respond may (step.0, refl) in
          let (e', u, same, does) = moved_asked valid w (notes_of q (respond q)) answers addr size reply v holds is (respond q) m asks in
          (e', notes_of q (respond q), u, same, inr (inl (q, refl)), does)

-- a source may answer what returns ranges
answers_back : (t : Terms) (owed : List Range) (gone : List Range) (m : Note) → IsIn m (map dealloc gone) → MayAnswer t owed m
answers_back t owed gone m i = let (r, j, is) = IsIn-map_from dealloc m gone i in subst (MayAnswer t owed) (sym is) tt

pub flex_each_call_answers : FlexEachCallAnswers
flex_each_call_answers fl_bits sl_bits fllen sllen memory t s (insert r reply) respond valid w may whole calls lasts responds = absurd (calls tt)
flex_each_call_answers fl_bits sl_bits fllen sllen memory t s (append r reply) respond valid w may whole calls lasts responds = absurd (calls tt)
flex_each_call_answers fl_bits sl_bits fllen sllen memory t s (remove r) respond valid w may whole calls lasts responds = absurd (lasts tt)
flex_each_call_answers fl_bits sl_bits fllen sllen memory t s (trim count) respond valid w may whole calls lasts responds =
    let (n, gone, u, step) = trim_answers w in
    (trim n, map dealloc gone, u, tt, inr (inr (gone, refl)), record { may = tt; answers = λ m i. answers_back t s.pools gone m i; leads = step })
flex_each_call_answers fl_bits sl_bits fllen sllen memory t s (allocate size align reply) respond valid w may whole calls lasts responds =
    allocate_answers respond valid w responds size align reply may
flex_each_call_answers fl_bits sl_bits fllen sllen memory t s (deallocate addr) respond valid w (v, holds) whole calls lasts responds =
    let m = released s.machine v in (
      deallocate addr,
      [],
      with_machine s m,
      refl,
      inl refl,
      record { may = (v, holds); answers = λ n i. absurd i; leads = record { machine = m; leads = record { block = v; holds = holds; after = refl }; none = refl; after = refl } },
    )
flex_each_call_answers fl_bits sl_bits fllen sllen memory t s (reallocate addr size reply) respond valid w (v, holds) whole calls lasts responds =
    reallocate_answers respond valid w responds addr size reply v holds
flex_each_call_answers fl_bits sl_bits fllen sllen memory t s (fill addr bytes) respond valid w may (v, holds, length) calls lasts responds =
    let m = filled s.machine addr bytes in (
      fill addr bytes,
      [],
      with_machine s m,
      (refl, refl),
      inl refl,
      record {
        may = may;
        answers = λ n i. absurd i;
        leads = record { machine = m; leads = record { block = v; holds = holds; length = length; after = refl }; none = refl; after = refl };
      },
    )
