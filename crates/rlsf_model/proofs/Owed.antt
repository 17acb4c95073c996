-- The ranges that are outstanding are those that the source's answers leave outstanding.
use Rattle.std.proofs.Common.{◌≡◌, ℕ, ◌+◌, true, false, Bool, cond, map, List, [], ◌∷◌, ◌++◌, Option, Some, None, true≢false, refl, sym, ◌∙◌, ap, ◌^◌}
use Rattle.std.proofs.Common.{subst, inl, inr}
use Rattle.std.proofs.lemmas.Option.{none-some, same_Some}
use Rattle.std.specs.Option.{is_some}
use Rattle.std.specs.Bool.{then_some}
use Rattle.std.specs.Prelude.{nat_lt}
use Rattle.rlsf_base.specs.declared.memory.range.Range.{Range}
use Rattle.rlsf_model_sizes.specs.Sizes.{pool_size_to_contain_allocation}
use Rattle.rlsf_model.specs.End.{notes_at_end, owed_at_end}
use Rattle.rlsf_model.specs.FlexAllocate.{FlexAllocates}
use Rattle.rlsf_model.specs.FlexReallocate.{FlexReallocates}
use Rattle.rlsf_model.specs.FlexRun.{FlexEvent, IsFlexRun, IsFlexStep, notes_in}
use Rattle.rlsf_model.specs.FlexState.{FlexState, KeptPool}
use Rattle.rlsf_model.specs.FlexWellFormed.{IsFlexWellFormed, IsNewest}
use Rattle.rlsf_model.specs.Growth.{Extends, Outcome, range_came, growth_came, longer, notes_of, questions, refused}
use Rattle.rlsf_model.specs.Laws.{EachGoesBack}
use Rattle.rlsf_model.specs.Note.{Note, dealloc}
use Rattle.rlsf_model.specs.Owed.{OwesAfterAll}
use Rattle.rlsf_model.specs.Run.{Event, allocate, deallocate, reallocate, fill, trim}
use Rattle.rlsf_model.specs.Terms.{Terms, with_len}
use Rattle.rlsf_model.specs.Trim.{Trims}
use Rattle.rlsf_model.proofs.FlexSteps.{flex_steps_keep_well_formed}
use Rattle.rlsf_model.proofs.Names.{fitting, growth_note, range_note}

OwesAfterAll-append : (xs ys zs : List Range) (ms ns : List Note) → OwesAfterAll xs ms ys → OwesAfterAll ys ns zs → OwesAfterAll xs (ms ++ ns) zs
OwesAfterAll-append xs ys zs [] ns first second = subst (λ l. OwesAfterAll l ns zs) first second
OwesAfterAll-append xs ys zs (m ∷ ms) ns (mid, now, rest) second = (mid, now, OwesAfterAll-append mid ys zs ms ns rest second)

-- ranges that are returned, the newest first, are outstanding no more
owed-gone : (gone left : List Range) → OwesAfterAll (gone ++ left) (map dealloc gone) left
owed-gone [] left = refl
owed-gone (r ∷ gone) left = (gone ++ left, ([], gone ++ left, refl, refl), owed-gone gone left)

owed-at_end : (t : Terms) (pools : List Range) → OwesAfterAll pools (notes_at_end t pools) (owed_at_end t pools)
owed-at_end t pools = go t.dealloc
  where
    all_gone : (ps : List Range) → OwesAfterAll ps (map dealloc ps) []
    all_gone [] = refl
    all_gone (p ∷ ps) = (ps, ([], ps, refl, refl), all_gone ps)

    go : (b : Bool) → OwesAfterAll pools (cond b (map dealloc pools) []) (cond b [] pools)
    go true = all_gone pools
    go false = refl

-- what was refused leaves them
owed-growth_refused : (growth : Option (Range × ℕ)) (owed now : List Range) (ns : List Note) → OwesAfterAll owed ns now
    → OwesAfterAll owed (growth_note growth None ++ ns) now
owed-growth_refused None owed now ns rest = rest
owed-growth_refused (Some (r, n)) owed now ns rest = (owed, refl, rest)

owed-range : (range : Option ℕ) (owed now : List Range) (r : Range) → is_some range ≡ true → now ≡ r ∷ owed → OwesAfterAll owed (range_note range (Some r)) now
owed-range None owed now r some is = absurd (true≢false (sym some))
owed-range (Some n) owed now r some is = (r ∷ owed, refl, is)

owed-range_refused : (range : Option ℕ) (owed : List Range) → OwesAfterAll owed (range_note range None) owed
owed-range_refused None owed = refl
owed-range_refused (Some n) owed = (owed, refl, refl)

-- a growth is asked of the kept range
growth_of_kept : (t : Terms) (k : KeptPool) (wanted : Option ℕ) (r : Range) (n : ℕ) → (questions t (Some k) wanted).growth ≡ Some (r, n) → r ≡ k.range
growth_of_kept t k None r n is = absurd (none-some (r, n) is)
growth_of_kept t k (Some e) r n is = by_length (nat_lt (k.len + e) (2 ^ 64)) is
  where
    by_terms : (b : Bool) → then_some {T = Range × ℕ} b (k.range, k.len + e) ≡ Some (r, n) → r ≡ k.range
    by_terms true same = sym (ap (λ (x : Range × ℕ). x.0) (same_Some (k.range, k.len + e) (r, n) same))
    by_terms false same = absurd (none-some (r, n) same)

    by_length : (b : Bool) → (fitting t k e b).growth ≡ Some (r, n) → r ≡ k.range
    by_length false same = absurd (none-some (r, n) same)
    by_length true same = by_terms t.grow same

owed-growth : (k : KeptPool) (growth : Option (Range × ℕ)) (rest now : List Range) (len : ℕ) → is_some growth ≡ true
    → ((r : Range) (n : ℕ) → growth ≡ Some (r, n) → r ≡ k.range) → now ≡ with_len k.range len ∷ rest
    → OwesAfterAll (k.range ∷ rest) (growth_note growth (Some len)) now
owed-growth k None rest now len some of_kept is = absurd (true≢false (sym some))
owed-growth k (Some (r, n)) rest now len some of_kept is =
    let same = of_kept r n refl in
    (with_len k.range len ∷ rest, ([], rest, ap (λ q. q ∷ rest) (sym same), ap (λ q. with_len q len ∷ rest) (sym same)), is)

module _ {fllen sllen : ℕ} {memory : Range} {t : Terms} {s : FlexState} (w : IsFlexWellFormed fllen sllen memory t s) where
  -- memory that comes
  owed-extended : (wanted : Option ℕ) (outcome : Outcome) (notes : List Note) (u : FlexState) → Extends fllen t s wanted outcome notes u → OwesAfterAll s.pools notes u.pools
  owed-extended wanted refused notes u step =
      let q = questions t s.kept wanted in
      subst (λ ns. OwesAfterAll s.pools ns u.pools) (sym step.asked)
      (subst (OwesAfterAll s.pools (notes_of q refused)) (sym (ap (λ (x : FlexState). x.pools) step.after))
      (owed-growth_refused q.growth s.pools s.pools (range_note q.range None) (owed-range_refused q.range s.pools)))
  owed-extended wanted (range_came r) notes u step =
      let q = questions t s.kept wanted in
      let (len, inserted, pools, kept) = step.after in
      subst (λ ns. OwesAfterAll s.pools ns u.pools) (sym step.asked)
      (owed-growth_refused q.growth s.pools u.pools (range_note q.range (Some r)) (owed-range q.range s.pools u.pools r step.possible pools))
  owed-extended wanted (growth_came len) notes u step =
      let q = questions t s.kept wanted in
      let (k, taken, was, appended, pools, kept) = step.after in
      let newest = subst (λ o. IsNewest t o s.pools s.machine.chunks) was w.newest in
      let of_kept : (r : Range) (n : ℕ) → q.growth ≡ Some (r, n) → r ≡ k.range =
      λ r n is. growth_of_kept t k wanted r n (ap (λ o. (questions t o wanted).growth) (sym was) ∙ is) in
      subst (λ ns. OwesAfterAll s.pools ns u.pools) (sym step.asked)
      (subst (λ ps. OwesAfterAll ps (growth_note q.growth (Some len)) u.pools) (sym newest.split)
      (owed-growth k q.growth newest.rest u.pools len step.possible of_kept (pools ∙ ap (longer len) newest.split)))

  -- nothing was asked
  owed-same : (notes : List Note) (u : FlexState) → notes ≡ [] → u.pools ≡ s.pools → OwesAfterAll s.pools notes u.pools
  owed-same notes u none same = subst (λ ns. OwesAfterAll s.pools ns u.pools) (sym none) same

  owed-allocated : (size align : ℕ) (reply : Option ℕ) (notes : List Note) (u : FlexState) → FlexAllocates fllen sllen t s size align reply notes u
      → OwesAfterAll s.pools notes u.pools
  owed-allocated size align None notes u asks = owed-extended (pool_size_to_contain_allocation fllen sllen size align) refused notes u asks.extends
  owed-allocated size align (Some addr) notes u (inl room) = owed-same notes u room.none (ap (λ (x : FlexState). x.pools) room.after)
  owed-allocated size align (Some addr) notes u (inr more) =
      subst (OwesAfterAll s.pools notes) (sym (ap (λ (x : FlexState). x.pools) more.after))
      (owed-extended (pool_size_to_contain_allocation fllen sllen size align) more.outcome notes more.meanwhile more.asks.extends)

  owed-reallocated : (addr size : ℕ) (reply : Option ℕ) (notes : List Note) (u : FlexState) → FlexReallocates fllen sllen t s addr size reply notes u
      → OwesAfterAll s.pools notes u.pools
  owed-reallocated addr size None notes u refuses = owed-extended (pool_size_to_contain_allocation fllen sllen size refuses.block.align) refused notes u refuses.asks.extends
  owed-reallocated addr size (Some to) notes u (inl room) = owed-same notes u room.none (ap (λ (x : FlexState). x.pools) room.after)
  owed-reallocated addr size (Some to) notes u (inr more) =
      subst (OwesAfterAll s.pools notes) (sym (ap (λ (x : FlexState). x.pools) more.after))
      (owed-extended (pool_size_to_contain_allocation fllen sllen size more.block.align) more.outcome notes more.meanwhile more.asks.extends)

  owed-trimmed : (count : ℕ) (notes : List Note) (u : FlexState) → Trims t s count notes u → OwesAfterAll s.pools notes u.pools
  owed-trimmed count notes u (inr (_, _, none, same)) = owed-same notes u none (ap (λ (x : FlexState). x.pools) same)
  owed-trimmed count notes u (inl (takes, g)) =
      subst (λ ps. OwesAfterAll ps notes u.pools) (sym g.split)
      (subst (λ ns. OwesAfterAll (g.gone ++ g.left) ns u.pools) (sym g.noted)
      (subst (OwesAfterAll (g.gone ++ g.left) (map dealloc g.gone)) (sym g.pools) (owed-gone g.gone g.left)))

  owed-stepped : (e : Event) (notes : List Note) (u : FlexState) → IsFlexStep fllen sllen memory t s e notes u → OwesAfterAll s.pools notes u.pools
  owed-stepped (allocate size align reply) notes u step = owed-allocated size align reply notes u step.leads
  owed-stepped (deallocate addr) notes u step = let d = step.leads in owed-same notes u d.none (ap (λ (x : FlexState). x.pools) d.after)
  owed-stepped (reallocate addr size reply) notes u step = owed-reallocated addr size reply notes u step.leads
  owed-stepped (fill addr bytes) notes u step = let d = step.leads in owed-same notes u d.none (ap (λ (x : FlexState). x.pools) d.after)
  owed-stepped (trim count) notes u step = owed-trimmed count notes u step.leads
  owed-stepped e notes u step = absurd step.leads

pub each_goes_back : EachGoesBack
each_goes_back fl_bits sl_bits fllen sllen memory t s u cs valid w run =
    let is = go s cs w run in
    (is, OwesAfterAll-append s.pools u.pools (owed_at_end t u.pools) (notes_in cs) (notes_at_end t u.pools) is (owed-at_end t u.pools))
  where
    go : (x : FlexState) (ds : List FlexEvent) → IsFlexWellFormed fllen sllen memory t x → IsFlexRun fllen sllen memory t x ds u → OwesAfterAll x.pools (notes_in ds) u.pools
    go x [] w run = ap (λ (y : FlexState). y.pools) run
    go x (d ∷ ds) w (m, step, rest) =
        let whole = flex_steps_keep_well_formed fl_bits sl_bits fllen sllen memory t x m d.event d.notes valid w step in
        OwesAfterAll-append x.pools m.pools u.pools d.notes (notes_in ds) (owed-stepped w d.event d.notes m step) (go m ds whole rest)
