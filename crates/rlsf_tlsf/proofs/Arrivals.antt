-- A call arrives at the state that its step leads to: the bytes of payloads are read from the memory.
use Rattle.std.proofs.Common.{◌≡◌, ℕ, ◌≤◌, eqb, cond, length, map, List, [], ◌∷◌, Some, IsSome, refl, sym, ◌∙◌, ap, subst, inl, inr}
use Rattle.rlsf_model_sizes.specs.SizeClass.{IsValid}
use Rattle.rlsf_base.specs.Space.{Space, range_of}
use Rattle.rlsf_model.specs.Lists.{IsIn}
use Rattle.rlsf_model.specs.Callers.{align_at, bytes_at}
use Rattle.rlsf_model.specs.Run.{Fills, IsSomeLive}
use Rattle.rlsf_model.specs.State.{State, Used, usable, Holds, IsLive}
use Rattle.rlsf_model.proofs.CallerWords.{align_at-live, align_at-some, bytes_at-held}
use Rattle.rlsf_model.specs.WellFormed.{IsWellFormed}
use Rattle.rlsf_model.proofs.Coverage.{by_test}
use Rattle.rlsf_model.proofs.Names.{used_with_bytes, filled_at}
use Rattle.rlsf_table.specs.Table.{Table}
use Rattle.rlsf_blocks.specs.Laws.{read_from, with_bytes_of}
use Rattle.rlsf_blocks.specs.Spare.{KeepsSpare}
use Rattle.rlsf_blocks.specs.StandsFor.{contents, StandsFor}
use Rattle.rlsf_blocks.specs.Steps.LiveBlock.{IsLiveIn}
use Rattle.rlsf_tlsf.specs.Allocator.{Allocator, allocator, IsAllocator, IsRepresented, IsStanding, Stands, Steps}
use Rattle.rlsf_tlsf.specs.Steps.Moves.{bare, bare_used}
use Rattle.rlsf_tlsf.proofs.Moved.{bare-bare, map-map}
use Rattle.rlsf_tlsf.proofs.Standing.{represented}

-- a represented state has the bytes that the memory has
pub read_from-stands : {fllen sllen : ℕ} {m : Space} {x : Table} {s : State} → StandsFor fllen sllen (contents m x) s → read_from m s ≡ s
read_from-stands {m = m} {s = s} v = ap (λ (used : List Used). record { chunks = s.chunks; used = used; free = s.free }) (go s.used (λ u i. v.payloads.bytes u i))
  where
    go : (used : List Used) → ((u : Used) → IsIn u used → (with_bytes_of m u).bytes ≡ u.bytes) → map (with_bytes_of m) used ≡ used
    go [] each = refl
    go (u ∷ us) each = λ i. record { block = u.block; payload = u.payload; align = u.align; bytes = each u (inl refl) i } ∷ go us (λ x h. each x (inr h)) i

pub read_from-bare : (m : Space) (s : State) → read_from m (bare s) ≡ read_from m s
read_from-bare m s = ap (λ (used : List Used). record { chunks = s.chunks; used = used; free = s.free }) (map-map (with_bytes_of m) bare_used s.used)

pub bare-read_from : (m : Space) (s : State) → bare (read_from m s) ≡ bare s
bare-read_from m s = ap (λ (used : List Used). record { chunks = s.chunks; used = used; free = s.free }) (map-map bare_used (with_bytes_of m) s.used)

-- what is kept of an allocator's state is the state without bytes
pub bare-kept : {fl_bits sl_bits fllen sllen : ℕ} {m : Space} {x : Table} {s : State} → IsAllocator fl_bits sl_bits fllen sllen m x s → bare (read_from m s) ≡ s
bare-kept {m = m} {s = s} is = bare-read_from m s ∙ is.is_bare

module _ {fllen sllen : ℕ} {n : Space} {x : Table} {t : State} (v : StandsFor fllen sllen (contents n x) t) (reached : State) (e : reached ≡ bare t) where
  -- the state that is read is the represented one
  pub arrived : read_from n reached ≡ t
  arrived = ap (read_from n) e ∙ read_from-bare n t ∙ read_from-stands v

  stands : StandsFor fllen sllen (contents n x) (read_from n reached)
  stands = subst (StandsFor fllen sllen (contents n x)) (sym arrived) v

  module _ (whole : n.out ≡ []) where
    pub IsAllocator-arrived : {fl_bits sl_bits : ℕ} → IsValid fl_bits sl_bits fllen sllen → IsAllocator fl_bits sl_bits fllen sllen n x reached
    IsAllocator-arrived valid = record { valid = valid; stands = stands; whole = whole; is_bare = ap bare e ∙ bare-bare t ∙ sym e }

    pub Stands-arrived : Stands fllen sllen (allocator n x reached)
    unfolding Stands
    Stands-arrived = represented stands whole

    -- a step to it is the step that the call says
    pub Steps-arrived : (old : Allocator) (m : Space) (y : Table) (s : State) → allocator m y s ≡ old → (step : State → State → Type 0) → step (read_from m s) t
        → KeepsSpare m (read_from m s) n t
        → Steps fllen sllen old (allocator n x reached) (step old.state)
    unfolding Steps
    Steps-arrived old m y s view step is spare =
        subst (λ (o : Allocator). step o.state (read_from n reached) × Stands fllen sllen (allocator n x reached) × KeepsSpare o.memory o.state n (read_from n reached)) view
        (subst (step (read_from m s)) (sym arrived) is, Stands-arrived, subst (KeepsSpare m (read_from m s) n) (sym arrived) spare)

-- an allocator's state is well-formed
pub well_formed : {fllen sllen : ℕ} (v : Allocator) → Stands fllen sllen v → IsWellFormed fllen sllen (range_of v.memory) v.state
unfolding Stands
well_formed v is = is.well_formed

pub Stands-view : {fllen sllen : ℕ} (m : Space) (x : Table) (s : State) (v : Allocator) → allocator m x s ≡ v → StandsFor fllen sllen (contents m x) (read_from m s)
    → m.out ≡ [] → Stands fllen sllen v
unfolding Stands
Stands-view {fllen} {sllen} m x s v view is whole = subst (λ (o : Allocator). IsStanding fllen sllen o.memory o.state) view (represented is whole)

-- and its fields represent it
pub IsRepresented-view : {fllen sllen : ℕ} (m : Space) (x : Table) (s : State) (v : Allocator) → allocator m x s ≡ v
    → StandsFor fllen sllen (contents m x) (read_from m s) → IsRepresented fllen sllen v
unfolding IsRepresented
IsRepresented-view {fllen} {sllen} m x s v view is = subst (λ (o : Allocator). StandsFor fllen sllen (contents o.memory o.table) o.state) view is

-- what a step says
pub opened : (fllen sllen : ℕ) (before after : Allocator) (step : State → Type 0) → Steps fllen sllen before after step
    → step after.state × Stands fllen sllen after × KeepsSpare before.memory before.state after.memory after.state
unfolding Steps
opened fllen sllen before after step is = is

-- ---- payloads of an allocator's fields

module _ {fl_bits sl_bits fllen sllen : ℕ} {m : Space} {x : Table} {s : State} (is : IsAllocator fl_bits sl_bits fllen sllen m x s) (v : Allocator)
    (view : allocator m x s ≡ v) where
  -- the state is well-formed
  pub view_well_formed : IsWellFormed fllen sllen (range_of v.memory) v.state
  view_well_formed = well_formed v (Stands-view m x s v view is.stands is.whole)

  -- a payload with an alignment is one of the fields' state
  pub live_inside : (addr align : ℕ) → align_at v.state addr ≡ Some align → IsLive (read_from m s) addr align
  live_inside addr align live = align_at-live (read_from m s) addr align (ap (λ (o : Allocator). align_at o.state addr) view ∙ live)

  -- and so is one with any alignment
  pub some_inside : (addr : ℕ) → IsSome (align_at v.state addr) → IsSomeLive (read_from m s) addr
  some_inside addr live = align_at-some (read_from m s) addr (subst (λ (o : Allocator). IsSome (align_at o.state addr)) (sym view) live)

  -- so it is live where its block is sought by the words before it
  pub IsLiveIn-inside : (addr : ℕ) {payload : ℕ} → payload ≡ addr → IsSome (align_at v.state addr) → IsLiveIn m payload
  IsLiveIn-inside addr same live =
      let (u, holds) = some_inside addr live in (fllen, sllen, contents m x, read_from m s, refl, is.stands, (u, (holds.0, holds.1 ∙ sym same)))

  -- its bytes are those that the used block has
  pub bytes_inside : (addr : ℕ) (u : Used) → Holds (read_from m s) addr u → bytes_at v.state addr ≡ u.bytes
  bytes_inside addr u held = ap (λ (o : Allocator). bytes_at o.state addr) (sym view) ∙ bytes_at-held is.stands.well_formed addr u held

-- ---- bytes that change in payloads

-- bytes are read from the last memory alone
pub read_from-read_from : (n m : Space) (s : State) → read_from n (read_from m s) ≡ read_from n s
read_from-read_from n m s = sym (read_from-bare n (read_from m s)) ∙ ap (read_from n) (bare-read_from m s) ∙ read_from-bare n s

-- what is kept of a state is kept of the same state with other bytes
pub bare-reread : {fl_bits sl_bits fllen sllen : ℕ} {m : Space} {x : Table} {s : State} (n : Space) → IsAllocator fl_bits sl_bits fllen sllen m x s
    → s ≡ bare (read_from n (read_from m s))
bare-reread {m = m} {s = s} n is = sym (bare-kept is) ∙ sym (bare-read_from n (read_from m s))

-- a fill changes bytes alone
pub bare-filled : (s t : State) (addr : ℕ) (bytes : List ℕ) → Fills s addr bytes t → bare t ≡ bare s
bare-filled s t addr bytes step = ap bare step.after ∙ ap (λ (used : List Used). record { chunks = s.chunks; used = used; free = s.free }) (go s.used)
  where
    go : (used : List Used) → map bare_used (filled_at addr bytes used) ≡ map bare_used used
    go [] = refl
    go (u ∷ us) = by_test (eqb u.payload addr)
        (λ e. ap (λ b. bare_used (cond b (used_with_bytes u bytes) u) ∷ map bare_used (filled_at addr bytes us)) e ∙ ap (λ l. bare_used u ∷ l) (go us))
        (λ e. ap (λ b. bare_used (cond b (used_with_bytes u bytes) u) ∷ map bare_used (filled_at addr bytes us)) e ∙ ap (λ l. bare_used u ∷ l) (go us))

module _ {fl_bits sl_bits fllen sllen : ℕ} {m : Space} {x : Table} {s : State} (is : IsAllocator fl_bits sl_bits fllen sllen m x s) (v : Allocator)
    (view : allocator m x s ≡ v) where
  -- so many bytes of a payload are bytes of its block
  pub long_inside : (addr len : ℕ) (u : Used) → Holds (read_from m s) addr u → len ≤ length (bytes_at v.state addr) → len ≤ (usable u).len
  long_inside addr len u held long =
      subst (λ n. len ≤ n) (ap length (bytes_inside is v view addr u held) ∙ (is.stands.well_formed.used u held.0).bytes) long
