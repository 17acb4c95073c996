-- What an op changes: the payload that it is on, and no other.
use Rattle.std.proofs.Common.{◌≡◌, ℕ, ◌+◌, cond, length, List, [], ◌∷◌, Option, Some, None, arith, refl, sym, ◌∙◌, ap, subst, inl, inr, replicate}
use Rattle.std.proofs.Common.{slice_set}
use Rattle.std.specs.Prelude.{◌⊎◌, sum_by}
use Rattle.std.proofs.lemmas.Bool.{eq-eqb}
use Rattle.std.proofs.lemmas.List.Sums.{sum_by-cons}
use Rattle.std.specs.Int.NonZero.{non_zero_usize_get}
use Rattle.rlsf_base.specs.Addr.{reply}
use Rattle.rlsf_base.specs.declared.memory.range.Range.{Range}
use Rattle.rlsf_model.specs.Allocate.{Allocates}
use Rattle.rlsf_model.specs.Lists.{IsIn}
use Rattle.rlsf_model.specs.Reallocate.{Reallocates}
use Rattle.rlsf_model.specs.Run.{Fills}
use Rattle.rlsf_model.specs.State.{State, Used, Holds, usable}
use Rattle.rlsf_model.specs.WellFormed.{IsWellFormed}
use Rattle.rlsf_model.proofs.Changes.{Holds-unique}
use Rattle.rlsf_model.proofs.Chunks.{used-inserted, used-appended}
use Rattle.rlsf_model.proofs.Fillings.{filled_holds}
use Rattle.rlsf_model.proofs.NoMove.{unmoved_is_reallocated}
use Rattle.rlsf_model.proofs.Names.{used_with_bytes}
use Rattle.rlsf_trace_text.specs.declared.op.Answer.{Answer}
use Rattle.rlsf_trace_text.specs.declared.op.Answer.TheVariants.{Inserted, Appended, Placed, Done, Byte, Usable, Block, Refused}
use Rattle.rlsf_trace_text.specs.declared.op.Op.{Op}
use Rattle.rlsf_trace_text.specs.declared.op.Op.TheVariants.{Insert, Append, Alloc, Free, FreeUnknown, Realloc, ReallocNoMove, Fill, Put, Get, Usable as OpUsable, Block as OpBlock}
use Rattle.rlsf_trace_runs.specs.Runs.{Does, FreesName, RunState, with_name, without_name}
use Rattle.rlsf_trace_runs.proofs.NamedPayloads.{reallocation_refused}
use Rattle.rlsf_trace_runs.specs.Moments.{name_in, usable_bytes}
use Rattle.rlsf_trace_runs.specs.Steps.Changes.{live_in, Measures, usable_or_zero}
use Rattle.rlsf_trace_runs.proofs.Weights.{IsBlind, weight, weight-allocated, weight-deallocated, weight-filled, weight-reallocated}

-- no payload has the name, or one that weighs so much
abbrev pub WeighsIn : (Used → ℕ) → State → (ℕ → Option ℕ) → ℕ → ℕ → Type 0
WeighsIn f m named name n = ((named name ≡ None) × (n ≡ 0)) ⊎ ((u : Used) × (IsIn u m.used × (named name ≡ Some u.payload)) × (n ≡ f u))

-- so of the payload that is named, if one is
abbrev pub Weighs : (Used → ℕ) → RunState → Option ℕ → ℕ → Type 0
Weighs f s None n = n ≡ 0
Weighs f s (Some name) n = WeighsIn f s.machine s.named name n

module _ (f : Used → ℕ) (m : State) (named : ℕ → Option ℕ) where
  weighs-none : (name n : ℕ) → named name ≡ None → WeighsIn f m named name n → n ≡ 0
  weighs-none name n free (inl (_, is)) = is
  weighs-none name n free (inr (u, (_, its), _)) = let bad : None ≡ Some u.payload = sym free ∙ its in absurd (cc)

  weighs-held : {fllen sllen : ℕ} {memory : Range} → IsWellFormed fllen sllen memory m → (name addr n : ℕ) (u : Used) → named name ≡ Some addr → Holds m addr u
      → WeighsIn f m named name n → n ≡ f u
  weighs-held w name addr n u its held (inl (free, _)) = let bad : None ≡ Some addr = sym free ∙ its in absurd (cc)
  weighs-held w name addr n u its held (inr (v, (i, at), is)) =
      let same : Some v.payload ≡ Some addr = sym at ∙ its in
      let here : v.payload ≡ addr = cc in
      is ∙ ap f (Holds-unique w addr v u (i, here) held)

  weighs-once : {fllen sllen : ℕ} {memory : Range} → IsWellFormed fllen sllen memory m → (name x y : ℕ) → WeighsIn f m named name x → WeighsIn f m named name y
      → x ≡ y
  weighs-once w name x y (inl (free, is)) wy = is ∙ sym (weighs-none name y free wy)
  weighs-once w name x y (inr (u, (i, its), is)) wy = is ∙ sym (weighs-held w name u.payload y u its (i, refl) wy)

-- the name that is set, and the one that is taken away
with_name-here : (name addr : ℕ) (named : ℕ → Option ℕ) → with_name name (Some addr) named name ≡ Some addr
with_name-here name addr named = ap (λ b. cond b (Some addr) (named name)) (eq-eqb name name refl)

without_name-here : (name : ℕ) (named : ℕ → Option ℕ) → without_name name named name ≡ None
without_name-here name named = ap (λ b. cond b None (named name)) (eq-eqb name name refl)

module _ {fllen sllen : ℕ} {memory : Range} (f : Used → ℕ) (blind : IsBlind f) (s t : RunState) (ws : IsWellFormed fllen sllen memory s.machine)
    (wt : IsWellFormed fllen sllen memory t.machine) where
  -- the two sides: what the payload weighed, and what it weighs
  abbrev Balance : State → ℕ → ℕ → Type 0
  Balance m x y = weight f m + x ≡ weight f s.machine + y

  -- by what the state after is
  onto : (m : State) (named : ℕ → Option ℕ) (pools : List Range) (name x y : ℕ) → t ≡ record { machine = m; named = named; pools = pools }
      → (IsWellFormed fllen sllen memory m → WeighsIn f m named name y → Balance m x y) → WeighsIn f t.machine t.named name y → Balance t.machine x y
  onto m named pools name x y is balance wy =
      subst (λ (r : RunState). Balance r.machine x y) (sym is)
      (balance (subst (λ (r : RunState). IsWellFormed fllen sllen memory r.machine) is wt) (subst (λ (r : RunState). WeighsIn f r.machine r.named name y) is wy))

  -- nothing changed
  still : (op : Op) → t ≡ s → (x y : ℕ) → Weighs f s (name_in op) x → Weighs f t (name_in op) y → Balance t.machine x y
  still op is x y wx wy = go (name_in op) wx (subst (λ r. Weighs f r (name_in op) y) is wy)
    where
      same : weight f t.machine ≡ weight f s.machine
      same = ap (λ (r : RunState). weight f r.machine) is

      go : (o : Option ℕ) → Weighs f s o x → Weighs f s o y → Balance t.machine x y
      go None zx zy = omega (arith, same, zx, zy)
      go (Some name) ax ay = omega (arith, same, weighs-once f s.machine s.named ws name x y ax ay)

  -- the payload stayed in its place, and no other changed
  stayed : (m : State) (pools : List Range) (name x y : ℕ) → m ≡ s.machine → t ≡ record { machine = m; named = s.named; pools = pools }
      → WeighsIn f s.machine s.named name x → WeighsIn f t.machine t.named name y → Balance t.machine x y
  stayed m pools name x y same is wx = onto m s.named pools name x y is
      (λ w wy. omega (arith, ap (weight f) same, weighs-once f s.machine s.named ws name x y wx (subst (λ r. WeighsIn f r s.named name y) same wy)))

  -- a payload was deallocated
  freed : (name x y : ℕ) → FreesName s name t → WeighsIn f s.machine s.named name x → WeighsIn f t.machine t.named name y → Balance t.machine x y
  freed name x y (u, (i, its), m, step, is) wx = onto m (without_name name s.named) s.pools name x y is
      (λ w wy. omega (
        arith,
        weight-deallocated f ws u.payload m u (i, refl) step,
        weighs-held f s.machine s.named ws name u.payload x u its (i, refl) wx,
        weighs-none f m (without_name name s.named) name y (without_name-here name s.named) wy,
      ))

  -- a payload was placed
  placed_new : (name size align addr x y : ℕ) (m : State) → s.named name ≡ None → Allocates sllen s.machine size align (Some addr) m
      → t ≡ record { machine = m; named = with_name name (Some addr) s.named; pools = s.pools } → WeighsIn f s.machine s.named name x → WeighsIn f t.machine t.named name y
      → Balance t.machine x y
  placed_new name size align addr x y m free step is wx = onto m (with_name name (Some addr) s.named) s.pools name x y is
      (λ w wy. let (v, held, more) = weight-allocated f sllen s.machine m size align addr step in
      omega (
        arith,
        more,
        weighs-none f s.machine s.named name x free wx,
        weighs-held f m (with_name name (Some addr) s.named) w name addr y v (with_name-here name addr s.named) held wy,
      ))

  -- a payload has another size
  resized : (name size to x y : ℕ) (u : Used) (m : State) (named : ℕ → Option ℕ) → IsIn u s.machine.used → s.named name ≡ Some u.payload
      → Reallocates sllen s.machine u.payload size (Some to) m → named name ≡ Some to
      → t ≡ record { machine = m; named = named; pools = s.pools } → WeighsIn f s.machine s.named name x → WeighsIn f t.machine t.named name y → Balance t.machine x y
  resized name size to x y u m named i its step there is wx = onto m named s.pools name x y is
      (λ w wy. let (v, held, sum) = weight-reallocated f ws u.payload size to m u (i, refl) step in
      omega (arith, sum, weighs-held f s.machine s.named ws name u.payload x u its (i, refl) wx, weighs-held f m named w name to y v there held wy))

  -- a payload was written
  filled : (name x y : ℕ) (u : Used) (bytes : List ℕ) (m : State) → IsIn u s.machine.used → s.named name ≡ Some u.payload → Fills s.machine u.payload bytes m
      → t ≡ record { machine = m; named = s.named; pools = s.pools } → WeighsIn f s.machine s.named name x → WeighsIn f t.machine t.named name y → Balance t.machine x y
  filled name x y u bytes m i its step is wx = onto m s.named s.pools name x y is
      (λ w wy. omega (
        arith,
        weight-filled f blind s.machine m u.payload bytes step,
        weighs-held f s.machine s.named ws name u.payload x step.block its step.holds wx,
        weighs-held f m s.named w name u.payload y (used_with_bytes step.block bytes) its (filled_holds step) wy,
        blind step.block bytes,
      ))

  -- a range became chunks
  given : (m : State) (x y : ℕ) → m.used ≡ s.machine.used → t.machine ≡ m → x ≡ 0 → y ≡ 0 → Balance t.machine x y
  given m x y used is zx zy = omega (arith, ap (λ (r : State). sum_by f r.used) is, ap (sum_by f) used, zx, zy)

  -- over an op the balance holds
  pub balanced : (op : Op) (answer : Answer) → Does fllen sllen memory s op answer t → (x y : ℕ) → Weighs f s (name_in op) x → Weighs f t (name_in op) y
      → Balance t.machine x y
  balanced (Insert r) (Refused error) (_, is) x y wx wy = still (Insert r) is x y wx wy
  balanced op (Refused error) (_, is) x y wx wy = still op is x y wx wy
  balanced (Insert r) (Inserted len) (_, m, step, is) x y wx wy = given m x y (used-inserted fllen s.machine m r (reply len) step) (ap (λ (q : RunState). q.machine) is) wx wy
  balanced (Append r) (Appended more) (_, m, step, is) x y wx wy = given m x y (used-appended fllen s.machine m r more step) (ap (λ (q : RunState). q.machine) is) wx wy
  balanced (Alloc name layout) (Placed None) (_, m, step, is) x y wx wy = stayed m s.pools name x y step.1 is wx wy
  balanced (Alloc name layout) (Placed (Some addr)) (free, m, step, is) x y wx wy = placed_new name layout.size layout.align (non_zero_usize_get addr) x y m free step is wx wy
  balanced (Free name) Done step x y wx wy = freed name x y step wx wy
  balanced (FreeUnknown name) Done step x y wx wy = freed name x y step wx wy
  balanced (Realloc name size) (Placed None) (u, _, _, m, step, is) x y wx wy = stayed m s.pools name x y (reallocation_refused sllen s.machine m u.payload size step) is wx wy
  balanced (Realloc name size) (Placed (Some addr)) (u, (i, its), _, m, step, is) x y wx wy =
      let to = non_zero_usize_get addr in
      resized name size to x y u m (with_name name (Some to) s.named) i its step (with_name-here name to s.named) is wx wy
  balanced (ReallocNoMove name size) (Placed None) (u, _, _, m, step, is) x y wx wy =
      stayed m s.pools name x y (unmoved_is_reallocated sllen s.machine m u.payload size None step).1 is wx wy
  balanced (ReallocNoMove name size) (Placed (Some addr)) (u, (i, its), _, m, step, is) x y wx wy =
      let to = non_zero_usize_get addr in
      let (there, moved) = (unmoved_is_reallocated sllen s.machine m u.payload size (Some to) step).0 in
      resized name size to x y u m s.named i its moved (its ∙ ap Some (sym there)) is wx wy
  balanced (Fill name byte) Done (u, (i, its), m, step, is) x y wx wy = filled name x y u (replicate (usable u).len byte) m i its step is wx wy
  balanced (Put name offset byte) Done (u, (i, its), _, m, step, is) x y wx wy = filled name x y u (slice_set u.bytes offset byte) m i its step is wx wy
  balanced (Get name offset) (Byte read) (_, _, _, _, is) x y wx wy = still (Get name offset) is x y wx wy
  balanced (OpUsable name) (Usable bytes) (_, _, _, is) x y wx wy = still (OpUsable name) is x y wx wy
  balanced (OpBlock r index) (Block block) (_, _, _, _, is) x y wx wy = still (OpBlock r index) is x y wx wy
  balanced op answer step x y wx wy = absurd step

-- ---- the moment of a payload, by two measures

-- every used block counts as one
abbrev pub one : Used → ℕ
one u = 1

-- as many as its usable bytes
abbrev pub length_of : Used → ℕ
length_of u = (usable u).len

weight-one : (us : List Used) → sum_by one us ≡ length us
weight-one [] = refl
weight-one (u ∷ us) = omega (arith, sum_by-cons one u us, weight-one us)

pub Weighs-live : (s : RunState) (o told : Option ℕ) → Measures s o told → Weighs one s o (live_in told)
Weighs-live s None told is = ap live_in is
Weighs-live s (Some name) None is = inl (is, refl)
Weighs-live s (Some name) (Some bytes) (u, owns, _) = inr (u, owns, refl)

pub Weighs-bytes : (s : RunState) (o told : Option ℕ) → Measures s o told → Weighs length_of s o (usable_or_zero told)
Weighs-bytes s None told is = ap usable_or_zero is
Weighs-bytes s (Some name) None is = inl (is, refl)
Weighs-bytes s (Some name) (Some bytes) (u, owns, is) = inr (u, owns, is)

module _ {fllen sllen : ℕ} {memory : Range} (s t : RunState) (ws : IsWellFormed fllen sllen memory s.machine) (wt : IsWellFormed fllen sllen memory t.machine)
    (op : Op) (answer : Answer) (does : Does fllen sllen memory s op answer t) (before after : Option ℕ) (was : Measures s (name_in op) before)
    (is : Measures t (name_in op) after) where
  pub live-balanced : length t.machine.used + live_in before ≡ length s.machine.used + live_in after
  live-balanced =
      omega (
        arith,
        balanced one (λ u bytes. refl) s t ws wt op answer does (live_in before) (live_in after) (Weighs-live s (name_in op) before was) (Weighs-live t (name_in op) after is),
        weight-one t.machine.used,
        weight-one s.machine.used,
      )

  pub usable-balanced : usable_bytes t.machine.used + usable_or_zero before ≡ usable_bytes s.machine.used + usable_or_zero after
  usable-balanced =
      balanced length_of (λ u bytes. refl) s t ws wt op answer does (usable_or_zero before) (usable_or_zero after) (Weighs-bytes s (name_in op) before was)
      (Weighs-bytes t (name_in op) after is)
