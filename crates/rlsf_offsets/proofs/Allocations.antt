-- A range of units is allocated.
use Rattle.std.proofs.Common.{◌≡◌, ◌≢◌, ◌⊎◌, ℕ, ◌+◌, ◌-◌, ◌*◌, ◌/◌, ◌%◌, ◌^◌, ◌<◌, ◌≤◌, length, Option, Some, None, arith, inl, inr, refl, sym, ◌∙◌, ap, subst}
use Rattle.std.proofs.lemmas.Bool.{cases_lt}
use Rattle.std.proofs.lemmas.Nat.{pow-add}
use Rattle.std.proofs.Math.Nat.{div-add-mod', mul-mod_right, mul-sub}
use Rattle.std.proofs.lemmas.Option.{none-some}
use Rattle.std.specs.Prelude.{IfNone, IfSome}
use Rattle.rlsf_base.specs.declared.memory.range.Range.{Range}
use Rattle.rlsf_model_sizes.specs.PowerOfTwo.{IsPowerOfTwo, floor_log2}
use Rattle.rlsf_base.specs.Layout.{IsLayout}
use Rattle.rlsf_model_sizes.specs.SizeClass.{Reaches, class_of}
use Rattle.rlsf_model_sizes.specs.Sizes.{request_size}
use Rattle.rlsf_base.proofs.Numbers.PowersOfTwo.{IsPowerOfTwo-pow, pow-between}
use Rattle.rlsf_base.proofs.Numbers.Roundings.{next_multiple_of-multiple}
use Rattle.rlsf_base.proofs.SizeClasses.Reach.{Reaches-class_of, Reaches-from_slack}
use Rattle.rlsf_model.specs.Lists.{IsIn}
use Rattle.rlsf_model.specs.Allocate.{Allocates, Places, placed}
use Rattle.rlsf_model.specs.Payload.{payload_of}
use Rattle.rlsf_model.specs.Sized.{live_count}
use Rattle.rlsf_model.specs.State.{State, Used}
use Rattle.rlsf_model.proofs.CallerWords.{align_at-live}
use Rattle.rlsf_model.proofs.Payloads.{IsUsed-aligned}
use Rattle.rlsf_model.proofs.Tiling.{tiling_of, IsPart-free}
use Rattle.rlsf_model.proofs.Room.{refused_without_reach}
use Rattle.rlsf_tlsf.specs.Allocator.{Allocator}
use Rattle.rlsf_tlsf.specs.Results.{IsAllocated}
use Rattle.rlsf_offsets.specs.Units.{AreWhole, HasNoRoomFor, IsSizedForUnits, SucceedsWithin, KeepsSizedFor, IsReserved, IsShadow, Offsets, offsets, place, units_at}
use Rattle.rlsf_model.specs.Sized.{IsSizedFor}
use Rattle.rlsf_model.proofs.SizedWords.{never_refused}
use Rattle.rlsf_tlsf.specs.Bounds.{IfWithinBounds, KeepsBounds}
use Rattle.rlsf_offsets.proofs.Blocks.{lies_part}
use Rattle.rlsf_offsets.proofs.Ranges.{IsSpace-shadow, align_of-live, align_of-same, seated, units_at-live, units_at-none, units_at-same}

pub IsLayout-units : (n align : ℕ) → IsPowerOfTwo align → align ≤ 2 ^ 56 → n ≤ 2 ^ 56 → IsLayout (32 * (n - 1)) (32 * align)
IsLayout-units n align power low few =
    let k = floor_log2 align in
    let times : 32 * align ≡ 2 ^ (5 + k) = ap (λ m. 32 * m) power ∙ sym (pow-add 2 5 k) in
    record { aligned = subst IsPowerOfTwo (sym times) (IsPowerOfTwo-pow (5 + k)); fits = omega arith }

multiple_of : (x wide align : ℕ) → wide ≡ 32 * align → x % wide ≡ 0 → x ≡ 32 * (x / wide * align)
multiple_of x wide align e none =
    let product : x / wide * wide ≡ x / wide * (32 * align) = ap (λ m. x / wide * m) e in
    omega (arith, div-add-mod' x wide)

AreWhole-placed : (s t : State) (size wide align addr : ℕ) → wide ≡ 32 * align → 0 < align → Places 8 s size wide addr t → AreWhole s → AreWhole t
AreWhole-placed s t size wide align addr e some step whole u i =
    let f = step.range in
    let j : (u ≡ placed f size wide step.bytes) ⊎ IsIn u s.used = subst (λ (x : State). IsIn u x.used) step.after i in
    elim j [
      | inl same ↦
          let m = multiple_of (payload_of f.start wide) wide align e (next_multiple_of-multiple (f.start + 16) wide (omega arith)) in
          (omega (arith, ap (λ (x : Used). x.payload) same), omega (arith, e, ap (λ (x : Used). x.align) same))
      | inr k ↦ whole u k
    ]

module _ {units : ℕ} {a : Allocator} (is : IsShadow units a) (b : Allocator) (n align size wide : ℕ) (es : size ≡ 32 * (n - 1)) (ea : wide ≡ 32 * align)
    (some : 0 < n) (wider : 0 < align) where
  sought : request_size size wide ≡ 32 * (n + align - 1)
  sought = omega arith

  pub AreWhole-allocated : (reply : Option ℕ) → Allocates 8 a.state size wide reply b.state → AreWhole b.state
  AreWhole-allocated None step = subst AreWhole (sym step.1) is.whole
  AreWhole-allocated (Some addr) step = AreWhole-placed a.state b.state size wide align addr ea wider step is.whole

  -- refused: the class of no free range reaches
  pub IsFull-refused : Allocates 8 a.state size wide None b.state → HasNoRoomFor (offsets units a) (n + align - 1)
  unfolding HasNoRoomFor
  IsFull-refused step = subst (λ m. (f : Range) → IsIn f a.state.free → Reaches 8 (class_of 8 f.len) m → ⊥) sought
      ((refused_without_reach 8 (request_size size wide) a.state.free).0 step.0)

  pub IsFull-answered : (addr : ℕ) → Allocates 8 a.state size wide (Some addr) b.state → HasNoRoomFor (offsets units a) (n + align - 1) → ⊥
  unfolding HasNoRoomFor
  IsFull-answered addr step full =
      let none = (refused_without_reach 8 (request_size size wide) a.state.free).1
      (subst (λ m. (f : Range) → IsIn f a.state.free → Reaches 8 (class_of 8 f.len) m → ⊥) (sym sought) full) in
      none-some step.range (sym none ∙ step.chosen)

-- more units than the space has are in no free range
pub HasNoRoomFor-longer : {units : ℕ} {a : Allocator} → IsShadow units a → (m : ℕ) → units < m → HasNoRoomFor (offsets units a) m
unfolding HasNoRoomFor
HasNoRoomFor-longer {units} {a} is m more f i reaches =
    let whole = is.stands.well_formed.free f i in
    let lies = lies_part is f whole.some whole.whole.len (IsPart-free a.state (tiling_of is.stands.well_formed) f i) in
    omega (arith, lies.from, lies.to, Reaches-class_of 8 f.len whole.some (32 * m) (omega arith) reaches)

-- each free range has fewer units than those that are sought and an eighth of them
abbrev pub IsAllShort : Offsets → ℕ → Type 0
IsAllShort v m = (f : Range) → IsIn f v.shadow.state.free → 8 * f.len < 9 * (32 * m)

pub IsAllShort-full : (v : Offsets) (m : ℕ) → 0 < m → HasNoRoomFor v m → IsAllShort v m
unfolding HasNoRoomFor
IsAllShort-full v m some full f i = elim (cases_lt (8 * f.len) (9 * (32 * m))) [
  | inl short ↦ short
  | inr long ↦ absurd (full f i (Reaches-from_slack 8 f.len (omega arith) (32 * m) (omega arith)))
]

module _ {units : ℕ} {a b : Allocator} (is : IsShadow units a) (after : IsShadow units b) (n align size wide addr : ℕ) (es : size ≡ 32 * (n - 1))
    (ea : wide ≡ 32 * align) (some : 0 < n) (power : IsPowerOfTwo align) (low : align ≤ 2 ^ 56) (made : IsAllocated a.state b.state size wide addr) where
  abbrev pub offset : ℕ
  offset = (addr - 2 ^ 62) / 32

  is_place : (2 ^ 62 ≤ addr) × (addr ≡ place offset)
  is_place =
      let (u, held, same) = align_at-live b.state addr wide made.live in
      let seat = seated after.stands.well_formed after.whole u held.0 in
      (omega arith, omega arith)

  is_aligned : offset % align ≡ 0
  is_aligned =
      let (u, held, same) = align_at-live b.state addr wide made.live in
      let divides : addr % wide ≡ 0 = subst (λ m. addr % m ≡ 0) same (subst (λ x. x % u.align ≡ 0) held.1 (IsUsed-aligned u (after.stands.well_formed.used u held.0))) in
      let k = floor_log2 align in
      let few : k ≤ 56 = pow-between align k 56 (omega (arith, power)) (omega arith) in
      let q = addr / wide in
      let r = 2 ^ (57 - k) in
      let exponent : 57 ≡ 57 - k + k = omega arith in
      let whole : 2 ^ 57 ≡ r * align = ap (λ m. 2 ^ m) exponent ∙ pow-add 2 (57 - k) k ∙ ap (λ m. r * m) (sym power) in
      let far : addr ≡ 32 * (q * align) = multiple_of addr wide align ea divides in
      let steps : offset ≡ align * (q - r) = omega (arith, is_place.0, is_place.1, mul-sub align q r) in
      subst (λ m. m % align ≡ 0) (sym steps) (mul-mod_right align (q - r))

  pub IsReserved-allocated : length b.memory.bytes ≡ length a.memory.bytes → IsReserved (offsets units a) (offsets units b) n align offset
  IsReserved-allocated long =
      let here = subst (IsAllocated a.state b.state size wide) is_place.1 made in
      let live : units_at (offsets units b) offset ≡ Some n = units_at-live (offsets units b) offset wide here.live ∙ ap (λ m. Some m) (omega arith) in
      let new : units_at (offsets units a) offset ≡ None = units_at-none (offsets units a) offset here.new in
      let others : (o : ℕ) → o ≢ offset → units_at (offsets units b) o ≡ units_at (offsets units a) o = λ o other.
      let apart : place o ≢ place offset = λ e. other (omega (arith, e)) in
      units_at-same (offsets units a) (offsets units b) o (here.aligns (place o) apart) (here.bytes (place o) apart) in
      record {
        live = live;
        new = new;
        inside = ((IsSpace-shadow after).inside offset n live).1;
        aligned = is_aligned;
        apart = λ o m told.
            let other : o ≢ offset = λ e. none-some m (sym new ∙ ap (units_at (offsets units a)) (sym e) ∙ told) in
            (IsSpace-shadow after).apart o m offset n (others o other ∙ told) live other;
        has_align = align_of-live (offsets units b) offset wide here.live ∙ ap (λ m. Some m) (omega (arith, ea));
        others = λ o other.
            let apart : place o ≢ place offset = λ e. other (omega (arith, e)) in
            (others o other, align_of-same (offsets units a) (offsets units b) o (here.aligns (place o) apart));
        space = refl;
        limit = ap (λ k. k / 32 - 1) long;
      }

  pub is_high : 2 ^ 62 ≤ addr
  is_high = is_place.0

-- ---- bounds

module _ {units : ℕ} {a : Allocator} (is : IsShadow units a) (n align : ℕ) (some : 0 < n) (wider : 0 < align) where
  -- a space that is sized for some bounds isn't full within them
  not_full : (count most widest : ℕ) → IsSizedForUnits count most widest (offsets units a) → live_count a.state ≤ count → n ≤ most → align ≤ widest
      → HasNoRoomFor (offsets units a) (n + align - 1) → ⊥
  unfolding HasNoRoomFor
  not_full count most widest sized few short fits full =
      let size = 32 * (n - 1) in
      let wide = 32 * align in
      let sought : request_size size wide ≡ 32 * (n + align - 1) = omega arith in
      let none = (refused_without_reach 8 (request_size size wide) a.state.free).1
      (subst (λ m. (f : Range) → IsIn f a.state.free → Reaches 8 (class_of 8 f.len) m → ⊥) (sym sought) full) in
      never_refused is.stands.well_formed a.state count (32 * (most - 1)) (32 * widest) sized size wide few (omega (arith, short)) (omega (arith, fits)) (none, refl)

  pub within-full : (P : Type 0) → HasNoRoomFor (offsets units a) (n + align - 1) → SucceedsWithin (offsets units a) n align P
  unfolding SucceedsWithin
  within-full P full = λ count most widest sized few short fits. absurd (not_full count most widest sized few short fits full)

module _ (v x : Offsets) (n align size wide : ℕ) (es : size ≡ 32 * (n - 1)) (ea : wide ≡ 32 * align) where
  pub within-room : (P : Type 0) → IfWithinBounds 8 v.shadow.state size wide P → SucceedsWithin v n align P
  unfolding SucceedsWithin
  within-room P room = λ count most widest sized few short fits. room count (32 * (most - 1)) (32 * widest) sized few (omega (arith, short)) (omega (arith, fits))

  pub sized-kept : KeepsBounds 8 v.shadow.state x.shadow.state size wide → KeepsSizedFor v x n align
  unfolding KeepsSizedFor
  sized-kept kept = λ count most widest sized short fits. kept count (32 * (most - 1)) (32 * widest) sized (omega (arith, short)) (omega (arith, fits))

pub sized-same : (v x : Offsets) (n align : ℕ) → x.shadow.state ≡ v.shadow.state → KeepsSizedFor v x n align
unfolding KeepsSizedFor
sized-same v x n align same = λ count most widest sized short fits. subst (IsSizedFor 8 count (32 * (most - 1)) (32 * widest)) (sym same) sized

-- ---- what is said of a call that returned `None`

pub if_some : {A : Type 0} {r : Option A} (Is : A → Type 0) → r ≡ None → IfSome r Is
if_some Is none = subst (λ o. IfSome o Is) (sym none) tt

pub if_none : {A : Type 0} {r : Option A} (Is : Type 0) → r ≡ None → Is → IfNone r Is
if_none Is none is = subst (λ o. IfNone o Is) (sym none) is
