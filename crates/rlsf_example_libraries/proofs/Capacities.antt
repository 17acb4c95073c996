-- Pools of objects, over the calls of their items.
use Rattle.std.proofs.Common.{◌≡◌, ◌↔◌, ◌⊎◌, ℕ, ◌+◌, ◌-◌, ◌*◌, ◌/◌, ◌<◌, ◌≤◌, Bool, true, false, cond, ◌&&◌, nat_eq, nat_le}
use Rattle.std.proofs.Common.{nat_lt, List, [], ◌∷◌, ◌++◌, length, length-append, replicate, Option, Some, None, Result, Ok, Err, IfOk, IsErr, OnOk, OnErr, lit<, arith}
use Rattle.std.proofs.Common.{refl, sym, ◌∙◌, ap, subst, inl, inr}
use Rattle.std.proofs.lemmas.Bool.{cases_Bool, cases_lt, false≢true, lt-ltb}
use Rattle.std.proofs.lemmas.Bool.Decides.{nat_tests}
use Rattle.std.proofs.lemmas.List.{length-replicate}
use Rattle.std.proofs.lemmas.Nat.{div-add-mod', le-div}
use Rattle.std.proofs.lemmas.Option.{none-some, same_Some}
use Rattle.std.proofs.Math.Nat.{mul-le-mul_right}
use Rattle.std.specs.List.{AllByRecursion}
use Rattle.rlsf_base.specs.Layout.{IsLayout}
use Rattle.std.specs.Map.{lookup, remove_entry, set_value}
use Rattle.rlsf_model_sizes.specs.SizeClass.{IsValid, Reaches, class_of}
use Rattle.rlsf_model_sizes.specs.Sizes.{IsSize, pool_size_to_contain_allocation, request_size}
use Rattle.rlsf_base.proofs.Numbers.Roundings.{round32-le, round32-multiple}
use Rattle.rlsf_base.proofs.SizeMaps.Laws.{pool_contains_its_allocation}
use Rattle.rlsf_base.specs.declared.memory.range.Range.{Range}
use Rattle.rlsf_model.specs.Insert.{aligned_part}
use Rattle.rlsf_model.specs.Uniform.{IsUniform}
use Rattle.rlsf_model.proofs.PoolLengths.{HasBudget-reached}
use Rattle.rlsf_example_libraries.specs.Budgets.{HasBudgetOf, HasBytesFor}
use Rattle.rlsf_example_libraries.specs.Capacities.{IsObjectPool, IsSpread, IsTiled}
use Rattle.rlsf_example_libraries.specs.Handled.{Handled}
use Rattle.rlsf_example_libraries.specs.Objects.{HaveSize, Pool, capacity_of, capacity_with}
use Rattle.rlsf_example_libraries.specs.Stored.{FitsPool}
use Rattle.rlsf_example_libraries.specs.Tiles.{HasTileFor, KeepsUniform}
use Rattle.rlsf_example_libraries.proofs.Entries.{AllByRecursion-remove_entry, AllByRecursion-set_value}

-- the items as callers of a pool see them
abbrev pub shown : ℕ → ℕ → ℕ → Handled → Pool
shown size align capacity h = record { objects = h.lists; next = h.next; size = size; align = align; memory = h.memory; capacity = capacity }

-- ---- a pool after a call

-- other objects of the size, no more than the capacity, in the same memory
pub IsObjectPool-after : (o n : Handled) (size align capacity : ℕ) → IsObjectPool o size align capacity → n.align ≡ o.align → n.memory ≡ o.memory
    → HaveSize size n.lists → length n.lists ≤ capacity
    → (align ≤ 32 → KeepsUniform o.state n.state (request_size size align)) → IsObjectPool n size align capacity
IsObjectPool-after o n size align capacity pool same_align same_memory sized within keeps = record {
  aligned = same_align ∙ pool.aligned;
  sized = sized;
  within = within;
  fits = λ fits. pool.fits (subst (λ m. FitsPool m size align) same_memory fits);
  room = elim pool.room [
    | inl spread ↦ inl (subst (λ m. IsSpread m size align capacity) (sym same_memory) spread)
    | inr tiled ↦ inr (record {
      small = tiled.small;
      begins = tiled.begins;
      room = λ some. subst (λ m. capacity * request_size size align + 32 ≤ (aligned_part m).len) (sym same_memory) (tiled.room some);
      uniform = λ some. subst (λ m. IsUniform (request_size size align) (aligned_part m) n.state) (sym same_memory)
          (keeps tiled.small (aligned_part o.memory) (tiled.uniform some));
    })
  ];
}

HaveSize-more : (size : ℕ) (es : List (ℕ × List ℕ)) (n : ℕ) → HaveSize size es → HaveSize size (es ++ (n, replicate size 0) ∷ [])
HaveSize-more size [] n sized = (length-replicate {A = ℕ} size 0, tt)
HaveSize-more size (e ∷ es) n (first, rest) = (first, HaveSize-more size es n rest)

-- one more object is out, or none, and then there was no memory for its handle
pub IsObjectPool-taken : {E : Type 0} (r : Result ℕ E) (o n : Handled) (size align capacity : ℕ) → IsObjectPool o size align capacity → length o.lists < capacity
    → IfOk r (λ handle. (handle ≡ o.next) × (n ≡ record o { lists = o.lists ++ (handle, replicate size 0) ∷ []; next = handle + 1; state = n.state }))
    → OnErr r (n ≡ record o { state = n.state })
    → (align ≤ 32 → KeepsUniform o.state n.state (request_size size align)) → IsObjectPool n size align capacity
IsObjectPool-taken (Ok handle) o n size align capacity pool few (_, taken) refused keeps =
    let lists : n.lists ≡ o.lists ++ (handle, replicate size 0) ∷ [] = ap (λ h. h.lists) taken in
    let more : length n.lists ≡ length o.lists + 1 = ap length lists ∙ length-append o.lists ((handle, replicate size 0) ∷ []) in
    IsObjectPool-after o n size align capacity pool (ap (λ h. h.align) taken) (ap (λ h. h.memory) taken)
    (subst (HaveSize size) (sym lists) (HaveSize-more size o.lists handle pool.sized)) (omega (arith, more, few)) keeps
IsObjectPool-taken (Err e) o n size align capacity pool few taken refused keeps =
    let lists : n.lists ≡ o.lists = ap (λ h. h.lists) refused in
    IsObjectPool-after o n size align capacity pool (ap (λ h. h.align) refused) (ap (λ h. h.memory) refused) (subst (HaveSize size) (sym lists) pool.sized)
    (omega (arith, few, ap length lists)) keeps

length-remove_entry : {A : Type 0} (test : ℕ → Bool) (es : List (ℕ × A)) → length (remove_entry test es) ≤ length es
length-remove_entry test [] = omega arith
length-remove_entry test (e ∷ es) = elim (cases_Bool (test e.0)) [
  | inl here ↦ rw here (omega arith)
  | inr other ↦ rw other (omega (arith, length-remove_entry test es))
]

-- where the test finds an entry, one less is left
length-remove_entry_found : {A : Type 0} (test : ℕ → Bool) (es : List (ℕ × A)) → (lookup test es ≡ None → ⊥) → length (remove_entry test es) < length es
length-remove_entry_found test [] found = absurd (found refl)
length-remove_entry_found test (e ∷ es) found = elim (cases_Bool (test e.0)) [
  | inl here ↦ rw here (omega (arith, length-remove_entry test es))
  | inr other ↦ rw other (omega (arith, length-remove_entry_found test es (λ none. found (rw other none))))
]

-- once one is returned, fewer are out than the capacity
pub room_given_back : {T E : Type 0} (r : Result T E) (o n : Handled) (size align capacity handle : ℕ) (P : Type 0) → IsObjectPool o size align capacity
    → OnOk r ((n ≡ record o { lists = remove_entry (nat_eq handle) o.lists; state = n.state }) × P) → IsErr r ↔ (lookup (nat_eq handle) o.lists ≡ None)
    → OnOk r (length n.lists < capacity)
room_given_back (Ok x) o n size align capacity handle P pool (gone, _) unknown =
    let less = length-remove_entry_found (nat_eq handle) o.lists (λ none. false≢true (unknown.1 none)) in
    omega (arith, less, ap (λ h. length h.lists) gone, pool.within)
room_given_back (Err e) o n size align capacity handle P pool gone unknown = tt

length-set_value : {A : Type 0} (test : ℕ → Bool) (es : List (ℕ × A)) (x : A) → length (set_value test es x) ≡ length es
length-set_value test [] x = refl
length-set_value test (e ∷ es) x = elim (cases_Bool (test e.0)) [
  | inl here ↦ rw here (omega arith)
  | inr other ↦ rw other (omega (arith, length-set_value test es x))
]

-- one is returned, or its handle is unknown
pub IsObjectPool-given_back : {T E : Type 0} (r : Result T E) (o n : Handled) (size align capacity handle : ℕ) (P : Type 0) → IsObjectPool o size align capacity
    → OnOk r ((n ≡ record o { lists = remove_entry (nat_eq handle) o.lists; state = n.state }) × P) → OnErr r (n ≡ o)
    → ((len : ℕ) → KeepsUniform o.state n.state len) → IsObjectPool n size align capacity
IsObjectPool-given_back (Ok x) o n size align capacity handle P pool (gone, _) refused keeps =
    let lists : n.lists ≡ remove_entry (nat_eq handle) o.lists = ap (λ h. h.lists) gone in
    IsObjectPool-after o n size align capacity pool (ap (λ h. h.align) gone) (ap (λ h. h.memory) gone)
    (subst (HaveSize size) (sym lists) (AllByRecursion-remove_entry (λ e. length e.1 ≡ size) _ _ pool.sized))
    (omega (arith, ap length lists, length-remove_entry (nat_eq handle) o.lists, pool.within)) (λ _. keeps (request_size size align))
IsObjectPool-given_back (Err e) o n size align capacity handle P pool removed refused keeps = subst (λ h. IsObjectPool h size align capacity) (sym refused) pool

-- one has other bytes
pub IsObjectPool-set : (o n : Handled) (size align capacity handle : ℕ) (bytes : List ℕ) → length bytes ≡ size → IsObjectPool o size align capacity
    → n ≡ record o { lists = set_value (nat_eq handle) o.lists bytes; state = n.state }
    → ((len : ℕ) → KeepsUniform o.state n.state len) → IsObjectPool n size align capacity
IsObjectPool-set o n size align capacity handle bytes long pool set keeps =
    let lists : n.lists ≡ set_value (nat_eq handle) o.lists bytes = ap (λ h. h.lists) set in
    IsObjectPool-after o n size align capacity pool (ap (λ h. h.align) set) (ap (λ h. h.memory) set)
    (subst (HaveSize size) (sym lists) (AllByRecursion-set_value (λ e. length e.1 ≡ size) _ _ _ (λ _ _ _. long) pool.sized))
    (omega (arith, ap length lists, length-set_value (nat_eq handle) o.lists bytes, pool.within)) (λ _. keeps (request_size size align))

-- ---- room

at_most : (size : ℕ) (es : List (ℕ × List ℕ)) → HaveSize size es → AllByRecursion (λ (e : ℕ × List ℕ). length e.1 ≤ size) es
at_most size [] sized = tt
at_most size (e ∷ es) (first, rest) = (omega (arith, first), at_most size es rest)

-- a pool of which fewer are out than its capacity has room for all that it is asked for
pub pool_has_room : (h : Handled) (size align capacity : ℕ) (Refused : Type 0) → IsObjectPool h size align capacity → length h.lists < capacity
    → (h.lists ≡ [] → FitsPool h.memory size align → Refused → ⊥)
    → ((live n : ℕ) → HasBudgetOf h live n → size ≤ n → Refused → ⊥) → ((d : Range) → HasTileFor h.state d size align (length h.lists) → Refused → ⊥)
    → Refused → ⊥
pool_has_room h size align capacity Refused pool few empty enough tiled refused = elim pool.room [
  | inl spread ↦ go spread h.lists refl
  | inr tiles ↦
      let len = request_size size align in
      let more : (length h.lists + 1) * len ≤ capacity * len = mul-le-mul_right len (omega (arith, few)) in
      tiled (aligned_part h.memory) (record { uniform = tiles.uniform (omega (arith, few)); begins = tiles.begins; room = omega (arith, more, tiles.room (omega (arith, few))) })
      refused
]
  where
    go : IsSpread h.memory size align capacity → (es : List (ℕ × List ℕ)) → h.lists ≡ es → ⊥
    go spread [] none = empty none (spread.one (omega (arith, few))) refused
    go spread (e ∷ es) some =
        let count : length h.lists ≡ length es + 1 = omega (arith, ap length some) in
        enough (length es + 1) size (record {
          few = omega (arith, count);
          layout = subst (IsLayout size) (sym pool.aligned) spread.layout;
          small = at_most size h.lists pool.sized;
          bytes = subst (HasBytesFor h.memory (length es + 1) size) (sym pool.aligned) (spread.more (length es) (omega (arith, few, count)));
        }) (omega arith) refused

-- ---- a new pool

-- the block of a pool that is made for an allocation is taken for it
pool_taken : (size align least : ℕ) → pool_size_to_contain_allocation 59 8 size align ≡ Some least → IsSize (least - 32)
    × Reaches 8 (class_of 8 (least - 32)) (request_size size align)
pool_taken size align least told =
    let is = pool_contains_its_allocation 64 64 59 8 size align least (record { some_rows = lit< tt; rows_fit = omega arith; power_of_two = refl; classes_fit = omega arith })
    told in
    ((omega (arith, is.0), omega (arith, is.0, is.1.1)), is.3)

-- one more of so many lengths fits
rooms : (n len least block : ℕ) → 64 ≤ least → least ≤ len → n + 1 ≤ (len - least) / (block + (least - 64)) → (n + 1) * block + (n + 1) * (least - 32 - 32)
    + (least - 32 + 32) ≤ len
rooms n len least block some long few =
    let d = block + (least - 64) in
    let whole : (len - least) / d * d ≤ len - least = omega (arith, div-add-mod' (len - least) d) in
    let times : (n + 1) * d ≤ (len - least) / d * d = mul-le-mul_right d few in
    let parts : (n + 1) * d ≡ (n + 1) * block + (n + 1) * (least - 64) = product (n + 1) block (least - 64) in
    let same : least - 32 - 32 ≡ least - 64 = omega arith in
    let product' : (n + 1) * (least - 32 - 32) ≡ (n + 1) * (least - 64) = ap (λ k. (n + 1) * k) same in
    omega (arith, whole, times, parts, product')
  where
    product : (a b c : ℕ) → a * (b + c) ≡ a * b + a * c
    product a b c = omega arith

module _ (h : Handled) (size align : ℕ) (layout : IsLayout size align) (aligned : h.align ≡ align) (none : h.lists ≡ [])
    (fresh : (len : ℕ) → 64 ≤ (aligned_part h.memory).len → IsUniform len (aligned_part h.memory) h.state) where
  abbrev len : ℕ
  len = (aligned_part h.memory).len

  abbrev block : ℕ
  block = request_size size align

  some : 32 ≤ block
  some = omega (arith, round32-multiple (size + (align - 16) + 16), round32-le (size + (align - 16) + 16))

  made : (capacity : ℕ) → (FitsPool h.memory size align → 1 ≤ capacity) → IsSpread h.memory size align capacity ⊎ IsTiled h size align capacity
      → IsObjectPool h size align capacity
  made capacity fits room = record { aligned = aligned; sized = subst (HaveSize size) (sym none) tt; within = omega (arith, ap length none); fits = fits; room = room }

  made_of_none : (FitsPool h.memory size align → ⊥) → IsObjectPool h size align 0
  made_of_none not = made 0 (λ fits. absurd (not fits)) (inl (record { layout = layout; one = λ bad. absurd (omega arith); more = λ n bad. absurd (omega arith) }))

  module _ (least : ℕ) (told : pool_size_to_contain_allocation 59 8 size align ≡ Some least) (long : least ≤ len) where
    abbrev blocks : ℕ
    blocks = (len - 32) / block

    blocks-fit : blocks * block ≤ len - 32
    blocks-fit = omega (arith, div-add-mod' (len - 32) block)

    valid : IsValid 64 64 59 8
    valid = record { some_rows = lit< tt; rows_fit = omega arith; power_of_two = refl; classes_fit = omega arith }

    contained : (64 ≤ least) × Reaches 8 (class_of 8 (least - 32)) block
    contained = let is = pool_contains_its_allocation 64 64 59 8 size align least valid told in (is.0, is.3)

    spread : IsObjectPool h size align ((len - least) / (block + (least - 64)) + 1)
    spread = made ((len - least) / (block + (least - 64)) + 1) (λ _. omega arith) (inl (record {
      layout = layout;
      one = λ _. (least, told, long);
      more = λ n less.
          let taken = pool_taken size align least told in
          HasBudget-reached (n + 1) block 8 (least - 32) (aligned_part h.memory) taken.0 taken.1 (rooms n len least block contained.0 long (omega (arith, less)));
    }))

    tiled : align ≤ 32 → least ≡ block + 32 → IsObjectPool h size align blocks
    tiled small is = made blocks (λ _. le-div 1 (len - 32) block (omega (arith, some)) (omega (arith, is, long))) (inr (record {
      small = small;
      begins = subst (λ n. Reaches 8 (class_of 8 n) block) (omega (arith, is)) contained.1;
      room = λ _. omega (arith, blocks-fit, is, long);
      uniform = λ _. fresh block (omega (arith, is, long, some));
    }))

    of_test : (b : Bool) → (nat_le align 32 && nat_eq least (block + 32)) ≡ b → IsObjectPool h size align (cond b blocks ((len - least) / (block + (least - 64)) + 1))
    of_test true e = tiled (grind (arith, nat_tests)) (grind (arith, nat_tests))
    of_test false e = spread

    of_length : (b : Bool) → nat_lt len least ≡ b → IsObjectPool h size align
        (cond b 0 (cond (nat_le align 32 && nat_eq least (block + 32)) blocks ((len - least) / (block + (least - 64)) + 1)))
    of_length true e = absurd (grind (arith, nat_tests))
    of_length false e = of_test (nat_le align 32 && nat_eq least (block + 32)) refl

  of_pool : (o : Option ℕ) → pool_size_to_contain_allocation 59 8 size align ≡ o → IsObjectPool h size align (capacity_with len align block o)
  of_pool None e = made_of_none (λ (least, told, long). none-some least (sym e ∙ told))
  of_pool (Some least) e = elim (cases_lt len least) [
    | inl short ↦
        subst (λ b. IsObjectPool h size align (cond b 0 (cond (nat_le align 32 && nat_eq least (block + 32)) ((len - 32) / block) ((len - least) / (block + (least - 64)) + 1))))
        (sym (lt-ltb len least short))
        (made_of_none (λ (other, told, long). let same : least ≡ other = same_Some least other (sym e ∙ told) in omega (arith, short, long, same)))
    | inr long ↦ of_length least e long (nat_lt len least) refl
  ]

  -- of the capacity that is computed
  pub IsObjectPool-new : IsObjectPool h size align (capacity_of len size align)
  IsObjectPool-new = of_pool (pool_size_to_contain_allocation 59 8 size align) refl
