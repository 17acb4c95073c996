-- What is true of a checked allocator's fields over the steps.
use Rattle.std.proofs.Common.{◌≡◌, ◌≢◌, ℕ, zero, suc, ◌+◌, ◌-◌, ◌%◌, ◌^◌, ◌<◌, ◌≤◌, cond, Option, None, Some, arith, refl}
use Rattle.std.proofs.Common.{sym, ◌∙◌, ap, subst, inl, inr}
use Rattle.std.proofs.lemmas.Bool.{cases_eq, cases_lt, le-leb, lt-leb}
use Rattle.std.proofs.Math.Nat.{mod-eq_of_lt}
use Rattle.rlsf_base.specs.declared.memory.layout.Layout.{Layout}
use Rattle.rlsf_base.specs.Layout.{IsLayout}
use Rattle.rlsf_model_sizes.specs.PowerOfTwo.{IsPowerOfTwo, floor_log2}
use Rattle.rlsf_base.specs.Range.{end_of}
use Rattle.rlsf_base.specs.Space.{SamePlace, range_of}
use Rattle.rlsf_base.proofs.Numbers.PowersOfTwo.{IsPowerOfTwo-pow, pow-between}
use Rattle.rlsf_blocks.specs.Blocks.{walked}
use Rattle.rlsf_model.specs.Callers.{align_at}
use Rattle.rlsf_model.specs.Lists.{IsIn}
use Rattle.rlsf_model.specs.Reallocate.{Reallocates}
use Rattle.rlsf_model.specs.Run.{reallocate}
use Rattle.rlsf_model.specs.State.{State}
use Rattle.rlsf_model.proofs.CallerWords.{align_at-live, align_at-none}
use Rattle.rlsf_model.proofs.Callers.{callers_see_map}
use Rattle.rlsf_model.proofs.ChunkRows.{IsRow-same}
use Rattle.rlsf_model.proofs.Live.{payload_lies_in_one_chunk}
use Rattle.rlsf_model.proofs.Payloads.{IsUsed-after_start, IsUsed-aligned, IsUsed-even}
use Rattle.rlsf_tlsf.specs.Allocator.{Allocator, Stands, Steps}
use Rattle.rlsf_checked.specs.Answers.{size_refusal}
use Rattle.rlsf_checked.specs.Checked.{PoolList}
use Rattle.rlsf_checked.specs.declared.error.CheckedError.TheVariants.{NoLayout}
use Rattle.rlsf_codes.specs.declared.codes.Codes.{Codes}
use Rattle.rlsf_checked.specs.Steps.Marks.{mark_of}
use Rattle.rlsf_codes.specs.Codes.{HasPlace, code_at}
use Rattle.rlsf_checked.specs.Steps.Standing.{IsChecked}

-- the allocator after a step is valid
pub stands_after : (fllen sllen : ℕ) (v w : Allocator) (step : State → Type 0) → Steps fllen sllen v w step → Stands fllen sllen w
unfolding Steps
stands_after fllen sllen v w step did = did.1

-- and the reference model made the step
pub step_of : (fllen sllen : ℕ) (v w : Allocator) (step : State → Type 0) → Steps fllen sllen v w step → step w.state
unfolding Steps
step_of fllen sllen v w step did = did.0

-- ---- where payloads live

-- an address whose payload has an alignment is a multiple of 16 in the memory, and the alignment has one of 64 logarithms
pub record IsPlace (v : Allocator) (addr align : ℕ) : Type 0 where
  pub even : addr % 16 ≡ 0
  pub low : v.memory.start ≤ addr
  pub high : addr ≤ end_of (range_of v.memory)
  pub power : IsPowerOfTwo align
  pub short : floor_log2 align < 64

-- a multiple of a number that isn't 0 is at least that number
divisor-le : (n m : ℕ) → 0 < n → n % m ≡ 0 → m ≤ n
divisor-le n zero some whole = omega arith
divisor-le n (suc m) some whole = grind (arith, cases_lt, mod-eq_of_lt)

pub live_place : (fllen sllen : ℕ) (v : Allocator) → Stands fllen sllen v → (addr align : ℕ) → align_at v.state addr ≡ Some align → IsPlace v addr align
unfolding Stands
live_place fllen sllen v stands addr align is =
    let w = stands.well_formed in
    let (u, held, aligned) = align_at-live v.state addr align is in
    let used = w.used u held.0 in
    let (c, i, from, to, _) = payload_lies_in_one_chunk fllen sllen (range_of v.memory) v.state u w held.0 in
    let chunk = w.chunks c i in
    let (low, high) = chunk.lies_in in
    let at : u.payload ≡ addr = held.1 in
    let behind : u.block.start + 16 ≤ u.payload = IsUsed-after_start u used in
    let within = used.within in
    let below : addr ≤ end_of (range_of v.memory) = omega arith in
    let few : u.align ≤ u.payload = divisor-le u.payload u.align (omega arith) (IsUsed-aligned u used) in
    let power : IsPowerOfTwo align = subst IsPowerOfTwo aligned used.power in
    let small : 2 ^ floor_log2 align < 2 ^ 64 = omega (arith, power, few, aligned, w.addressable, below, at) in
    record {
      even = omega (arith, at, IsUsed-even u used);
      low = omega (arith, low, from, at);
      high = below;
      power = power;
      short = log-lt (floor_log2 align) small;
    }
  where
    log-lt : (k : ℕ) → 2 ^ k < 2 ^ 64 → k < 64
    log-lt k small = let most = pow-between (2 ^ 64 - 1) k 63 (omega arith) (omega arith) in omega arith

-- ---- marks

module _ {fllen sllen : ℕ} {v : Allocator} {m : Codes ℕ} {pools : PoolList} (is : IsChecked fllen sllen v m pools) where
  -- and a mark shows the alignment of one
  pub marked_as : (addr : ℕ) → (code_at m addr ≡ 0 → ⊥)
      → (align_at v.state addr ≡ Some (2 ^ (code_at m addr - 1))) × (1 ≤ code_at m addr) × (code_at m addr ≤ 64) × IsPowerOfTwo (2 ^ (code_at m addr - 1))
  marked_as addr some = go (align_at v.state addr) refl
    where
      go : (o : Option ℕ) → align_at v.state addr ≡ o
          → (align_at v.state addr ≡ Some (2 ^ (code_at m addr - 1))) × (1 ≤ code_at m addr) × (code_at m addr ≤ 64) × IsPowerOfTwo (2 ^ (code_at m addr - 1))
      go None e = absurd (some (is.marked addr ∙ ap mark_of e))
      go (Some align) e =
          let place = live_place fllen sllen v is.stands addr align e in
          let mark : code_at m addr ≡ suc (floor_log2 align) = is.marked addr ∙ ap mark_of e in
          let less : code_at m addr - 1 ≡ floor_log2 align = omega (arith, mark) in
          let power : align ≡ 2 ^ (code_at m addr - 1) = place.power ∙ ap (λ k. 2 ^ k) (sym less) in
          (e ∙ ap Some power, omega (arith, mark), omega (arith, mark, place.short), IsPowerOfTwo-pow (code_at m addr - 1))

  -- a live address has a mark
  pub has_mark : (w : Allocator) → Stands fllen sllen w → SamePlace v.memory w.memory → (a addr align : ℕ) → a ≡ addr → align_at w.state addr ≡ Some align → HasPlace m a
  has_mark w stands place a addr align same live =
      let there = live_place fllen sllen w stands addr align live in
      subst (HasPlace m) (sym same) (is.covers addr there.even (omega (arith, there.low, place.0)) (omega (arith, there.high, place.0, place.1)))

  -- an address without a place has the mark of none
  pub no_mark : m.none ≡ 0
  no_mark = by (align_at v.state 1) refl
    where
      by : (o : Option ℕ) → align_at v.state 1 ≡ o → m.none ≡ 0
      by None e = is.marked 1 ∙ ap mark_of e
      by (Some align) e = let there = live_place fllen sllen v is.stands 1 align e in absurd (omega (arith, there.even))

  -- a step that keeps place, chunks and edges, with the marks of the payloads after it
  pub kept : (w : Allocator) (n : Codes ℕ) → Stands fllen sllen w → SamePlace v.memory w.memory → w.state.chunks ≡ v.state.chunks
      → ((a : ℕ) → HasPlace m a → HasPlace n a) → ((a : ℕ) → code_at n a ≡ mark_of (align_at w.state a)) → IsChecked fllen sllen w n pools
  kept w n stands place chunks places marked = record {
    stands = stands;
    marked = marked;
    covers = λ a even low high. places a (is.covers a even (omega (arith, place.0, low)) (omega (arith, place.0, place.1, high)));
    low = omega (arith, is.low, place.0);
    high = omega (arith, is.high, place.0, place.1);
    pools = record {
      each = λ p one. let pool = is.pools.each p one in record { room = pool.room; row = IsRow-same v.state w.state (walked p) chunks pool.row };
      order = is.pools.order;
      behind = is.pools.behind;
      homes = λ c i. is.pools.homes c (subst (IsIn c) chunks i);
    };
  }

  -- one mark was set, as the payload at its address shows, and no other payload changed its alignment
  pub marked_at : (w : Allocator) (n : Codes ℕ) (b addr : ℕ) → b ≡ addr → Stands fllen sllen w → SamePlace v.memory w.memory → w.state.chunks ≡ v.state.chunks
      → ((a : ℕ) → HasPlace m a → HasPlace n a) → code_at n b ≡ mark_of (align_at w.state addr) → ((a : ℕ) → a ≢ b → code_at n a ≡ code_at m a)
      → ((a : ℕ) → a ≢ addr → align_at w.state a ≡ align_at v.state a)
      → IsChecked fllen sllen w n pools
  marked_at w n b addr at stands place chunks places here marks aligns = kept w n stands place chunks places (λ a. elim (cases_eq a addr) [
    | inl same ↦ ap (code_at n) (same ∙ sym at) ∙ here ∙ ap (λ x. mark_of (align_at w.state x)) (sym same)
    | inr apart ↦ marks a (λ e. apart (e ∙ at)) ∙ is.marked a ∙ ap mark_of (sym (aligns a apart))
  ])

  -- no mark was set, and no payload changed its alignment
  pub unchanged : (w : Allocator) → Stands fllen sllen w → SamePlace v.memory w.memory → w.state.chunks ≡ v.state.chunks → align_at w.state ≡ align_at v.state
      → IsChecked fllen sllen w m pools
  unchanged w stands place chunks aligns = kept w m stands place chunks (λ a has. has) (λ a. is.marked a ∙ ap (λ f. mark_of (f a)) (sym aligns))

  -- a payload got another size: no mark is left where it was, and then its mark was set where it is
  pub marked_moved : (w : Allocator) (left n : Codes ℕ) (b addr d to align : ℕ) → b ≡ addr → d ≡ to → Stands fllen sllen w → SamePlace v.memory w.memory
      → w.state.chunks ≡ v.state.chunks
      → ((a : ℕ) → HasPlace m a → HasPlace n a) → ((a : ℕ) → a ≢ b → code_at left a ≡ code_at m a) → code_at left b ≡ 0
      → ((a : ℕ) → a ≢ d → code_at n a ≡ code_at left a) → code_at n d ≡ suc (floor_log2 align) → align_at w.state to ≡ Some align
      → (to ≢ addr → align_at w.state addr ≡ None)
      → ((a : ℕ) → a ≢ addr → a ≢ to → align_at w.state a ≡ align_at v.state a) → IsChecked fllen sllen w n pools
  marked_moved w left n b addr d to align at at_to stands place chunks places others cleared new set live gone aligns =
      kept w n stands place chunks places (λ a. elim (cases_eq a to) [
        | inl there ↦ ap (code_at n) (there ∙ sym at_to) ∙ set ∙ sym (ap mark_of (ap (align_at w.state) there ∙ live))
        | inr apart ↦ let news = new a (λ e. apart (e ∙ at_to)) in elim (cases_eq a addr) [
          | inl here ↦ news ∙ ap (code_at left) (here ∙ sym at) ∙ cleared ∙ sym (ap mark_of (ap (align_at w.state) here ∙ gone (λ same. apart (here ∙ sym same))))
          | inr other ↦ news ∙ others a (λ e. other (e ∙ at)) ∙ is.marked a ∙ ap mark_of (sym (aligns a other apart))
        ]
      ])

-- a payload that moved is not at its old address
pub left_behind : (fllen sllen : ℕ) (v : Allocator) → Stands fllen sllen v → (t : State) (addr align size to : ℕ) → align_at v.state addr ≡ Some align
    → Reallocates sllen v.state addr size (Some to) t
    → to ≢ addr → align_at t addr ≡ None
unfolding Stands
left_behind fllen sllen v stands t addr align size to is step apart =
    let (u, held, aligned) = align_at-live v.state addr align is in
    let resized = callers_see_map fllen sllen (range_of v.memory) v.state t (reallocate addr size (Some to)) stands.well_formed (u, held) step in
    align_at-none t addr (resized.left apart)

-- with a layout's size and alignment, none is refused
pub size_fits : (layout : Layout) (size align : ℕ) → layout.size ≡ size → layout.align ≡ align → size_refusal (Some align) size ≡ None
size_fits layout size align long aligned = ap (λ t. cond t None (Some NoLayout)) (le-leb (size + align) (2 ^ 63) (omega (arith, layout.valid.fits, long, aligned)))

-- with those of none, one is
pub size_past : (size align : ℕ) → IsPowerOfTwo align → (IsLayout size align → ⊥) → size_refusal (Some align) size ≡ Some NoLayout
size_past size align power none = grind (arith, cases_lt, lt-leb)
