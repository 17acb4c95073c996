-- The fields of an allocator of units: a core, whose memory's bytes are its own.
use Rattle.std.proofs.Common.{◌≡◌, ℕ, ◌+◌, ◌-◌, ◌*◌, ◌^◌, ◌<◌, ◌≤◌, [], ◌∷◌, length, lit<, Option, None, IsSome, arith, refl, sym, ◌∙◌, ap, subst}
use Rattle.rlsf_base.specs.declared.memory.range.Range.{Range}
use Rattle.rlsf_base.specs.Space.{range_of}
use Rattle.rlsf_model.specs.Callers.{align_at, bytes_at}
use Rattle.rlsf_model.specs.Lists.{IsIn}
use Rattle.rlsf_model.specs.Sized.{live_count}
use Rattle.rlsf_model.specs.State.{State, Used}
use Rattle.rlsf_model.specs.Insert.{Inserts}
use Rattle.rlsf_model.specs.State.{empty}
use Rattle.rlsf_model.proofs.CallerWords.{bytes_at-held}
use Rattle.rlsf_model.proofs.Payloads.{IsUsed-after_start, IsUsed-some}
use Rattle.rlsf_model.proofs.Tiling.{tiling_of, lies_in_chunk, IsPart-used}
use Rattle.rlsf_tlsf.specs.Allocator.{Allocator}
use Rattle.rlsf_tlsf.specs.Cores.{IsCore, IsOwnFound, LeavesCore}
use Rattle.rlsf_tlsf.specs.Steps.Moves.{bare}
use Rattle.rlsf_offsets.specs.Units.{AreWhole, IsUnitAllocator, whole_shadow, IsShadow, place}
use Rattle.rlsf_base.specs.OpenSpace.{IsOwned}
use Rattle.rlsf_model_sizes.specs.SizeClass.{IsValid}
use Rattle.rlsf_base.specs.Space.{Space}
use Rattle.rlsf_blocks.specs.Laws.{read_from}
use Rattle.rlsf_blocks.specs.StandsFor.{contents}
use Rattle.rlsf_blocks.specs.Steps.LiveBlock.{AtEachBlock, IsLiveIn}
use Rattle.rlsf_model.specs.State.{usable}
use Rattle.rlsf_model.proofs.CallerWords.{align_at-some}
use Rattle.rlsf_table.specs.Table.{Table}
use Rattle.rlsf_base.specs.Changes.{IsAllOwn}
use Rattle.rlsf_blocks.proofs.RepresentedStates.EmptyState.{StandsFor-empty}
use Rattle.rlsf_blocks.specs.StandsFor.{StandsFor}
use Rattle.rlsf_model.specs.Insert.{IsFresh}
use Rattle.rlsf_model.proofs.SizedWords.{live_count-empty}
use Rattle.rlsf_table.specs.Table.{HasTable}
use Rattle.rlsf_offsets.proofs.Frees.{AreWhole-none, no_chunk, shadow_chunk}

is_valid : IsValid 128 128 59 8
is_valid = record { some_rows = lit< tt; rows_fit = omega arith; power_of_two = refl; classes_fit = omega arith }

pub IsCore-kept : {units : ℕ} {m : Space} {t : Table} {s : State} → IsUnitAllocator units m t s → IsCore 59 8 m t s
IsCore-kept is = record { valid = is_valid; stands = is.shadow.stands; is_bare = is.is_bare }

-- after a call on the core that leaves one chunk of the shadow of some units, the memory is that shadow
pub IsUnitAllocator-longer : {from to : ℕ} {m n : Space} {t y : Table} {j k : State} {most : ℕ} → IsUnitAllocator from m t j → LeavesCore 59 8 m n y j k most
    → 32 * to + 32 ≤ length m.bytes → AreWhole (read_from n k) → (0 < to → (read_from n k).chunks ≡ whole_shadow to ∷ [])
    → (to ≡ 0 → (read_from n k).chunks ≡ []) → IsUnitAllocator to n y k
IsUnitAllocator-longer {m = m} {n = n} is left long whole chunks none =
    let shadow = is.shadow in
    let start = left.costs.start in
    let len = left.costs.length in
    let most = shadow.most in
    record {
      shadow = record {
        stands = left.core.stands;
        own = λ a from to. left.own a (omega (arith, from, start)) ∙ shadow.own a (omega (arith, from, start)) (omega (arith, to, start, len));
        start = start ∙ shadow.start;
        len = omega (arith, len, long);
        few = omega (arith, most, long);
        most = omega (arith, len, most);
        whole = whole;
        chunks = chunks;
        none = none;
      };
      is_bare = left.core.is_bare;
    }

-- so after one that keeps the chunks, it is the shadow of the same space
pub IsUnitAllocator-left : {units : ℕ} {m n : Space} {t y : Table} {j k : State} {most : ℕ} → IsUnitAllocator units m t j → LeavesCore 59 8 m n y j k most
    → (read_from n k).chunks ≡ (read_from m j).chunks → AreWhole (read_from n k) → IsUnitAllocator units n y k
IsUnitAllocator-left is left chunks whole =
    let shadow = is.shadow in
    IsUnitAllocator-longer is left shadow.len whole (λ some. chunks ∙ shadow.chunks some) (λ zero. chunks ∙ shadow.none zero)

-- each byte of a payload is the memory's own
pub own_payload : {units : ℕ} {a : Allocator} → IsShadow units a → (u : Used) → IsIn u a.state.used → IsOwned a.memory (usable u)
own_payload {units} {a} is u i =
    let w = is.stands.well_formed in
    let used = w.used u i in
    let home = lies_in_chunk a.state (tiling_of w) u.block (IsUsed-some u used) (IsPart-used a.state (tiling_of w) u i) in
    let chunk = w.chunks home.chunk home.is_chunk in
    λ p from to. is.own p (omega (arith, from, IsUsed-after_start u used, chunk.lies_in.0, home.from)) (omega (arith, to, IsUsed-after_start u used, chunk.lies_in.1, home.to))

-- the live range at a unit has a used block, whose payload is the memory's own
pub own_found : {units : ℕ} {m : Space} {t : Table} {s : State} → IsUnitAllocator units m t s → (first addr : ℕ) → addr ≡ place first
    → IsSome (align_at (read_from m s) (place first)) → IsOwnFound m (read_from m s) addr None
own_found {m = m} {s = s} is first addr at some =
    let (u, holds) = align_at-some (read_from m s) (place first) some in
    (u, ((holds.0, holds.1 ∙ sym at), tt), own_payload is.shadow u holds.0)

-- so its bytes are found by words
pub live_found : {units : ℕ} {m : Space} {t : Table} {s : State} → IsUnitAllocator units m t s → (first addr : ℕ) → addr ≡ place first
    → IsSome (align_at (read_from m s) (place first)) → IsLiveIn m addr
live_found {m = m} {t = t} {s = s} is first addr at some =
    let (u, holds) = align_at-some (read_from m s) (place first) some in
    (59, 8, contents m t, read_from m s, refl, is.shadow.stands, (u, (holds.0, holds.1 ∙ sym at)))

-- and so is its length
pub found_len : {units : ℕ} {m : Space} {t : Table} {s : State} → IsUnitAllocator units m t s → (first addr : ℕ) → addr ≡ place first
    → IsSome (align_at (read_from m s) (place first)) → (r : Range) → AtEachBlock m addr (λ u. r ≡ usable u) → r.len ≡ length (bytes_at (read_from m s) (place first))
found_len {m = m} {t = t} {s = s} is first addr at some r each =
    let w = is.shadow.stands.well_formed in
    let (u, holds) = align_at-some (read_from m s) (place first) some in
    let range = each 59 8 (contents m t) (read_from m s) u refl is.shadow.stands (holds.0, holds.1 ∙ sym at) in
    ap (λ (x : Range). x.len) range ∙ sym (w.used u holds.0).bytes ∙ ap length (sym (bytes_at-held w (place first) u holds))

-- ---- a new space

module _ {m : Space} {t : Table} (bounds : (0 < m.start) × (m.start + length m.bytes < 2 ^ 64)) (table : HasTable 59 8 m t []) (own : IsAllOwn m.out) (s : State)
    (none : s ≡ empty) where
  read : read_from m s ≡ empty
  read = ap (read_from m) none

  pub IsCore-new : IsCore 59 8 m t s
  IsCore-new = record {
    valid = is_valid;
    stands = subst (StandsFor 59 8 (contents m t)) (sym read) (StandsFor-empty is_valid bounds table);
    is_bare = ap bare none ∙ sym none;
  }

  pub IsFresh-new : (r : Range) → m.start ≡ r.start → r.len ≤ length m.bytes → IsFresh (range_of m) (read_from m s) r
  IsFresh-new r start len =
      subst (λ (x : State). IsFresh (range_of m) x r) (sym read) (record { lies_in = (omega (arith, start), omega (arith, start, len)); apart = λ a from to. refl })

  pub none_live-new : live_count (read_from m s) ≡ 0
  none_live-new = ap live_count read ∙ live_count-empty

  pub IsKept-new : (units most : ℕ) → units ≤ most → most ≤ 2 ^ 56 → m.start ≡ 2 ^ 62 - 32 → length m.bytes ≡ 32 * most + 32
      → {n : Space} {y : Table} {k : State} {cost : ℕ} → LeavesCore 59 8 m n y s k cost → (r : Range) → r ≡ whole_shadow units → (reply : Option ℕ)
      → Inserts 59 (read_from m s) r reply (read_from n k) → live_count (read_from n k) ≡ 0 → IsUnitAllocator units n y k
  IsKept-new units most fits few start len {n} {y} {k} left r same reply step count =
      let chunks = shadow_chunk units r (read_from m s) (read_from n k) reply same (ap (λ (x : State). x.chunks) read) step in
      let none = no_chunk units r (read_from m s) (read_from n k) reply same (ap (λ (x : State). x.chunks) read) step in
      record {
        shadow = record {
          stands = left.core.stands;
          own = λ a from to. left.own a (omega (arith, from, left.costs.start)) ∙ own (a - m.start);
          start = left.costs.start ∙ start;
          len = omega (arith, left.costs.length, len, fits);
          few = omega (arith, fits, few);
          most = omega (arith, left.costs.length, len, few);
          whole = AreWhole-none (read_from n k) count;
          chunks = chunks;
          none = none;
        };
        is_bare = left.core.is_bare;
      }
