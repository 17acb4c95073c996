-- States whose blocks all have one length.
use Rattle.std.specs.Prelude.{◌≡◌, ◌↔◌, ℕ, ◌+◌, ◌-◌, ◌*◌, ◌/◌, List, [], ◌∷◌, ◌≤◌, None}
use Rattle.rlsf_base.specs.declared.memory.range.Range.{Range}
use Rattle.rlsf_model_sizes.specs.Sizes.{request_size}
use Rattle.rlsf_model.specs.Budget.{live_after}
use Rattle.rlsf_model.specs.Lists.{IsIn}
use Rattle.rlsf_model.specs.Run.{Event, insert, append, allocate, deallocate, reallocate, fill, remove, trim}
use Rattle.rlsf_model.specs.State.{State, Used}

-- an address lies a whole number of lengths behind another one
abbrev pub IsTimes : ℕ → ℕ → ℕ → Type 0
IsTimes from len a = (k : ℕ) × (a ≡ from + k * len)

-- c is the only chunk, and each used block has the length. Blocks and free ranges begin at whole multiples of that length behind the
-- chunk's start
pub record IsUniform (len : ℕ) (c : Range) (s : State) : Type 0 where
  pub chunks : s.chunks ≡ c ∷ []
  pub used : (u : Used) → IsIn u s.used → (u.block.len ≡ len) × IsTimes c.start len u.block.start
  pub free : (f : Range) → IsIn f s.free → IsTimes c.start len f.start

-- the call requests a block of that length at an alignment of 32 or less, deallocates one, or writes one
abbrev pub AsksUniformly : ℕ → Event → Type 0
AsksUniformly len (insert r reply) = ⊥
AsksUniformly len (append r reply) = ⊥
AsksUniformly len (allocate size align reply) = (request_size size align ≡ len) × (align ≤ 32)
AsksUniformly len (deallocate addr) = Unit {0}
AsksUniformly len (reallocate addr size reply) = ⊥
AsksUniformly len (fill addr bytes) = Unit {0}
AsksUniformly len (remove r) = ⊥
AsksUniformly len (trim n) = ⊥

-- the call requests a payload of that size at an alignment of 16 or less, deallocates one, or writes one
abbrev pub AsksForObject : ℕ → Event → Type 0
AsksForObject asked (insert r reply) = ⊥
AsksForObject asked (append r reply) = ⊥
AsksForObject asked (allocate size align reply) = (size ≡ asked) × (align ≤ 16)
AsksForObject asked (deallocate addr) = Unit {0}
AsksForObject asked (reallocate addr size reply) = ⊥
AsksForObject asked (fill addr bytes) = Unit {0}
AsksForObject asked (remove r) = ⊥
AsksForObject asked (trim n) = ⊥

-- how many blocks of a length a chunk has room for
abbrev pub blocks_in : ℕ → Range → ℕ
blocks_in len c = (c.len - 32) / len

-- an allocation is refused exactly where n is the most
abbrev pub IsDeniedOnlyAt : ℕ → ℕ → Event → Type 0
IsDeniedOnlyAt most n (insert r reply) = Unit {0}
IsDeniedOnlyAt most n (append r reply) = Unit {0}
IsDeniedOnlyAt most n (allocate size align reply) = (reply ≡ None) ↔ (n ≡ most)
IsDeniedOnlyAt most n (deallocate addr) = Unit {0}
IsDeniedOnlyAt most n (reallocate addr size reply) = Unit {0}
IsDeniedOnlyAt most n (fill addr bytes) = Unit {0}
IsDeniedOnlyAt most n (remove r) = Unit {0}
IsDeniedOnlyAt most n (trim k) = Unit {0}

-- and so is each allocation of a list of calls, where n payloads are live before the first one
abbrev pub AreDeniedOnlyAt : ℕ → ℕ → List Event → Type 0
AreDeniedOnlyAt most n [] = Unit {0}
AreDeniedOnlyAt most n (e ∷ es) = IsDeniedOnlyAt most n e × AreDeniedOnlyAt most (live_after e n) es
